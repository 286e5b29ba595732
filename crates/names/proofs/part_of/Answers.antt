use mathlib.Core.Path.{refl}
use Rattle.names.specs.Slots.{part_of}
use Rattle.names.proofs.part_of.Goals as goal

pub returns : goal.returns
unfolding part_of
returns c = refl
