use mathlib.Core.Path.{refl}
use Rattle.names.specs.Slots.{slot_of}
use Rattle.names.proofs.slot_of.Goals as goal

pub returns : goal.returns
unfolding slot_of
returns c = refl
