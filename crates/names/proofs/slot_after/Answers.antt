use mathlib.Core.Path.{refl}
use Rattle.names.specs.Slots.{slot_after}
use Rattle.names.proofs.slot_after.Goals as goal

pub returns : goal.returns
unfolding slot_after
returns c = refl
