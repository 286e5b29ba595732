-- The call leaves and replies what `changed` does. Assumes nothing.
use Rattle.std.proofs.Common.{rules}
use Rattle.rules.specs.Call.{face_extrude}
use Rattle.calls.proofs.extrudes.ul_face_extrude_shift.Goals as goal

pub returns : goal.returns
unfolding face_extrude
returns c = let is = c.changed.ensures.shown in search rules
