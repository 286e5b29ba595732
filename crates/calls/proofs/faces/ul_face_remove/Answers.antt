-- The call leaves and replies what `changed` does. Assumes nothing.
use Rattle.std.proofs.Common.{rules}
use Rattle.rules.specs.Call.{face_remove}
use Rattle.calls.proofs.faces.ul_face_remove.Goals as goal

pub returns : goal.returns
unfolding face_remove
returns c = let is = c.changed.ensures.shown in search rules
