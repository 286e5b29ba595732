-- The call leaves and replies what `changed` does. Assumes nothing.
use Rattle.std.proofs.Common.{rules}
use Rattle.rules.specs.Call.{face_bridge}
use Rattle.calls.proofs.faces.ul_face_bridge.Goals as goal

pub returns : goal.returns
unfolding face_bridge
returns c = let is = c.changed.ensures.shown in search rules
