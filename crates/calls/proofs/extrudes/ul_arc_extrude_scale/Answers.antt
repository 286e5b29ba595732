-- The call leaves and replies what `changed` does. Assumes nothing.
use Rattle.std.proofs.Common.{rules}
use Rattle.rules.specs.Call.{arc_extrude}
use Rattle.calls.proofs.extrudes.ul_arc_extrude_scale.Goals as goal

pub returns : goal.returns
unfolding arc_extrude
returns c = let is = c.changed.ensures.shown in search rules
