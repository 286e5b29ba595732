-- The call leaves and replies what `changed` does. Assumes nothing.
use Rattle.std.proofs.Common.{rules}
use Rattle.rules.specs.Call.{arc_bridge_call}
use Rattle.calls.proofs.bridges.ul_arc_bridge.Goals as goal

pub returns : goal.returns
unfolding arc_bridge_call
returns c = let is = c.changed.ensures.shown in search rules
