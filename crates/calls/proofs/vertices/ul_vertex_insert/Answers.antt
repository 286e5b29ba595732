-- The call leaves and replies what `changed` does. Assumes nothing.
use Rattle.std.proofs.Common.{rules}
use Rattle.rules.specs.Call.{vertex_insert}
use Rattle.calls.proofs.vertices.ul_vertex_insert.Goals as goal

pub returns : goal.returns
unfolding vertex_insert
returns c = let is = c.changed.ensures.shown in search rules
