-- The loop keeps how far both searches have come, and each way out is an end of both; laws of Seeking.
-- Assumes nothing.
use Prim.Native.Nat.{◌-◌, ◌≤◌}
use mathlib.Core.List.{◌++◌}
use lib.ListN.{length}
use Rattle.std.specs.Option.{is_some, unwrap_or}
use Rattle.insert.proofs.Seeking.{ComesOut, ComesBack}
use Rattle.insert.proofs.search.free_arcs.Given as goal

abbrev pub invariant-loop-k : goal.invariant-loop-k
invariant-loop-k l =
    (l.k ≤ length l.arcs)
    × (ComesOut l.arcs l.edges (l.mine ++ l.others) l.first l.k l.x l.saved (is_some l.out) (unwrap_or l.out 0) × ComesBack l.arcs l.edges (l.mine ++ l.others) l.first l.k l.x l.saved (is_some l.back) (unwrap_or l.back 0))

abbrev pub decreases-loop-k : goal.decreases-loop-k
decreases-loop-k l = length l.arcs - l.k
