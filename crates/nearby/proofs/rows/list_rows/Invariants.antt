-- `nearby::rows::list_rows` meets its contract. The loop keeps what stands in the list after the rows passed by; laws of Listing. Assumes nothing.
use Prim.Native.Nat.{◌-◌, ◌≤◌}
use lib.ListN.{length, take}
use Rattle.nearby.specs.Rows.{ListedTo}
use Rattle.nearby.proofs.rows.list_rows.Given as goal

abbrev pub invariant-loop-i : goal.invariant-loop-i
invariant-loop-i l = (l.i ≤ length l.arcs) × ((l.n ≤ 2048) × ListedTo l.arcs l.edges l.seen (take l.n l.list) l.i)

abbrev pub decreases-loop-i : goal.decreases-loop-i
decreases-loop-i l = length l.arcs - l.i
