-- `pairs::near::Nearby::list` meets its contract. The loop keeps what stands in the list after the rows passed by; laws of Listing. Assumes nothing.
use Prim.Native.Nat.{◌-◌, ◌≤◌}
use mathlib.Core.Path.{◌≡◌}
use lib.ListN.{length}
use Rattle.pairs.specs.Near.{Met}
use Rattle.pairs.proofs.near.Nearby.list.Given as goal

abbrev pub invariant-loop-i : goal.invariant-loop-i
invariant-loop-i l = (l.i ≤ length l.arcs) × (Met l.arcs l.self l.i l.left × (l.self.seen ≡ l.initial.self.seen))

abbrev pub decreases-loop-i : goal.decreases-loop-i
decreases-loop-i l = length l.arcs - l.i
