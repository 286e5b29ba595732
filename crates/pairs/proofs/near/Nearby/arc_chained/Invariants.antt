-- `pairs::near::Nearby::arc_chained` meets its contract. The loop keeps the least link of the chain from its place on; laws of Lookup. Assumes nothing.
use Prim.Native.Nat.{◌-◌, ◌%◌, ◌≤◌}
use mathlib.Core.Path.{◌≡◌}
use Rattle.pairs.specs.Near.{source_at}
use Rattle.pairs.proofs.Lookup.{Walked}
use Rattle.pairs.proofs.near.Nearby.arc_chained.Given as goal

abbrev pub invariant-loop-k : goal.invariant-loop-k
invariant-loop-k l = (l.k ≤ l.self.chained) × ((1 ≤ l.k → source_at l.arcs l.self.links (l.k - 1) % 128 ≡ l.a % 128) × Walked l.arcs l.a l.b l.self.links l.self.chained l.k l.m)

abbrev pub decreases-loop-k : goal.decreases-loop-k
decreases-loop-k l = l.k
