-- `pairs::marked::block_marked` meets its contract. The loop keeps that, without a mark so far, no row gone through has one; laws of Runs
-- and Blocks. Assumes nothing.
use Prim.Native.Nat.{◌+◌}
use mathlib.Core.Path.{◌≡◌}
use mathlib.Core.Bool.{false}
use Rattle.pairs.specs.Pairs.{NoMarks}
use Rattle.pairs.proofs.marked.block_marked.Given as goal

abbrev pub invariant-loop-k : goal.invariant-loop-k
invariant-loop-k l = l.marked ≡ false → NoMarks l.arcs l.seen l.i (l.i + l.k)
