-- `tables::zeros::zero_block` meets its contract. The loop keeps that, where all tests so far passed, the rows gone through are zero; laws of
-- Runs. Assumes nothing.
use Prim.Native.Nat.{◌+◌}
use mathlib.Core.Path.{◌≡◌}
use mathlib.Core.Bool.{true}
use Rattle.tables.specs.Sets.{ZeroRows}
use Rattle.tables.proofs.zeros.zero_block.Given as goal

abbrev pub invariant-loop-k : goal.invariant-loop-k
invariant-loop-k g l = l.zero ≡ true → ZeroRows g.row.N l.t l.i (l.i + l.k)
