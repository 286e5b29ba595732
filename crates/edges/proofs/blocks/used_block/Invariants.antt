-- Where all tests so far passed, the rows gone through are used.
use Prim.Native.Nat.{◌+◌}
use mathlib.Core.Path.{◌≡◌}
use mathlib.Core.Bool.{true}
use Rattle.edges.specs.Free.{UsedRows}
use Rattle.edges.proofs.blocks.used_block.Given as goal

abbrev pub invariant-loop-k : goal.invariant-loop-k
invariant-loop-k g l = l.used ≡ true → UsedRows l.rows l.i (l.i + l.k)
