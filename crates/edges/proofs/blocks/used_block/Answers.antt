-- A block is used where the eight tests pass: laws of Runs.
use Prim.Native.Nat.{◌+◌}
use native.Mathlib.Omega.{arith}
use borrow.Author.Tests.{not-true}
use Rattle.tables.proofs.Runs.{no_rows, one_more, block-of-eight}
use Rattle.edges.proofs.blocks.used_block.Goals as goal

pub loop-k-init : goal.loop-k-init
loop-k-init g c = λ e. no_rows _ c.args.i (c.args.i + 0) (omega arith)

pub loop-k-preserved : goal.loop-k-preserved
loop-k-preserved g c =
    one_more _ c.args.i c.loop-k.k c.loop-k.used _ c.loop-k.invariant (not-true _)

pub returns : goal.returns
returns g c =
    λ e. block-of-eight _ c.args.i c.loop-k.k (omega arith) (omega arith) (c.loop-k.invariant e)
