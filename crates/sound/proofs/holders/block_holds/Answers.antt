-- `sound::holders::block_holds` meets its contract. The loop keeps that, with all tests passed so far, every row gone through holds a face; laws
-- of Runs. Assumes nothing.
use Prim.Native.Nat.{◌+◌}
use native.Mathlib.Omega.{arith}
use mathlib.Core.Path.{sym, ◌∙◌}
use Rattle.tables.proofs.Runs.{no_rows, one_more, block-of-eight}
use Rattle.sound.proofs.holders.block_holds.Goals as goal

pub loop-k-init : goal.loop-k-init
loop-k-init c = let a = c.args in λ e. no_rows _ a.i (a.i + 0) (omega arith)

pub loop-k-preserved : goal.loop-k-preserved
loop-k-preserved c =
    let a = c.args in
    one_more _ a.i c.loop-k.k c.loop-k.all c.holds_some-all.result c.loop-k.invariant (λ e. sym c.holds_some-all.ensures ∙ e)

pub returns : goal.returns
returns c =
    let a = c.args in
    λ e. block-of-eight _ a.i c.loop-k.k (omega arith) (omega arith) (c.loop-k.invariant e)
