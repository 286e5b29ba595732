-- `sound::holders::skip_blocks` meets its contract. The loop keeps that every row gone through holds a face; laws of Runs. Assumes nothing.
use Prim.Native.Nat.{◌+◌}
use Rattle.tables.proofs.Runs.{no_rows, join_runs}
use borrow.Author.Rules.{rules}
use Rattle.sound.proofs.holders.skip_blocks.Goals as goal

pub loop-i-init : goal.loop-i-init
loop-i-init c = let a = c.args in (search rules, (search rules, no_rows _ a.from a.from (search rules)))

pub returns-then-not-block_holds : goal.returns-then-not-block_holds
returns-then-not-block_holds c = c.loop-i.invariant

pub loop-i-preserved : goal.loop-i-preserved
loop-i-preserved c =
    let a = c.args in
    (search rules, (search rules, join_runs _ a.from c.loop-i.i (c.loop-i.i + 8) c.loop-i.invariant.1.1 (c.block_holds.ensures c.if-not-block_holds.false)))

pub returns : goal.returns
returns c = c.loop-i.invariant
