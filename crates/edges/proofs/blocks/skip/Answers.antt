-- A used block follows the rows gone through: laws of Runs.
use Prim.Native.Nat.{◌+◌}
use Rattle.tables.proofs.Runs.{no_rows, join_runs}
use borrow.Author.Rules.{rules}
use Rattle.edges.proofs.blocks.skip.Goals as goal

pub loop-i-init : goal.loop-i-init
loop-i-init g c = let a = c.args in (search rules, (search rules, no_rows _ a.from a.from (search rules)))

pub loop-i-preserved : goal.loop-i-preserved
loop-i-preserved g c =
    let a = c.args in
    let i = c.loop-i.i in
    (search rules, (search rules, join_runs _ a.from i (i + 8) c.loop-i.invariant.1.1 (c.used_block.ensures c.if-not-used_block.false)))
