-- `tables::rows::cell` meets its contract. A law of Cells for each way out: through none, past the table, and there. Assumes nothing.
use borrow.Author.Rules.{rules}
use Rattle.tables.proofs.Cells.{cell-none, cell-here, cell-past}
use Rattle.tables.proofs.rows.cell.Goals as goal

pub returns-then-l-eq0 : goal.returns-then-l-eq0
returns-then-l-eq0 g c = cell-none _ _ _ c.if-l-eq0.true

pub returns-in-Some : goal.returns-in-Some
returns-in-Some g c =
    let a = c.args in
    let here = cell-here a.t.now a.l a.c c.if-l-eq0.false in
    search (here, rules)

pub returns-in-None : goal.returns-in-None
returns-in-None g c = cell-past _ _ _ c.if-l-eq0.false (search rules)
