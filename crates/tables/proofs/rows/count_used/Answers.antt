-- `tables::rows::count_used` meets its contract. The invariant: n of the rows gone through count, and the rest holds the others. Assumes nothing.
use mathlib.Core.Bool.{not}
use mathlib.Core.List.{[]}
use mathlib.Core.Path.{ap}
use native.Mathlib.Omega.{arith}
use borrow.Author.Rules.{rules}
use borrow.Author.Tests.{eq-eqb, ne_eqb}
use Rattle.rules.specs.Table.{used}
use Rattle.tables.proofs.Scans.{counted-one, counted_none, counted-all}
use Rattle.tables.proofs.rows.count_used.Goals as goal
use Rattle.tables.proofs.rows.count_used.Goals.{else-cell_of-ne0, then-cell_of-ne0}

pub loop-row-preserved : goal.loop-row-preserved
loop-row-preserved g c =
    let t = c.args.t.now in
    let l = c.loop-row in
    elim c.if-cell_of-ne0.branch [ then-cell_of-ne0 w ↦ (search rules, omega (arith, counted-one used t c.row-item.result l.n l.row-index c.loop-row-test.true (rw (← c.row-item.is, ← c.cell_of.ensures) (ap not (ne_eqb _ _ w.if-cell_of-ne0.true))) l.invariant.1)) | else-cell_of-ne0 w ↦ (search rules, omega (arith, counted_none used t c.row-item.result l.n l.row-index c.loop-row-test.true (rw (← c.row-item.is, ← c.cell_of.ensures) (ap not (eq-eqb _ _ w.if-cell_of-ne0.false))) l.invariant.1)) ]

pub returns : goal.returns
returns g c = counted-all used _ [] _ _ c.loop-row-test.false c.loop-row.invariant.1
