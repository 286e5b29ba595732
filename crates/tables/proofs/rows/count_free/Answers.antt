-- `tables::rows::count_free` meets its contract. The invariant: n of the rows gone through count, and the rest holds the others. Assumes nothing.
use mathlib.Core.List.{[]}
use native.Mathlib.Omega.{arith}
use borrow.Author.Rules.{rules}
use borrow.Author.Tests.{eq-eqb, ne_eqb}
use Rattle.rules.specs.Table.{unused}
use Rattle.tables.proofs.Scans.{counted-one, counted_none, counted-all}
use Rattle.tables.proofs.rows.count_free.Goals as goal
use Rattle.tables.proofs.rows.count_free.Goals.{else-cell_of-eq0, then-cell_of-eq0}

pub loop-row-preserved : goal.loop-row-preserved
loop-row-preserved g c =
    let t = c.args.t.now in
    let l = c.loop-row in
    elim c.if-cell_of-eq0.branch [ then-cell_of-eq0 w ↦ (search rules, omega (arith, counted-one unused t c.row-item.result l.n l.row-index c.loop-row-test.true (rw (← c.row-item.is, ← c.cell_of.ensures) (eq-eqb _ _ w.if-cell_of-eq0.true)) l.invariant.1)) | else-cell_of-eq0 w ↦ (search rules, omega (arith, counted_none unused t c.row-item.result l.n l.row-index c.loop-row-test.true (rw (← c.row-item.is, ← c.cell_of.ensures) (ne_eqb _ _ w.if-cell_of-eq0.false)) l.invariant.1)) ]

pub returns : goal.returns
returns g c = counted-all unused _ [] _ _ c.loop-row-test.false c.loop-row.invariant.1
