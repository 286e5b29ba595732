use borrow.Author.Tests.{eq-eqb, ne_eqb}
use Rattle.sound.specs.Tests.{leads_row}
use Rattle.sound.proofs.links.leads_row.Goals.{then-row-eq0-via-then-row-eq0, then-row-eq0-via-else-row-eq0+then-row-eq0-2}
use Rattle.sound.proofs.links.leads_row.Goals as goal

pub returns-then-row-eq0 : goal.returns-then-row-eq0
unfolding leads_row
returns-then-row-eq0 c =
    elim c.then-row-eq0.branch [ then-row-eq0-via-then-row-eq0 w ↦ rw (eq-eqb _ _ w.if-row-eq0.true) | then-row-eq0-via-else-row-eq0+then-row-eq0-2 w ↦ rw (ne_eqb _ _ w.if-row-eq0.false, eq-eqb _ _ w.if-row-eq0-2.true) ]

pub returns : goal.returns
unfolding leads_row
returns c = rw (ne_eqb _ _ c.if-row-eq0.false, ne_eqb _ _ c.if-row-eq0-2.false, c.arc_has.ensures)
