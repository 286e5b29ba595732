-- `names::name_of` meets its contract: no row, or one past the table, has no name. Assumes nothing.
use borrow.Author.Tests.{eq-eqb, ne_eqb, lt-ltb, le-ltb}
use Rattle.names.specs.Slots.{name_of}
use Rattle.names.proofs.name_of.Goals.{then-row-eq0-via-then-row-eq0, then-row-eq0-via-else-row-eq0+then-row-gt8192}
use Rattle.names.proofs.name_of.Goals as goal

pub returns-then-row-eq0 : goal.returns-then-row-eq0
unfolding name_of
returns-then-row-eq0 c =
    elim c.then-row-eq0.branch [ then-row-eq0-via-then-row-eq0 w ↦ rw (eq-eqb _ _ w.if-row-eq0.true) | then-row-eq0-via-else-row-eq0+then-row-gt8192 w ↦ rw (ne_eqb _ _ w.if-row-eq0.false, lt-ltb _ _ w.if-row-gt8192.true) ]

pub returns : goal.returns
unfolding name_of
returns c = rw (ne_eqb _ _ c.if-row-eq0.false, le-ltb _ _ c.if-row-gt8192.false)
