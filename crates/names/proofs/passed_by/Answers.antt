use borrow.Author.Tests.{eq-eqb, ne_eqb}
use Rattle.names.specs.Slots.{passed_by}
use Rattle.names.proofs.passed_by.Goals as goal

pub returns-then-name-eq0 : goal.returns-then-name-eq0
unfolding passed_by
returns-then-name-eq0 c = rw (eq-eqb _ _ c.if-name-eq0.true)

pub returns-else-name-eq0 : goal.returns-else-name-eq0
unfolding passed_by
returns-else-name-eq0 c = rw (ne_eqb _ _ c.if-name-eq0.false, ← c.part_of.ensures)
