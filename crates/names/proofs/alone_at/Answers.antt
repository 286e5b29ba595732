use borrow.Author.Tests.{eq-eqb, ne_eqb}
use Rattle.names.specs.Names.{alone}
use Rattle.names.proofs.alone_at.Goals as goal

pub returns-then-names-i-eq0 : goal.returns-then-names-i-eq0
unfolding alone
returns-then-names-i-eq0 c = rw (eq-eqb _ _ c.if-names-i-eq0.true)

pub returns-else-names-i-eq0 : goal.returns-else-names-i-eq0
unfolding alone
returns-else-names-i-eq0 c = rw (ne_eqb _ _ c.if-names-i-eq0.false) c.first_with.ensures
