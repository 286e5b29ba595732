use borrow.Author.Tests.{eq-eqb, ne_eqb}
use Rattle.sound.specs.Tests.{key_test}
use Rattle.sound.proofs.keys.key_below.Goals as goal

pub returns-then-first-eq0 : goal.returns-then-first-eq0
unfolding key_test
returns-then-first-eq0 c = rw (eq-eqb _ _ c.if-first-eq0.true)

pub returns-else-first-eq0 : goal.returns-else-first-eq0
unfolding key_test
returns-else-first-eq0 c = rw (ne_eqb _ _ c.if-first-eq0.false)
