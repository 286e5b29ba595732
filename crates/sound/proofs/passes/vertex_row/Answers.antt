use mathlib.Core.Path.{sym, ◌∙◌}
use borrow.Author.Tests.{eq-eqb}
use Rattle.sound.specs.Tests.{key_test, leads_row, vertex_test}
use Rattle.sound.proofs.Rows.{and-true, used-blank}
use Rattle.sound.proofs.passes.vertex_row.Goals as goal

pub returns-then-row-eq0 : goal.returns-then-row-eq0
unfolding vertex_test key_test leads_row
returns-then-row-eq0 c = rw (eq-eqb _ _ c.if-row-eq0.true) (c.blank.ensures ∙ sym (and-true _))

pub returns-else-key_below : goal.returns-else-key_below
unfolding vertex_test
returns-else-key_below c = rw (used-blank _ c.if-row-eq0.false, sym c.key_below.ensures ∙ c.if-key_below.false) c.if-key_below.false

pub returns-then-key_below : goal.returns-then-key_below
unfolding vertex_test
returns-then-key_below c = rw (used-blank _ c.if-row-eq0.false, sym c.key_below.ensures ∙ c.if-key_below.true) c.leads_row.ensures
