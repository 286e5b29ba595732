use mathlib.Core.Path.{sym, ◌∙◌}
use borrow.Author.Tests.{eq-eqb, ne_eqb}
use Rattle.sound.specs.Tests.{loose_row}
use Rattle.sound.proofs.links.loose_row.Goals as goal

pub returns-then-row-ne0 : goal.returns-then-row-ne0
unfolding loose_row
returns-then-row-ne0 c = rw (ne_eqb _ _ c.if-row-ne0.true)

pub returns-else-next_row : goal.returns-else-next_row
unfolding loose_row
returns-else-next_row c = rw (eq-eqb _ _ c.if-row-ne0.false, sym c.next_row.ensures ∙ c.if-next_row.false) c.if-next_row.false

pub returns-then-next_row : goal.returns-then-next_row
unfolding loose_row
returns-then-next_row c = rw (eq-eqb _ _ c.if-row-ne0.false, sym c.next_row.ensures ∙ c.if-next_row.true) c.previous_row.ensures
