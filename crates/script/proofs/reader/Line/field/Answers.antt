-- The field's bytes are those before the first space, behind which the reader moves on.
use Rattle.std.proofs.Common.{arith, sym, ◌∙◌}
use Rattle.script.proofs.Places.{word-within, word-end, word-field, word-long}
use Rattle.script.proofs.Left.{place-in, place-past}
use Rattle.script.proofs.reader.Line.field.Goals as goal

pub returns-then-self-clause-place : goal.returns-then-self-clause-place
returns-then-self-clause-place c = sym (place-past _ _ c.if-self.true)

pub overflow_add-self : goal.overflow_add-self
overflow_add-self c = omega (arith, word-within _ _ _ c.if-self.false _ c.first_space.ensures c.unwrap_or-length.ensures)

pub overflow_add-self-2 : goal.overflow_add-self-2
overflow_add-self-2 c = omega (arith, word-within _ _ _ c.if-self.false _ c.first_space.ensures c.unwrap_or-length.ensures)

pub slice_bounds-result-end : goal.slice_bounds-result-end
slice_bounds-result-end c = word-long _ _ _ c.if-self.false _ c.first_space.ensures c.unwrap_or-length.ensures

pub returns-clause-place : goal.returns-clause-place
returns-clause-place c = word-end _ _ _ c.if-self.false _ c.first_space.ensures c.unwrap_or-length.ensures ∙ sym (place-in _ _ c.if-self.false)

pub returns-clause-value : goal.returns-clause-value
returns-clause-value c = (c.if-self.false, word-field _ _ _ c.if-self.false _ c.first_space.ensures c.unwrap_or-length.ensures)
