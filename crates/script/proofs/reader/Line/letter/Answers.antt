-- What the field at the place says; none where no field is left.
use Rattle.std.proofs.Common.{◌∙◌}
use Rattle.script.proofs.Left.{letter-past, letter-here}
use Rattle.script.proofs.reader.Line.letter.Goals as goal

pub returns-in_err-field-clause-value : goal.returns-in_err-field-clause-value
returns-in_err-field-clause-value c = c.from_residual.ensures ∙ letter-past _ _ c.in_err-field.ensures.value

pub returns-clause-value : goal.returns-clause-value
returns-clause-value c = c.letter.ensures ∙ letter-here _ _ _ c.in_ok-field.ensures.value.0 c.in_ok-field.ensures.value.1
