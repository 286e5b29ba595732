-- What the field at the place says; none where no field is left.
use Rattle.std.proofs.Common.{◌∙◌}
use Rattle.script.proofs.Left.{number_past, number-here}
use Rattle.script.proofs.reader.Line.number.Goals as goal

pub returns-in_err-field-clause-value : goal.returns-in_err-field-clause-value
returns-in_err-field-clause-value c = c.from_residual.ensures ∙ number_past _ _ c.in_err-field.ensures.value

pub returns-clause-value : goal.returns-clause-value
returns-clause-value c = c.number.ensures ∙ number-here _ _ _ c.in_ok-field.ensures.value.0 c.in_ok-field.ensures.value.1
