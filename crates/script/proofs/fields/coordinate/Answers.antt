-- A field of no byte, one that begins with a minus sign, and any other.
use Rattle.std.proofs.Common.{ap, ◌∙◌, true, false, Some}
use Rattle.script.proofs.Values.{none-is, some-is}
use Rattle.script.proofs.Left.{signed, coordinate-none, coordinate-minus, coordinate-plain}
use Rattle.script.proofs.fields.coordinate.Goals as goal

pub returns-then-is_empty : goal.returns-then-is_empty
returns-then-is_empty c = coordinate-none _ (none-is _ c.if-is_empty.ensures)

pub returns-in_err-digits : goal.returns-in_err-digits
returns-in_err-digits c =
    c.from_residual.ensures ∙ ap (signed true) c.in_err-digits.ensures ∙ coordinate-minus _ (some-is _ c.if-is_empty.ensures) c.if-field-eq45.true

pub returns-then-field-eq45 : goal.returns-then-field-eq45
returns-then-field-eq45 c =
    ap Some c.whole.ensures ∙ ap (signed true) c.in_ok-digits.ensures ∙ coordinate-minus _ (some-is _ c.if-is_empty.ensures) c.if-field-eq45.true

pub returns-in_err-digits-2 : goal.returns-in_err-digits-2
returns-in_err-digits-2 c =
    c.from_residual-in_err-digits-2.ensures
    ∙ ap (signed false) c.in_err-digits-2.ensures
    ∙ coordinate-plain _ (some-is _ c.if-is_empty.ensures) c.if-field-eq45.false

pub returns : goal.returns
returns c =
    ap Some c.whole-2.ensures ∙ ap (signed false) c.in_ok-digits-2.ensures ∙ coordinate-plain _ (some-is _ c.if-is_empty.ensures) c.if-field-eq45.false
