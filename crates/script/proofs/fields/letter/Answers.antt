-- A field of one byte, and any other.
use Rattle.script.proofs.Left.{letter-is, letter-not}
use Rattle.script.proofs.fields.letter.Goals as goal

pub returns-then-field-ne1 : goal.returns-then-field-ne1
returns-then-field-ne1 c = letter-not _ c.if-field-ne1.true

pub returns : goal.returns
returns c = letter-is _ c.if-field-ne1.false
