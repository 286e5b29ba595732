-- Minus a whole number that is not 0 is the number of the other sign, and minus 0 is 0.
use native.Mathlib.Omega.{arith}
use Rattle.rules.specs.Script.{float_of}
use Rattle.script.proofs.Values.{float-minus, signless}
use Rattle.script.proofs.fields.whole.Goals as goal

pub returns-then-not-minus : goal.returns-then-not-minus
returns-then-not-minus c = signless _ _ c.then-not-minus.either

pub returns : goal.returns
returns c = rw c.if-not-minus.false (float-minus _ (omega arith))
