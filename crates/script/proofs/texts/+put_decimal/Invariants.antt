-- The measure of `script::texts::put_decimal` is the number.
use Rattle.script.proofs.texts.+put_decimal.Given as goal

abbrev pub decreases-put_decimal : goal.decreases-put_decimal
decreases-put_decimal l = l.n
