-- `script::dumps::hex_digit` meets its contract. The definition on either side of its test. Assumes nothing.
use borrow.Author.Tests.{lt-ltb, le-ltb}
use Rattle.rules.specs.Dump.{hex_digit}
use Rattle.script.proofs.dumps.hex_digit.Goals as goal

pub returns-then-d-lt10 : goal.returns-then-d-lt10
unfolding hex_digit
returns-then-d-lt10 c = rw (lt-ltb c.args.d 10 c.if-d-lt10.true)

pub returns : goal.returns
unfolding hex_digit
returns c = rw (le-ltb c.args.d 10 c.if-d-lt10.false)
