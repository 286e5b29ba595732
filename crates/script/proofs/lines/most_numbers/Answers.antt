-- `script::lines::most_numbers` meets its contract. Each letter is told apart as in the definition. Assumes nothing.
use native.Mathlib.Omega.{arith}
use borrow.Author.Tests.{ne_eqb}
use Rattle.script.specs.Lines.{most_numbers}
use Rattle.script.proofs.lines.most_numbers.Goals as goal

pub returns-in-118 : goal.returns-in-118
unfolding most_numbers
returns-in-118 c = rw c.in-118.is

pub returns-in-112 : goal.returns-in-112
unfolding most_numbers
returns-in-112 c = rw c.in-112.is

pub returns-in-120 : goal.returns-in-120
unfolding most_numbers
returns-in-120 c = rw c.in-120.is

pub returns-in-97 : goal.returns-in-97
unfolding most_numbers
returns-in-97 c = rw c.in-97.is

pub returns-in_default : goal.returns-in_default
unfolding most_numbers
returns-in_default c =
    let l = c.args.letter in
    rw (ne_eqb l 118 (omega arith), ne_eqb l 112 (omega arith), ne_eqb l 120 (omega arith), ne_eqb l 97 (omega arith))
