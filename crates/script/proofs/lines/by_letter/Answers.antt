-- Each letter is that of its line, and a byte that is none of the nine says nothing.
use native.Mathlib.Omega.{arith}
use mathlib.Core.Path.{ap, sym}
use Rattle.script.specs.Lines.{parsed_of}
use Rattle.script.proofs.Says.{no-letter}
use Rattle.script.proofs.lines.by_letter.Goals as goal

pub returns-in_default : goal.returns-in_default
unfolding parsed_of
returns-in_default c = λ fs h.
    sym (ap parsed_of (no-letter _ fs (omega arith) (omega arith) (omega arith) (omega arith) (omega arith) (omega arith) (omega arith) (omega arith) (omega arith)))
