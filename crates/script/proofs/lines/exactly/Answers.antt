-- By the count of the numbers.
use Rattle.script.proofs.Says.{holds-all, exactly-other, exactly-four}
use Rattle.script.proofs.lines.exactly.Goals as goal

pub returns-then-all-n : goal.returns-then-all-n
returns-then-all-n c = λ fs h. exactly-other _ _ _ (holds-all _ fs h) c.if-all-n.true

pub returns : goal.returns
returns c = λ fs h. exactly-four _ _ _ (holds-all _ fs h) c.if-all-n.false
