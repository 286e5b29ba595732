use native.Mathlib.Omega.{arith}
use mathlib.Core.Path.{ap, ◌∙◌}
use mathlib.Core.Bool.{not}
use lib.ListN.{get_or}
use lib.Dec.{eqb}
use Rattle.names.proofs.Loops.{none-below}
use Rattle.names.proofs.first_with.Goals as goal

pub returns : goal.returns
returns c =
    let a = c.args in
    ap not c.contains.ensures.value ∙ none-below (λ y. eqb y (get_or a.names.now a.i 0)) a.names.now a.i (omega arith)
