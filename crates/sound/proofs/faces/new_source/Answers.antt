use native.Mathlib.Omega.{arith}
use mathlib.Core.Path.{ap, ◌∙◌}
use mathlib.Core.Bool.{not}
use lib.Dec.{eqb}
use Rattle.names.proofs.Loops.{none-below}
use Rattle.sound.proofs.faces.new_source.Goals as goal

pub returns : goal.returns
returns c =
    let a = c.args in
    ap not c.contains.ensures.value ∙ none-below (λ y. eqb y a.source) a.sources.now a.n (omega arith)
