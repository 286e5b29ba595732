use Rattle.std.proofs.Common.{rules}
use Rattle.std.proofs.lemmas.Iterator.{YieldsList-from_range}
use Rattle.std.proofs.lemmas.Iterator.Search.{all_from_yields_List}
use native.Mathlib.Omega.{arith}
use mathlib.Core.Path.{refl, ◌∙◌}
use Rattle.names.specs.Names.{alone, differ}
use Rattle.names.proofs.Loops.{list-below}
use Rattle.names.proofs.compared.Goals as goal

pub returns : goal.returns
unfolding differ
returns c =
    let a = c.args in
    all_from_yields_List (alone a.names.now) _ _ _ c.all.ensures.ran (YieldsList-from_range 0 a.n a.n refl (omega arith)) (λ x b q k. search rules) ∙ list-below (alone a.names.now) a.n
