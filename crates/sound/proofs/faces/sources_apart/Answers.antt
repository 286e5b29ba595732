use Rattle.std.proofs.Common.{rules}
use Rattle.std.proofs.lemmas.Iterator.{YieldsList-from_range}
use Rattle.std.proofs.lemmas.Iterator.Search.{all_from_yields_List}
use native.Mathlib.Omega.{arith}
use mathlib.Core.Path.{refl, ◌∙◌}
use mathlib.Core.Bool.{not}
use lib.Dec.{eqb}
use lib.ListN.{get_or}
use Rattle.rules.specs.Table.{all_below}
use Rattle.names.proofs.Loops.{list-below}
use Rattle.sound.specs.Rings.{apart}
use Rattle.sound.proofs.faces.sources_apart.Goals as goal

pub returns : goal.returns
unfolding apart
returns c =
    let a = c.args in
    all_from_yields_List (λ k. all_below (λ j. not (eqb (get_or a.sources.now j 0) (get_or a.sources.now k 0))) k) _ _ _ c.all.ensures.ran (YieldsList-from_range 0 a.n a.n refl (omega arith)) (λ x b q k. search rules) ∙ list-below (λ k. all_below (λ j. not (eqb (get_or a.sources.now j 0) (get_or a.sources.now k 0))) k) a.n
