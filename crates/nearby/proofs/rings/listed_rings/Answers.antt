-- `nearby::rings::listed_rings` meets its contract: the library's loop over the list. Assumes nothing.
use Rattle.std.proofs.Common.{rules}
use Rattle.std.proofs.lemmas.Iterator.{YieldsList-from_slice}
use Rattle.std.proofs.lemmas.Iterator.Search.{all_from_yields_List}
use mathlib.Core.Path.{◌∙◌}
use Rattle.names.proofs.Loops.{list-every}
use Rattle.nearby.specs.Rings.{ring_at}
use Rattle.nearby.proofs.rings.listed_rings.Goals as goal

pub returns : goal.returns
returns c =
    let a = c.args in
    all_from_yields_List (ring_at a.arcs.now) _ _ _ c.all.ensures.ran (YieldsList-from_slice a.list.now cc) (λ x b q k. search rules) ∙ list-every (ring_at a.arcs.now) a.list.now
