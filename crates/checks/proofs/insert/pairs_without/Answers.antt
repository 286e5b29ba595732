-- `checks::insert::pairs_without` meets its contract. The arcs that are none are counted; laws of Slices. Assumes nothing.
use mathlib.Core.Path.{ap, ◌∙◌}
use lib.ListN.{length}
use lib.Dec.{eqb}
use Rattle.std.specs.List.{filter}
use Rattle.rules.specs.Mesh.{mesh, list_of}
use Rattle.pairs.proofs.Listed.{arcs-held}
use Rattle.checks.proofs.Slices.{missing-arcs}
use Rattle.checks.proofs.insert.pairs_without.Goals as goal

pub returns : goal.returns
returns c =
    let a = c.args in
    let held = c.items.ensures.value ∙ arcs-held a.arcs.now (list_of a.per) c.perimeter_arcs-xs.result c.known_few.ensures c.perimeter_arcs-xs.ensures in
    λ vs ps es fs ks. c.none_among.ensures ∙ ap (λ l. length (filter (λ x. eqb x 0) l)) held ∙ missing-arcs (mesh vs ps a.arcs.now es fs ks) (list_of a.per)
