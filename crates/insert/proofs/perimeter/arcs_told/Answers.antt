-- `insert::perimeter::arcs_told` meets its contract: the arcs that are told, or the pass. Assumes nothing.
use mathlib.Core.Path.{sym, ◌∙◌}
use Rattle.rules.specs.Mesh.{list_of}
use Rattle.pairs.proofs.Listed.{arcs-held}
use Rattle.insert.proofs.perimeter.arcs_told.Goals as goal

pub returns-then-has_from : goal.returns-then-has_from
returns-then-has_from c =
    let a = c.args in
    arcs-held a.arcs.now (list_of a.per) c.perimeter_arcs.result c.known_few.ensures c.perimeter_arcs.ensures

pub returns : goal.returns
returns c = c.requires (sym c.has_from.ensures ∙ c.if-has_from.false)
