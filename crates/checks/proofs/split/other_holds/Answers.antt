-- `checks::split::other_holds` meets its contract. The test at the arc that the list has for the pair. Assumes nothing.
use mathlib.Core.Path.{sym, ◌∙◌}
use Rattle.rules.specs.Mesh.{mesh, list_of}
use Rattle.checks.proofs.Pairs.{listed-arc}
use Rattle.checks.proofs.split.other_holds.Goals as goal

pub returns-then-has_face : goal.returns-then-has_face
returns-then-has_face c =
    let a = c.args in
    λ vs ps es fs ks per e.
    let m = mesh vs ps a.arcs.now es fs ks in
    let arc = c.item.ensures ∙ listed-arc m per (list_of a.xs) e a.i a.i in
    rw (sym (c.has_face.ensures vs ps es fs ks per e) ∙ c.if-has_face.true, ← arc, ← c.cell.ensures)
