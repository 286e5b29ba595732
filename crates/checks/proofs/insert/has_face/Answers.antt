-- `checks::insert::has_face` meets its contract. The test of `faced`, at the arc that the list has for the pair. Assumes nothing.
use Rattle.rules.specs.Mesh.{mesh, list_of}
use Rattle.checks.proofs.Pairs.{face-at}
use Rattle.checks.proofs.insert.has_face.Goals as goal

pub returns : goal.returns
returns c =
    let a = c.args in
    λ vs ps es fs ks per e. face-at (mesh vs ps a.arcs.now es fs ks) per (list_of a.xs) e a.i c.faced.result (rw c.item.ensures at c.faced.ensures)
