-- What the calls ensure, in the order of the law taken_out.
use mathlib.Core.Path.{ap, ◌∙◌}
use Rattle.rules.specs.Lent.{mesh_of}
use Rattle.rules.specs.Mesh.{Mesh}
use Rattle.rules.specs.Table.{cell}
use Rattle.rules.specs.Link.{walk_of}
use Rattle.edges.proofs.Rings.{taken_out}
use Rattle.edges.proofs.face.remove_face.Goals as goal

pub returns-clause-face : goal.returns-clause-face
returns-clause-face c =
    let first = c.cell-first in
    let walk = c.ring-walk in
    let at = first.ensures ∙ ap (λ (m : Mesh). cell m.faces c.args.f 1) c.view.ensures in
    let along = walk.ensures ∙ ap (λ (m : Mesh). walk_of (λ x. cell m.arcs x 2) first.result 64) c.view-2.ensures in
    rw (c.clear_faces.ensures, c.put_row.ensures) (taken_out (mesh_of c.args.mesh.now) c.args.f first.result walk.result at along)
