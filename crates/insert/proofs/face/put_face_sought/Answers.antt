-- The steps of an insert, by what was found in its lists.
use mathlib.Core.Path.{◌≡◌, ap, sym, subst, ◌∙◌}
use mathlib.Core.Bool.{false}
use Rattle.rules.specs.Table.{has}
use Rattle.rules.specs.Mesh.{Mesh, list_of}
use Rattle.rules.specs.Lent.{mesh_of}
use Rattle.edges.specs.Free.{UsedBefore}
use Rattle.pairs.specs.Pairs.{arcs_of}
use Rattle.insert.specs.Sought.{sought_of}
use Rattle.insert.proofs.Loops.{put-sought-steps}
use Rattle.insert.proofs.Filled.{filled-edges, used-stays}
use Rattle.insert.proofs.face.put_face_sought.Goals as goal

pub edges_in-given-requires : goal.edges_in-given-requires
edges_in-given-requires c =
    record {
      xs_value = c.requires.found_value;
      used_before = (c.requires.used_before.0, c.requires.used_before.1.0);
    }

pub arcs_told-ring-requires : goal.arcs_told-ring-requires
arcs_told-ring-requires c =
    subst (λ (m : Mesh). has (list_of c.edges_in-given.result) 0 ≡ false → list_of c.edges_in-given.result ≡ arcs_of m.arcs (list_of c.args.per)) (sym c.view.ensures) c.edges_in-given.ensures.told

pub new_face-face-requires : goal.new_face-face-requires
new_face-face-requires c =
    let m = mesh_of c.args.mesh.now in
    let kept = (filled-edges (list_of c.args.per) m).faces in
    subst (λ (n : Mesh). UsedBefore n.faces c.args.from.face) (sym c.edges_in-given.ensures.edges) (used-stays m.faces _ _ kept c.requires.used_before.1.1)

pub returns-clause-face : goal.returns-clause-face
returns-clause-face c =
    let a = c.args in
    let told = c.arcs_told-ring.ensures ∙ ap (λ (m : Mesh). arcs_of m.arcs (list_of a.per)) c.view.ensures in
    let face = c.new_face-face.ensures in
    put-sought-steps (mesh_of a.mesh.now) (list_of a.per) (sought_of a.sought) a.mark c.edges_in-given.ensures.edges told c.item.ensures face.row face.face c.interior.ensures c.exterior.ensures.arcs
