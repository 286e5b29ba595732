-- Both searches, then the one insert, then the other on what it left.
use mathlib.Core.Path.{ap, sym, subst, ◌∙◌}
use mathlib.Core.List.{◌++◌}
use Rattle.rules.specs.Mesh.{Mesh, list_of}
use Rattle.rules.specs.Lent.{mesh_of}
use Rattle.pairs.specs.Near.{Near}
use Rattle.pairs.specs.Pairs.{arcs_of}
use Rattle.pairs.proofs.Listed.{arcs-held}
use Rattle.makers.specs.Search.{sought_for}
use Rattle.insert.specs.Sought.{sought_of, put_sought}
use Rattle.insert.proofs.Filled.{filled-sought}
use Rattle.edits.proofs.Known.{known-then}
use Rattle.edits.proofs.Whole.{both-in}
use Rattle.split.proofs.halves_in.Goals as goal

pub perimeter_arcs-first-requires : goal.perimeter_arcs-first-requires
perimeter_arcs-first-requires c = subst (λ (m : Mesh). Near m.arcs c.args.around.now.near) (sym c.view-view.ensures) c.requires.listed

pub perimeter_arcs-second-requires : goal.perimeter_arcs-second-requires
perimeter_arcs-second-requires c = subst (λ (m : Mesh). Near m.arcs c.args.around.now.near) (sym c.view-view.ensures) c.requires.listed

pub put_face_sought-requires : goal.put_face_sought-requires
put_face_sought-requires c =
    let q = c.requires in
    let left = list_of c.args.left in
    record {
      found_value = arcs-held _ left _ c.known_few.ensures c.perimeter_arcs-first.ensures ∙ ap (λ (m : Mesh). arcs_of m.arcs left) c.view-view.ensures;
      used_before = (q.arcs-used, (q.edges-used, q.faces-used));
    }

pub perimeter_arcs-again-requires : goal.perimeter_arcs-again-requires
perimeter_arcs-again-requires c =
    let a = c.args in
    let g = c.put_face_sought in
    let ours = sought_of c.search_lists-ours.result in
    let m = mesh_of a.mesh.now in
    let known = known-then m (mesh_of g.new.mesh) (put_sought ours m (list_of a.left) 0) a.around.now (filled-sought ours m (list_of a.left) 0) g.ensures.face c.requires in
    subst (λ (n : Mesh). Near n.arcs a.around.now.near) (sym c.view.ensures) known.listed

pub put_face_sought-requires-2 : goal.put_face_sought-requires-2
put_face_sought-requires-2 c =
    let a = c.args in
    let g = c.put_face_sought in
    let ours = sought_of c.search_lists-ours.result in
    let m = mesh_of a.mesh.now in
    let k = known-then m (mesh_of g.new.mesh) (put_sought ours m (list_of a.left) 0) a.around.now (filled-sought ours m (list_of a.left) 0) g.ensures.face c.requires in
    let right = list_of a.right in
    record {
      found_value = arcs-held _ right _ c.known_few-2.ensures c.perimeter_arcs-again.ensures ∙ ap (λ (n : Mesh). arcs_of n.arcs right) c.view.ensures;
      used_before = (k.arcs-used, (k.edges-used, k.faces-used));
    }

pub returns-clause-faces : goal.returns-clause-faces
returns-clause-faces c =
    let a = c.args in
    let left = list_of a.left in
    let right = list_of a.right in
    let one = c.perimeter_arcs-first in
    let other = c.perimeter_arcs-second in
    let none = c.none-none in
    let ours = c.search_lists-ours in
    let theirs = c.search_lists-theirs in
    let first = arcs-held _ left _ c.known_few.ensures one.ensures ∙ ap (λ (m : Mesh). arcs_of m.arcs left) c.view-view.ensures in
    let second = arcs-held _ right _ c.known_few-2.ensures other.ensures ∙ ap (λ (m : Mesh). arcs_of m.arcs right) c.view-view.ensures in
    let sought = ours.ensures ∙ ap (λ (m : Mesh). sought_for m (list_of one.result ++ list_of none.result) left) c.view-view.ensures in
    let after = theirs.ensures ∙ ap (λ (m : Mesh). sought_for m (list_of other.result ++ list_of one.result) right) c.view-view.ensures in
    both-in (mesh_of a.mesh.now) (mesh_of c.put_face_sought.new.mesh) (mesh_of c.put_face_sought-2.new.mesh) left right (list_of one.result) (list_of other.result) (list_of none.result) (sought_of ours.result) (sought_of theirs.result) first second none.ensures sought after c.put_face_sought.ensures.face c.put_face_sought-2.ensures.face
