-- The checks, by the arcs that are found once, then the insert.
use mathlib.Core.Path.{refl, ap, sym, subst, ◌∙◌}
use Rattle.rules.specs.Mesh.{Mesh, list_of}
use Rattle.rules.specs.Lent.{mesh_of}
use Rattle.rules.specs.Insert.{insert_checks}
use Rattle.pairs.specs.Near.{Near}
use Rattle.pairs.specs.Pairs.{arcs_of}
use Rattle.pairs.proofs.Listed.{arcs-held}
use Rattle.edits.proofs.Inserts.{insert-refused, insert-done}
use borrow.Author.Rules.{rules}
use Rattle.edits.proofs.face.insert_face.Goals as goal

pub perimeter_arcs-found-requires : goal.perimeter_arcs-found-requires
perimeter_arcs-found-requires c = subst (λ (m : Mesh). Near m.arcs c.args.around.now.near) (sym c.view-view.ensures) c.requires.listed

pub insert_checks_by-requires : goal.insert_checks_by-requires
insert_checks_by-requires c = arcs-held _ (list_of c.args.per) _ c.known_few.ensures c.perimeter_arcs-found.ensures

pub returns-in_err-insert_checks_by-clause-told : goal.returns-in_err-insert_checks_by-clause-told
returns-in_err-insert_checks_by-clause-told c =
    let per = list_of c.args.per in
    let v = c.view-view.result in
    let told = c.in_err-insert_checks_by.ensures v.vertices.now v.edges.now v.faces.now v.counters.now in
    let refused = insert-refused (mesh_of c.args.mesh.now) per c.args.mark _ (told ∙ ap (λ (m : Mesh). insert_checks m per per) c.view-view.ensures) in
    search rules

pub insert_by-requires-clause-found_value : goal.insert_by-requires-clause-found_value
insert_by-requires-clause-found_value c =
    let per = list_of c.args.per in
    arcs-held _ per _ c.known_few.ensures c.perimeter_arcs-found.ensures ∙ ap (λ (m : Mesh). arcs_of m.arcs per) c.view-view.ensures

pub returns-clause-told : goal.returns-clause-told
returns-clause-told c =
    let per = list_of c.args.per in
    let v = c.view-view.result in
    let told = c.in_ok-insert_checks_by.ensures v.vertices.now v.edges.now v.faces.now v.counters.now in
    insert-done (mesh_of c.args.mesh.now) (mesh_of c.insert_by.new.mesh) per c.args.mark _ (told ∙ ap (λ (m : Mesh). insert_checks m per per) c.view-view.ensures) refl c.insert_by.ensures.face
