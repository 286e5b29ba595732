-- What the calls ensure, in the order of the law poke-steps.
use mathlib.Core.Path.{ap, ◌∙◌}
use Rattle.rules.specs.Table.{cell}
use Rattle.rules.specs.Mesh.{Mesh, links_of}
use Rattle.rules.specs.Lent.{mesh_of}
use Rattle.rules.specs.Link.{ring_vertices}
use Rattle.edges.proofs.Searches.{used-none}
use Rattle.edits.proofs.Steps.{whole-refused, whole-done}
use Rattle.edits.proofs.Whole.{poke-steps}
use borrow.Author.Rules.{rules}
use Rattle.poke.proofs.poke_work.Goals as goal

pub new_vertex-c-requires : goal.new_vertex-c-requires
new_vertex-c-requires c = used-none _

pub returns-in_err-parts_near-clause-told : goal.returns-in_err-parts_near-clause-told
returns-in_err-parts_near-clause-told c =
    let a = c.args in
    let v = c.view-view.result in
    let vs = c.vertices_of-vs.ensures v.vertices.now v.positions.now v.edges.now v.counters.now ∙ ap (λ (m : Mesh). links_of (ring_vertices m a.f)) c.view-view.ensures in
    let mark = c.cell-mark.ensures ∙ ap (λ (m : Mesh). cell m.faces a.f 2) c.view-view.ensures in
    let new = c.new_vertex-c in
    let refused = poke-steps (mesh_of a.mesh.now) (mesh_of c.remove_face.new.mesh) (mesh_of new.new.mesh) a.f a.position _ _ _ (mesh_of c.parts_near.new.mesh) _ _ vs mark c.remove_face.ensures.face new.ensures.row new.ensures.vertex c.in_err-parts_near.ensures.parts (whole-refused _ _ _) in
    search rules

pub returns-clause-told : goal.returns-clause-told
returns-clause-told c =
    let a = c.args in
    let v = c.view-view.result in
    let vs = c.vertices_of-vs.ensures v.vertices.now v.positions.now v.edges.now v.counters.now ∙ ap (λ (m : Mesh). links_of (ring_vertices m a.f)) c.view-view.ensures in
    let mark = c.cell-mark.ensures ∙ ap (λ (m : Mesh). cell m.faces a.f 2) c.view-view.ensures in
    let new = c.new_vertex-c in
    poke-steps (mesh_of a.mesh.now) (mesh_of c.remove_face.new.mesh) (mesh_of new.new.mesh) a.f a.position _ _ _ (mesh_of c.parts_near.new.mesh) _ _ vs mark c.remove_face.ensures.face new.ensures.row new.ensures.vertex c.in_ok-parts_near.ensures.parts (whole-done _ _)
