-- What the calls ensure, in the order of the law extrude-steps.
use mathlib.Core.Path.{ap, ◌∙◌}
use Rattle.rules.specs.Mesh.{Mesh, links_of}
use Rattle.rules.specs.Lent.{mesh_of}
use Rattle.rules.specs.Link.{ring_vertices}
use Rattle.edits.proofs.Steps.{whole-refused, whole-done}
use Rattle.edits.proofs.Whole.{extrude-steps}
use borrow.Author.Rules.{rules}
use Rattle.extrude.proofs.extrude_work.Goals as goal

pub returns-in_err-top_and_walls-clause-told : goal.returns-in_err-top_and_walls-clause-told
returns-in_err-top_and_walls-clause-told c =
    let a = c.args in
    let v = c.view-view.result in
    let vs = c.vertices_of-vs.ensures v.vertices.now v.positions.now v.edges.now v.counters.now ∙ ap (λ (m : Mesh). links_of (ring_vertices m a.f)) c.view-view.ensures in
    let refused = extrude-steps (mesh_of a.mesh.now) (mesh_of c.remove_face.new.mesh) (mesh_of c.copies_in-ds.new.mesh) a.f a.by _ c.copies_in-ds.result (mesh_of c.top_and_walls.new.mesh) _ _ vs c.remove_face.ensures.face c.copies_in-ds.ensures.copies c.in_err-top_and_walls.ensures.faces (whole-refused _ _ _) in
    search rules

pub returns-clause-told : goal.returns-clause-told
returns-clause-told c =
    let a = c.args in
    let v = c.view-view.result in
    let vs = c.vertices_of-vs.ensures v.vertices.now v.positions.now v.edges.now v.counters.now ∙ ap (λ (m : Mesh). links_of (ring_vertices m a.f)) c.view-view.ensures in
    extrude-steps (mesh_of a.mesh.now) (mesh_of c.remove_face.new.mesh) (mesh_of c.copies_in-ds.new.mesh) a.f a.by _ c.copies_in-ds.result (mesh_of c.top_and_walls.new.mesh) _ _ vs c.remove_face.ensures.face c.copies_in-ds.ensures.copies c.in_ok-top_and_walls.ensures.faces (whole-done _ _)
