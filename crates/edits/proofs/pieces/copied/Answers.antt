-- The vertex is read, moved, and made.
use mathlib.Core.Path.{ap, ◌∙◌}
use Rattle.rules.specs.Mesh.{Mesh}
use Rattle.rules.specs.Lent.{mesh_in, mesh_of}
use Rattle.rules.specs.Point.{moved}
use Rattle.rules.specs.declared.Vertex.{Vertex}
use Rattle.rules.specs.Link.{vertex_at, new_vertex}
use Rattle.rules.specs.Extrude.{moved_position}
use Rattle.edits.proofs.pieces.copied.Goals as goal

pub returns-clause-vertex : goal.returns-clause-vertex
unfolding moved_position vertex_at
returns-clause-vertex c =
    let m = mesh_of c.args.mesh.now in
    let v = mesh_in c.view-view.result in
    let old = c.vertex_at-old.ensures v.arcs v.edges v.faces v.counters ∙ ap (λ (n : Mesh). vertex_at n c.args.v) c.view-view.ensures in
    c.new_vertex.ensures.vertex ∙ ap (new_vertex m) (c.moved-place.ensures ∙ ap (λ (x : Vertex). moved x.position c.args.by) old)
