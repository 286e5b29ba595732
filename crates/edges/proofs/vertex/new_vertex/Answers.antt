-- The row is the free one; the record is written by put_vertex, and the counter is one up.
use mathlib.Core.Path.{ap, ◌∙◌}
use Rattle.rules.specs.Lent.{mesh_of}
use Rattle.rules.specs.Mesh.{Mesh}
use Rattle.rules.specs.Table.{free_row}
use Rattle.rules.specs.Link.{new_vertex}
use Rattle.edges.proofs.vertex.new_vertex.Goals as goal

pub returns-clause-vertex : goal.returns-clause-vertex
unfolding new_vertex
returns-clause-vertex c =
    let m = mesh_of c.args.mesh.now in
    let row = c.free_row-row.ensures ∙ ap (λ (n : Mesh). free_row n.vertices) c.view.ensures in
    rw (← row, ← c.put_vertex.ensures m.arcs m.edges m.faces m.counters, ← c.one_up.ensures)
