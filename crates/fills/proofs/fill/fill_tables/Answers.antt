-- `fills::fill::fill_tables` meets its contract. Assumes nothing.
use Rattle.rules.specs.Mesh.{room}
use Rattle.fills.specs.Fills.{records_over}
use Rattle.fills.proofs.fill.fill_tables.Goals as goal

pub returns : goal.returns
unfolding records_over
returns c =
    λ i. room (c.fill_vertices.ensures i) (c.fill_positions.ensures i) (c.fill_arcs.ensures i) (c.fill_edges.ensures i) (c.fill_faces.ensures i)
