-- The row is the free one, and the row and the leading arc are written as new_arc writes them.
use mathlib.Core.Path.{ap, ◌∙◌}
use Rattle.rules.specs.Table.{free_row}
use Rattle.rules.specs.Mesh.{Mesh}
use Rattle.rules.specs.Link.{new_arc}
use Rattle.edges.proofs.edge.new_arc.Goals as goal

pub returns-clause-arc : goal.returns-clause-arc
unfolding new_arc
returns-clause-arc c =
    let row = c.free_row-x.ensures ∙ ap (λ (m : Mesh). free_row m.arcs) c.view.ensures in
    rw (← row, ← c.put_row.ensures, ← c.set_leading.ensures)
