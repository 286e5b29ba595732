-- The row is the free one; the record and the counter are written as new_face writes them.
use mathlib.Core.Path.{ap, ◌∙◌}
use Rattle.rules.specs.Table.{free_row}
use Rattle.rules.specs.Mesh.{Mesh}
use Rattle.rules.specs.Insert.{new_face}
use Rattle.edges.proofs.face.new_face.Goals as goal

pub returns-clause-face : goal.returns-clause-face
unfolding new_face
returns-clause-face c =
    let row = c.free_row-row.ensures ∙ ap (λ (m : Mesh). free_row m.faces) c.view.ensures in
    rw (← row, ← c.one_up-first.ensures, ← c.put_row.ensures)
