-- `tables::vertices::vertex_at` meets its contract. The cells and the position that it reads are those of the definition. Assumes nothing.
use Rattle.rules.specs.Link.{vertex_at}
use Rattle.tables.proofs.vertices.vertex_at.Goals as goal

pub returns : goal.returns
unfolding vertex_at
returns c = λ a e f k. rw (← c.cell.ensures, ← c.position_at-position.ensures, ← c.cell-leading.ensures) cc
