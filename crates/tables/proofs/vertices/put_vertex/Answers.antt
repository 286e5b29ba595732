-- `tables::vertices::put_vertex` meets its contract. The two rows that it writes are those of the definition. Assumes nothing.
use Rattle.rules.specs.Link.{put_vertex}
use Rattle.tables.proofs.vertices.put_vertex.Goals as goal

pub returns : goal.returns
unfolding put_vertex
returns c = λ a e f k. rw (← c.one_up-first.ensures, ← c.put_row.ensures, ← c.put_position.ensures)
