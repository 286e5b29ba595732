use borrow.Author.Tests.{eq-eqb, ne_eqb}
use Rattle.sound.specs.Tests.{two_vertices}
use Rattle.sound.proofs.edges.two_vertices.Goals as goal

pub returns-else-a-b : goal.returns-else-a-b
unfolding two_vertices
returns-else-a-b c = rw (eq-eqb _ _ c.if-a-b.false)

pub returns-else-cell-ne0 : goal.returns-else-cell-ne0
unfolding two_vertices
returns-else-cell-ne0 c = rw (ne_eqb _ _ c.if-a-b.true, ← c.cell.ensures, eq-eqb _ _ c.if-cell-ne0.false)

pub returns-then-cell-ne0 : goal.returns-then-cell-ne0
unfolding two_vertices
returns-then-cell-ne0 c = rw (ne_eqb _ _ c.if-a-b.true, ← c.cell.ensures, ne_eqb _ _ c.if-cell-ne0.true, ← c.cell-then-cell-ne0.ensures)
