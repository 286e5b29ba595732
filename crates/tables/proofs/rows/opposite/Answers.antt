-- `tables::rows::opposite` meets its contract. The three cells that it reads are those of the definition. Assumes nothing.
use borrow.Author.Tests.{eq-eqb, ne_eqb}
use Rattle.rules.specs.Mesh.{opposite_of}
use Rattle.tables.proofs.rows.opposite.Goals as goal

pub returns-then-named-x : goal.returns-then-named-x
unfolding opposite_of
returns-then-named-x c = rw (← c.cell-edge.ensures, ← c.cell-named.ensures, eq-eqb _ _ c.if-named-x.true) c.cell.ensures

pub returns : goal.returns
unfolding opposite_of
returns c = rw (← c.cell-edge.ensures, ← c.cell-named.ensures, ne_eqb _ _ c.if-named-x.false)
