use borrow.Author.Tests.{eq-eqb, ne_eqb}
use Rattle.sound.specs.Names.{edge_name}
use Rattle.sound.proofs.edges.edge_name.Goals as goal

pub returns-then-row-eq0 : goal.returns-then-row-eq0
unfolding edge_name
returns-then-row-eq0 c = rw (eq-eqb _ _ c.if-row-eq0.true)

pub returns : goal.returns
unfolding edge_name
returns c = rw (ne_eqb _ _ c.if-row-eq0.false, ← c.cell.ensures, ← c.cell-2.ensures) c.pair_name.ensures
