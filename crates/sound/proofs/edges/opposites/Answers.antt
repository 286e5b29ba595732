use borrow.Author.Tests.{eq-eqb, ne_eqb}
use Rattle.sound.specs.Tests.{opposite_rows}
use Rattle.sound.proofs.edges.opposites.Goals as goal

pub returns-else-wide-e : goal.returns-else-wide-e
unfolding opposite_rows
returns-else-wide-e c = rw (← c.wide.ensures, ne_eqb _ _ c.if-wide-e.false)

pub returns-else-wide-e-2 : goal.returns-else-wide-e-2
unfolding opposite_rows
returns-else-wide-e-2 c = rw (← c.wide.ensures, eq-eqb _ _ c.if-wide-e.true, ← c.wide-then-wide-e.ensures, ne_eqb _ _ c.if-wide-e-2.false)

pub returns-else-p-q : goal.returns-else-p-q
unfolding opposite_rows
returns-else-p-q c = rw (← c.wide.ensures, eq-eqb _ _ c.if-wide-e.true, ← c.wide-then-wide-e.ensures, eq-eqb _ _ c.if-wide-e-2.true, ne_eqb _ _ c.if-p-q.false)

pub returns-then-p-q : goal.returns-then-p-q
unfolding opposite_rows
returns-then-p-q c = rw (← c.wide.ensures, eq-eqb _ _ c.if-wide-e.true, ← c.wide-then-wide-e.ensures, eq-eqb _ _ c.if-wide-e-2.true, eq-eqb _ _ c.if-p-q.true)
