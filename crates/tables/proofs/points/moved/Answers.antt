-- `tables::points::moved` meets its contract. The definition at each of the two moves. Assumes nothing.
use mathlib.Core.Path.{sym, ap}
use Rattle.rules.specs.Point.{moved}
use Rattle.tables.proofs.points.moved.Goals as goal

pub returns-in-Shift : goal.returns-in-Shift
unfolding moved
returns-in-Shift c = sym (ap (moved _) c.in-Shift.is)

pub returns-in-Scale : goal.returns-in-Scale
unfolding moved
returns-in-Scale c = sym (ap (moved _) c.in-Scale.is)
