-- `tables::points::same_place` meets its contract. The tests in the order of the definition. Assumes nothing.
use borrow.Author.Rules.{rules}
use Rattle.std.proofs.Common.{tests}
use Rattle.rules.specs.Point.{same_place}
use Rattle.tables.proofs.points.same_place.Goals as goal

pub returns-then-p-q-2 : goal.returns-then-p-q-2
unfolding same_place
returns-then-p-q-2 c = search (rules, tests)

pub returns-else-p-q-2 : goal.returns-else-p-q-2
unfolding same_place
returns-else-p-q-2 c = search (rules, tests)
