-- `tables::points::finite_position` meets its contract. The tests in the order of the definition. Assumes nothing.
use borrow.Author.Rules.{rules}
use Rattle.std.proofs.Common.{tests}
use Rattle.rules.specs.Point.{finite_position}
use Rattle.tables.proofs.points.finite_position.Goals as goal

pub returns-then-finite-2 : goal.returns-then-finite-2
unfolding finite_position
returns-then-finite-2 c = search (rules, tests)

pub returns-else-finite-2 : goal.returns-else-finite-2
unfolding finite_position
returns-else-finite-2 c = search (rules, tests)
