-- `tables::points::finite_move` meets its contract. Each kind by its definition. Assumes nothing.
use borrow.Author.Rules.{rules}
use Rattle.std.proofs.Common.{tests}
use Rattle.rules.specs.Point.{finite_move}
use Rattle.tables.proofs.points.finite_move.Goals as goal

pub returns-in-Shift : goal.returns-in-Shift
unfolding finite_move
returns-in-Shift c = search (rules, tests)

pub returns-then-finite_position : goal.returns-then-finite_position
unfolding finite_move
returns-then-finite_position c = search (rules, tests)

pub returns-else-finite_position : goal.returns-else-finite_position
unfolding finite_move
returns-else-finite_position c = search (rules, tests)
