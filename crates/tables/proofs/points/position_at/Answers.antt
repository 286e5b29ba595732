-- `tables::points::position_at` meets its contract. Through none or past the table, and there. Assumes nothing.
use borrow.Author.Rules.{rules}
use Rattle.std.proofs.Common.{tests}
use Rattle.rules.specs.Point.{position_at}
use Rattle.tables.proofs.points.position_at.Goals as goal

pub returns-then-i-eq0 : goal.returns-then-i-eq0
unfolding position_at
returns-then-i-eq0 c = search (rules, tests)

pub returns : goal.returns
unfolding position_at
returns c = search (rules, tests)
