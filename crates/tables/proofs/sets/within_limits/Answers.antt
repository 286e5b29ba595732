-- `tables::sets::within_limits` meets its contract. The tests in the order of the definition. Assumes nothing.
use borrow.Author.Rules.{rules}
use Rattle.std.proofs.Common.{tests}
use Rattle.rules.specs.Sound.{within_limits}
use Rattle.tables.proofs.sets.within_limits.Goals as goal

pub returns-then-mesh-2 : goal.returns-then-mesh-2
unfolding within_limits
returns-then-mesh-2 c = search (rules, tests)

pub returns-else-mesh-2 : goal.returns-else-mesh-2
unfolding within_limits
returns-else-mesh-2 c = search (rules, tests)
