-- `checks::call::rows_for` meets its contract. The tests in their order. Assumes nothing.
use Rattle.std.proofs.Common.{rules}
use Rattle.rules.specs.Call.{rows_for}
use Rattle.checks.proofs.call.rows_for.Goals as goal

pub returns-then-enough-2 : goal.returns-then-enough-2
unfolding rows_for
returns-then-enough-2 c = search rules

pub returns-else-enough-2 : goal.returns-else-enough-2
unfolding rows_for
returns-else-enough-2 c = search rules
