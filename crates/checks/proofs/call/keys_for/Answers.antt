-- `checks::call::keys_for` meets its contract. The tests in their order. Assumes nothing.
use Rattle.std.proofs.Common.{rules}
use Rattle.rules.specs.Call.{keys_for}
use Rattle.checks.proofs.call.keys_for.Goals as goal

pub returns-then-keys_left-2 : goal.returns-then-keys_left-2
unfolding keys_for
returns-then-keys_left-2 c = search rules

pub returns-else-keys_left-2 : goal.returns-else-keys_left-2
unfolding keys_for
returns-else-keys_left-2 c = search rules
