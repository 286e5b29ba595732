-- `checks::call::room_for` meets its contract. The tests in their order. Assumes nothing.
use Rattle.std.proofs.Common.{rules}
use Rattle.rules.specs.Call.{room_for}
use Rattle.checks.proofs.call.room_for.Goals as goal

pub returns-then-rows_for : goal.returns-then-rows_for
unfolding room_for
returns-then-rows_for c = search rules

pub returns-else-rows_for : goal.returns-else-rows_for
unfolding room_for
returns-else-rows_for c = search rules
