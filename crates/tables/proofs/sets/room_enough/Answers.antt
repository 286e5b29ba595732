-- `tables::sets::room_enough` meets its contract. The tests in the order of the definition. Assumes nothing.
use borrow.Author.Rules.{rules}
use Rattle.std.proofs.Common.{tests}
use Rattle.rules.specs.Call.{room_enough}
use Rattle.tables.proofs.sets.room_enough.Goals as goal

pub returns-then-mesh-room-4 : goal.returns-then-mesh-room-4
unfolding room_enough
returns-then-mesh-room-4 c = search (rules, tests)

pub returns-else-mesh-room-4 : goal.returns-else-mesh-room-4
unfolding room_enough
returns-else-mesh-room-4 c = search (rules, tests)
