-- `nearby::rings::held_at` meets its contract. The tests in their order. Assumes nothing.
use Rattle.std.proofs.Common.{rules}
use Rattle.nearby.specs.Rings.{held_at}
use Rattle.nearby.proofs.rings.held_at.Goals as goal

pub returns-then-cell-g : goal.returns-then-cell-g
unfolding held_at
returns-then-cell-g c = search rules

pub returns-else-cell-g : goal.returns-else-cell-g
unfolding held_at
returns-else-cell-g c = search rules
