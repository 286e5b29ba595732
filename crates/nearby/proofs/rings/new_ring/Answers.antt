-- `nearby::rings::new_ring` meets its contract. Both tests. Assumes nothing.
use Rattle.std.proofs.Common.{rules}
use Rattle.nearby.specs.Rings.{new_ring}
use Rattle.nearby.proofs.rings.new_ring.Goals as goal

pub returns-then-row-from : goal.returns-then-row-from
unfolding new_ring
returns-then-row-from c = search rules

pub returns-else-row-from : goal.returns-else-row-from
unfolding new_ring
returns-else-row-from c = search rules
