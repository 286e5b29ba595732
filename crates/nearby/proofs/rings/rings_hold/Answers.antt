-- `nearby::rings::rings_hold` meets its contract. Both tests. Assumes nothing.
use Rattle.std.proofs.Common.{rules}
use Rattle.nearby.specs.Rings.{rings_hold}
use Rattle.nearby.proofs.rings.rings_hold.Goals as goal

pub returns-then-listed_rings : goal.returns-then-listed_rings
unfolding rings_hold
returns-then-listed_rings c = search rules

pub returns-else-listed_rings : goal.returns-else-listed_rings
unfolding rings_hold
returns-else-listed_rings c = search rules
