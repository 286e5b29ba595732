-- `nearby::rings::ring_at` meets its contract. The tests in their order. Assumes nothing.
use Rattle.std.proofs.Common.{rules}
use Rattle.nearby.specs.Rings.{ring_at}
use Rattle.nearby.proofs.rings.ring_at.Goals as goal

pub returns-then-face-eq0 : goal.returns-then-face-eq0
unfolding ring_at
returns-then-face-eq0 c = search rules

pub returns-then-cell-face : goal.returns-then-cell-face
unfolding ring_at
returns-then-cell-face c = search rules

pub returns-else-cell-face : goal.returns-else-cell-face
unfolding ring_at
returns-else-cell-face c = search rules
