-- `nearby::rings::walked` meets its contract. The loop keeps what is left of the walk. Assumes nothing.
use Prim.Native.Nat.{◌-◌}
use mathlib.Core.Path.{◌≡◌}
use Rattle.nearby.specs.Rings.{walked_from}
use Rattle.nearby.proofs.rings.walked.Given as goal

abbrev pub invariant-loop : goal.invariant-loop
invariant-loop l = walked_from l.arcs l.g l.first 64 l.first ≡ walked_from l.arcs l.g l.first (64 - l.counter) l.x
