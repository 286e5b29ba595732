-- `walks::rings::ring_distance` meets its contract: the definition, step by step. Assumes nothing.
use native.Mathlib.Omega.{arith}
use mathlib.Core.Path.{◌≡◌}
use Prim.Native.Nat.{◌-◌, min, max}
use Rattle.rules.specs.Edit.{ring_distance}
use Rattle.walks.proofs.rings.ring_distance.Goals as goal

pub returns : goal.returns
unfolding ring_distance
returns c =
    let a = c.args in
    let way : c.abs_diff-way.result ≡ max a.i a.j - min a.i a.j = omega (arith, c.abs_diff-way.ensures) in
    rw (c.min.ensures, c.saturating_sub.ensures, way)
