use Prim.Native.Nat.{◌+◌}
use native.Mathlib.Nat.{le_refl}
use native.Mathlib.Omega.{arith}
use mathlib.Core.Path.{refl}
use lib.ListN.{take}
use Rattle.nearby.proofs.Listing.{listed-unused, listed-written}
use Rattle.nearby.proofs.rows.list_row.Goals as goal

pub returns-then-arcs-i-eq0 : goal.returns-then-arcs-i-eq0
returns-then-arcs-i-eq0 c =
    let a = c.args in
    (omega arith, λ seen h. listed-unused a.arcs.now a.edges.now seen (take a.n a.list.now) a.i h c.if-arcs-i-eq0.true)

pub returns : goal.returns
returns c =
    let a = c.args in
    (le_refl _, λ seen h. listed-written a.arcs.now a.edges.now seen a.list.now _ a.n a.i (a.i + 1) c.opposite.result (omega (arith, c.told-list, c.requires.1.1)) refl refl c.opposite.ensures h)
