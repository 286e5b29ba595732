-- The interior of the pairs passed by.
use Prim.Native.Nat.{◌<◌}
use native.Mathlib.Omega.{arith}
use mathlib.Core.Path.{◌≡◌, refl, ap, sym, ◌∙◌}
use lib.ListN.{length, get_or, take}
use lib.Seq.{get_or-take}
use Rattle.rules.specs.Table.{up_to}
use Rattle.rules.specs.Mesh.{list_of}
use Rattle.lists.proofs.Laws.{list-taken, after_on}
use Rattle.insert.specs.Perimeter.{interior_by}
use Rattle.insert.proofs.Loops.{interior-more}
use Rattle.insert.proofs.perimeter.interior.Goals as goal

pub loop-i-init : goal.loop-i-init
unfolding up_to
loop-i-init c = (refl, refl)

pub offset_bounds-at-place_after : goal.offset_bounds-at-place_after
offset_bounds-at-place_after c =
    omega (arith, c.place_after.ensures, after_on c.size-n.result c.loop-i.i c.loop-i-test.true)

pub bounds-at-place_after : goal.bounds-at-place_after
bounds-at-place_after c =
    omega (arith, c.place_after.ensures, after_on c.size-n.result c.loop-i.i c.loop-i-test.true)

pub loop-i-preserved : goal.loop-i-preserved
loop-i-preserved c =
    let n = c.size-n in
    let a = c.args in
    let j = c.place_after in
    let on : c.loop-i.i < n.result = c.loop-i-test.true in
    let next : j.result < n.result = omega (arith, j.ensures, after_on n.result c.loop-i.i on) in
    let xs = take n.result a.xs.at in
    let all : xs ≡ list_of a.xs = list-taken a.xs n.result n.ensures in
    (c.set_face.auto.arcs ∙ c.connect.auto.arcs ∙ c.loop-i.invariant.0, interior-more a.arcs.now xs a.face c.loop-i.i n.result j.result (get_or a.xs.at c.loop-i.i 0) (get_or a.xs.at j.result 0) (n.ensures ∙ sym (ap length all)) j.ensures (sym (get_or-take n.result a.xs.at c.loop-i.i 0 on)) (sym (get_or-take n.result a.xs.at j.result 0 next)) c.loop-i.invariant.1 c.connect.ensures c.set_face.ensures)

pub returns : goal.returns
unfolding interior_by
returns c =
    let n = c.size-n in
    let a = c.args in
    let all : take n.result a.xs.at ≡ list_of a.xs = list-taken a.xs n.result n.ensures in
    let end : c.loop-i.i ≡ length (list_of a.xs) = omega (arith, n.ensures) in
    rw (end, all) at c.loop-i.invariant.1
