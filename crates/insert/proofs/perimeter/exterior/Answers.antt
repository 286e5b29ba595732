-- The exterior of the pairs passed by.
use native.Mathlib.Omega.{arith}
use mathlib.Core.Path.{◌≡◌, refl}
use lib.ListN.{length}
use Rattle.rules.specs.Table.{up_to}
use Rattle.rules.specs.Mesh.{list_of}
use Rattle.rules.specs.Lent.{mesh_of}
use Rattle.rules.proofs.Lent.{same-itself, same-then}
use Rattle.insert.specs.Perimeter.{exterior_by}
use Rattle.insert.proofs.Loops.{exterior-more}
use Rattle.insert.proofs.perimeter.exterior.Goals as goal

pub loop-i-init : goal.loop-i-init
unfolding up_to
loop-i-init c = (same-itself _, refl)

pub loop-i-preserved : goal.loop-i-preserved
loop-i-preserved c =
    let a = c.args in
    let g = c.exterior_at in
    let v = c.loop-i.invariant in
    (same-then v.0 g.ensures.same, exterior-more (mesh_of a.mesh.now) (list_of a.outs) (list_of a.backs) (list_of a.xs) c.loop-i.i c.size-n.ensures c.place_after.ensures c.item-out.ensures c.item-back.ensures c.item.ensures v.1 g.ensures.arcs)

pub returns : goal.returns
unfolding exterior_by
returns c =
    let all : c.loop-i.i ≡ length (list_of c.args.xs) = omega (arith, c.size-n.ensures) in
    record { arcs = rw all at c.loop-i.invariant.1; same = c.loop-i.invariant.0 }
