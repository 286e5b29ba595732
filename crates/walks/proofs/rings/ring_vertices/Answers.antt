-- `walks::rings::ring_vertices` meets its contract: the loop keeps what was made of the arcs passed by. Assumes nothing.
use native.Mathlib.Omega.{arith}
use mathlib.Core.Path.{◌≡◌, refl}
use lib.ListN.{length, take, length-take}
use Rattle.walks.proofs.Listing.{made_more, made_all}
use Rattle.rules.specs.Table.{cell}
use Rattle.rules.specs.Mesh.{places_of}
use borrow.Author.Rules.{rules}
use Rattle.walks.proofs.rings.ring_vertices.Goals as goal

pub loop-i-init : goal.loop-i-init
unfolding places_of
loop-i-init c = refl

pub loop-i-preserved : goal.loop-i-preserved
loop-i-preserved c =
    let a = c.args in
    let n = c.min-len.result in
    made_more (λ x. cell a.arcs.now x 1) (take n a.ring.at) c.loop-i.at c.loop-i.i c.cell.result (search rules) (omega (arith, c.min-len.ensures, length-take n a.ring.at)) c.cell.ensures c.loop-i.invariant

pub returns : goal.returns
returns c =
    let a = c.args in
    let n = c.min-len.result in
    let size : length a.ring.at ≡ 64 = search rules in
    let all : c.loop-i.i ≡ n = omega (arith, c.loop-i.auto.i-end, c.loop-i-test.false, c.min-len.ensures, size, length-take n a.ring.at) in
    made_all (λ x. cell a.arcs.now x 1) a.ring c.loop-i.at n size c.min-len.ensures (rw all at c.loop-i.invariant)
