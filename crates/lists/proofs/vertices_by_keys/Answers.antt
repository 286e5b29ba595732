-- `lists::vertices_by_keys` meets its contract. The loop keeps what was made of the keys passed by; laws of Listing. Assumes nothing.
use borrow.Author.Rules.{rules}
use native.Mathlib.Omega.{arith}
use mathlib.Core.Path.{◌≡◌, refl}
use lib.ListN.{length, take, length-take}
use Rattle.rules.specs.Mesh.{places_of, find_key}
use Rattle.walks.proofs.Listing.{made_more, made_all}
use Rattle.lists.proofs.vertices_by_keys.Goals as goal

pub loop-i-init : goal.loop-i-init
unfolding places_of
loop-i-init c = refl

pub loop-i-preserved : goal.loop-i-preserved
loop-i-preserved c =
    let a = c.args in
    let n = c.min-len.result in
    made_more (find_key a.vertices.now) (take n a.keys.at) c.loop-i.at c.loop-i.i c.find_key.result (search rules) (omega (arith, c.min-len.ensures, length-take n a.keys.at)) c.find_key.ensures c.loop-i.invariant

pub returns : goal.returns
returns c =
    let a = c.args in
    let n = c.min-len.result in
    let size : length a.keys.at ≡ 64 = search rules in
    let all : c.loop-i.i ≡ n = omega (arith, c.loop-i.auto.i-end, c.loop-i-test.false, c.min-len.ensures, size, length-take n a.keys.at) in
    made_all (find_key a.vertices.now) a.keys c.loop-i.at n size c.min-len.ensures (rw all at c.loop-i.invariant)
