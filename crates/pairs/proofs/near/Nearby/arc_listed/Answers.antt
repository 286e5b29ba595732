-- `pairs::near::Nearby::arc_listed` meets its contract. The loop keeps the least link among those passed by; laws of Lookup. Assumes nothing.
use mathlib.Core.Path.{◌≡◌}
use native.Mathlib.Omega.{arith}
use lib.ListN.{take}
use Rattle.pairs.proofs.Pass.{from-none}
use Rattle.pairs.proofs.Lookup.{all_from, all-early, least-read, least-is}
use Rattle.pairs.proofs.near.Nearby.arc_listed.Goals as goal

pub returns-then-a-eq0 : goal.returns-then-a-eq0
returns-then-a-eq0 c = from-none _ _ _ c.if-a-eq0.true

pub returns-then-ended : goal.returns-then-ended
returns-then-ended c =
    let a = c.args in
    let by = a.self.now in
    let t = c.requires.0 in
    let end = c.ended.ensures c.if-ended.true in
    let all = all-early a.arcs.now by.links by.len by.used c.loop-k.k a.a t.listing.ends end.0 c.loop-k-test.true end.1 (all_from a.arcs.now by.seen (take by.len by.links) by.spare by.used a.a t.listing c.requires.1) in
    least-is a.arcs.now a.a a.b (take c.loop-k.k by.links) c.loop-k.m c.if-a-eq0.false t.fits all c.loop-k.invariant

pub loop-k-preserved : goal.loop-k-preserved
loop-k-preserved c =
    let a = c.args in
    let k = c.loop-k.k in
    least-read a.arcs.now a.a a.b a.self.now.links k c.lesser-m.result (c.lesser-m.ensures (take k a.self.now.links) c.loop-k.invariant)

pub returns : goal.returns
returns c =
    let a = c.args in
    let by = a.self.now in
    let t = c.requires.0 in
    let all : c.loop-k.k ≡ by.len = omega (arith, c.loop-k.auto.k-end t.most, c.loop-k-test.false) in
    least-is a.arcs.now a.a a.b (take by.len by.links) c.loop-k.m c.if-a-eq0.false t.fits (all_from a.arcs.now by.seen (take by.len by.links) by.spare by.used a.a t.listing c.requires.1) (rw all at c.loop-k.invariant)
