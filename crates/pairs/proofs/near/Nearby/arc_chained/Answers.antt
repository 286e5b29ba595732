-- `pairs::near::Nearby::arc_chained` meets its contract. The loop keeps the least link of the chain from its place on; laws of Lookup. Assumes nothing.
use Prim.Native.Nat.{ℕ, ◌-◌, ◌≤◌}
use native.Mathlib.Omega.{arith}
use mathlib.Core.Path.{refl, subst, ◌∙◌}
use Rattle.pairs.specs.Near.{source_at, LastLike}
use Rattle.pairs.proofs.Lookup.{Walked, walked_start, walked_next, walked_end}
use Rattle.pairs.proofs.near.Nearby.arc_chained.Goals as goal

pub returns-then-a-eq0 : goal.returns-then-a-eq0
returns-then-a-eq0 c = (λ e. refl, λ ne. absurd (ne c.if-a-eq0.true))

pub loop-k-init : goal.loop-k-init
loop-k-init c =
    let a = c.args in
    let h : LastLike a.arcs.now a.self.now.links a.a a.self.now.chained c.wide-k.result = rw (c.wide-k.ensures, c.wide.ensures) (c.requires.1.last a.a) in
    (h.within, (h.like, walked_start a.arcs.now a.a a.b a.self.now.links a.self.now.chained c.wide-k.result h))

-- the place before in the chain
before-it : (c : goal.After-wide-k-in-loop-k) → LastLike c.args.arcs.now c.args.self.now.links (source_at c.args.arcs.now c.args.self.now.links (c.loop-k.k - 1)) (c.loop-k.k - 1) c.wide-k-in-loop-k.result
before-it c =
    rw c.wide-k-in-loop-k.ensures (c.requires.1.next (c.loop-k.k - 1) (omega (arith, c.loop-k.invariant.0, c.loop-k-test.true)))

pub loop-k-smaller : goal.loop-k-smaller
loop-k-smaller c = omega (arith, (before-it c).within, c.loop-k-test.true)

pub loop-k-preserved : goal.loop-k-preserved
loop-k-preserved c =
    let a = c.args in
    let k = c.loop-k.k in
    let h = before-it c in
    let some : 1 ≤ k = omega (arith, c.loop-k-test.true) in
    let same = c.loop-k.invariant.1.0 some in
    let w = c.loop-k.invariant.1.1 in
    (omega (arith, h.within, c.loop-k.invariant.0), (λ q. h.like q ∙ same, walked_next a.arcs.now a.a a.b a.self.now.links a.self.now.chained k c.loop-k.m c.wide-k-in-loop-k.result c.lesser-m.result some same h w (c.lesser-m.ensures w.list w.least)))

pub returns : goal.returns
returns c =
    let a = c.args in
    let m = c.loop-k.m in
    let w = subst (λ (k : ℕ). Walked a.arcs.now a.a a.b a.self.now.links a.self.now.chained k m) c.loop-k-test.false c.loop-k.invariant.1.1 in
    (λ e. absurd (c.if-a-eq0.false e), λ ne. walked_end a.arcs.now a.a a.b a.self.now.links a.self.now.chained m w)
