-- `nearby::rings::walked` meets its contract. The loop keeps what is left of the walk. Assumes nothing.
use Prim.Native.Nat.{◌+◌, ◌-◌}
use mathlib.Core.Path.{◌≡◌, refl, ap, sym, ◌∙◌}
use mathlib.Core.Bool.{true}
use Rattle.nearby.specs.Rings.{held_at, walked_from}
use Rattle.nearby.proofs.RingTests.{walk-leaves, walk-returns, walk-goes, walk_ends}
use borrow.Author.Rules.{rules}
use Rattle.nearby.proofs.rings.walked.Goals as goal
use Rattle.nearby.proofs.rings.walked.Goals.{Else-not-held_at}

pub returns-then-not-held_at : goal.returns-then-not-held_at
returns-then-not-held_at c =
    let a = c.args in
    sym (c.loop.invariant ∙ walk-leaves a.arcs.now a.g a.first c.loop.counter c.loop.x (search rules) (sym c.held_at.ensures ∙ c.if-not-held_at.true))

-- the arc is on the ring
held : (c : Else-not-held_at) → held_at c.args.arcs.now c.args.g c.loop.x ≡ true
held c = sym c.held_at.ensures ∙ c.if-not-held_at.false

pub returns-then-x-first : goal.returns-then-x-first
returns-then-x-first c =
    let a = c.args in
    sym (c.loop.invariant ∙ walk-returns a.arcs.now a.g a.first c.loop.counter c.loop.x (search rules) (held c.before.before) (sym c.cell-x.ensures ∙ c.if-x-first.true))

pub loop-init : goal.loop-init
loop-init c = refl

pub loop-preserved : goal.loop-preserved
loop-preserved c =
    let a = c.args in
    let y = c.cell-x.ensures in
    c.loop.invariant
    ∙ walk-goes a.arcs.now a.g a.first c.loop.counter c.loop.x (search rules) (held c.before.before) (λ e. c.if-x-first.false (y ∙ e))
    ∙ ap (walked_from a.arcs.now a.g a.first (64 - (c.loop.counter + 1))) (sym y)

pub returns : goal.returns
returns c =
    let a = c.args in
    sym (c.loop.invariant ∙ walk_ends a.arcs.now a.g a.first c.loop.counter c.loop.x (search rules))
