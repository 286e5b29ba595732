-- `nearby::rings::new_rings` meets its contract. The loop keeps that the rings of the new faces passed return. Assumes nothing.
use mathlib.Core.Path.{sym, ◌∙◌}
use lib.ListN.{length}
use Rattle.names.proofs.Loops.{none_yet, one_more, all-passed, one-failed}
use Rattle.nearby.specs.Rings.{new_rings}
use Rattle.nearby.proofs.RingTests.{new_at}
use borrow.Author.Rules.{rules}
use Rattle.nearby.proofs.rings.new_rings.Goals as goal

pub loop-i-init : goal.loop-i-init
loop-i-init c = let a = c.args in none_yet (new_at a.arcs.now a.faces.now a.from)

pub returns-then-not-new_ring : goal.returns-then-not-new_ring
unfolding new_rings
returns-then-not-new_ring c =
    let a = c.args in
    one-failed (new_at a.arcs.now a.faces.now a.from) (length a.faces.now) c.loop-i.i (search rules) (sym c.new_ring.ensures ∙ c.if-not-new_ring.true)

pub loop-i-preserved : goal.loop-i-preserved
loop-i-preserved c =
    let a = c.args in
    one_more (new_at a.arcs.now a.faces.now a.from) c.loop-i.i c.loop-i.invariant (sym c.new_ring.ensures ∙ c.if-not-new_ring.false)

pub returns : goal.returns
unfolding new_rings
returns c =
    let a = c.args in
    all-passed (new_at a.arcs.now a.faces.now a.from) (length a.faces.now) c.loop-i.i (search rules) (search rules) c.loop-i.invariant
