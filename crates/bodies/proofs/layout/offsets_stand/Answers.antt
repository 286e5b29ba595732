-- `bodies::layout::offsets_stand` meets its contract. The loop keeps whether the bodies that are left stand in place. Assumes nothing.
use native.Mathlib.Omega.{arith}
use mathlib.Core.Path.{sym, ◌∙◌}
use borrow.Author.Rules.{rules}
use Rattle.bodies.proofs.InOrder.{number-at}
use Rattle.bodies.proofs.Stands.{placed-step, placed-stop, placed_end}
use Rattle.bodies.proofs.layout.offsets_stand.Goals as goal

pub returns-then-offset_of-at : goal.returns-then-offset_of-at
returns-then-offset_of-at c =
    let l = c.loop-kind in
    placed-stop c.args.text.now l.kind-index _ l.at c.loop-kind-test.true (number-at l.kind-index c.loop-kind-test.true) l.invariant.1
    (λ e. c.if-offset_of-at.true (c.offset_of.ensures.0 ∙ e))

pub loop-kind-preserved : goal.loop-kind-preserved
loop-kind-preserved c =
    let l = c.loop-kind in
    let there = number-at l.kind-index c.loop-kind-test.true in (
      omega (arith, l.invariant.0, c.space-at.ensures.1, c.count_of.ensures.1),
      placed-step c.args.text.now l.kind-index _ l.at c.count_of.result c.space-at.result c.loop-kind-test.true there l.invariant.1
          (sym c.offset_of.ensures.0 ∙ c.if-offset_of-at.false) c.count_of.ensures.0 c.space-at.ensures.0,
    )

pub returns : goal.returns
returns c = let l = c.loop-kind in placed_end c.args.text.now l.kind-index l.at (search rules) l.invariant.1
