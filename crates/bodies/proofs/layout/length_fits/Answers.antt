-- `bodies::layout::length_fits` meets its contract. The loop keeps what the counts that are left ask. Assumes nothing.
use native.Mathlib.Omega.{arith}
use borrow.Author.Rules.{rules}
use Rattle.bodies.proofs.InOrder.{number-at}
use Rattle.bodies.proofs.Stands.{asked-step, fits-is, too_short}
use Rattle.bodies.proofs.layout.length_fits.Goals as goal

pub returns-then-text-lt-HEAD : goal.returns-then-text-lt-HEAD
returns-then-text-lt-HEAD c = too_short c.args.text.now c.if-text-lt-HEAD.true

pub loop-counted-preserved : goal.loop-counted-preserved
loop-counted-preserved c =
    let l = c.loop-counted in
    let there = number-at l.counted-index c.loop-counted-test.true in (
      omega (arith, l.invariant.0, c.space-end.ensures.1, c.count_of.ensures.1),
      asked-step c.args.text.now l.counted-index _ l.end c.count_of.result c.space-end.result c.loop-counted-test.true there l.invariant.1 c.count_of.ensures.0 c.space-end.ensures.0,
    )

pub returns : goal.returns
returns c =
    let l = c.loop-counted in
    fits-is c.args.text.now l.counted-index l.end (search rules) (search rules) l.invariant.1
