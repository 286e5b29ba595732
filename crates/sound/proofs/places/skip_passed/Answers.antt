-- `sound::places::skip_passed` meets its contract. The loop keeps that every row gone through passes. Assumes nothing.
use borrow.Author.Rules.{rules}
use Rattle.sound.proofs.places.skip_passed.Goals as goal

pub loop-i-init : goal.loop-i-init
loop-i-init c = c.requires.1.1

pub returns-then-not-block_passes : goal.returns-then-not-block_passes
returns-then-not-block_passes c = c.loop-i.invariant

pub loop-i-preserved : goal.loop-i-preserved
loop-i-preserved c =
    (search rules, c.block_passes.ensures c.if-not-block_passes.false c.loop-i.invariant.1)

pub returns : goal.returns
returns c = c.loop-i.invariant
