-- What is left to feed, written behind what is written, is the whole.
use Rattle.std.proofs.Common.{arith, sym, ◌∙◌}
use borrow.Author.Rules.{rules}
use Rattle.runs.proofs.Passing.{turn-again, chunk-ends}
use Rattle.runs.proofs.feed.feed.Goals as goal

pub feed_byte-at-requires : goal.feed_byte-at-requires
feed_byte-at-requires c = omega (arith, c.loop-b.invariant.3, c.loop-b.invariant.4, c.loop-b-test.true, c.requires)

pub loop-b-preserved : goal.loop-b-preserved
loop-b-preserved c =
    let i = c.loop-b.invariant in
    let w = c.feed_byte-at.ensures in (
      search rules,
      search rules,
      search rules,
      omega (arith, w.short, i.3),
      search rules,
      i.5 ∙ turn-again _ _ c.loop-b-test.true _ _ _ _ _ _ _ _ _ _ _ _ w.fed_after (omega (arith, i.3, i.4, c.loop-b-test.true, c.requires)),
    )

pub returns-clause-fed_after : goal.returns-clause-fed_after
returns-clause-fed_after c =
    let i = c.loop-b.invariant in
    chunk-ends c.args.chunk.now c.loop-b.b-index c.loop-b.out c.loop-b.at _ _ _ _ c.loop-b-test.false (omega (arith, i.3, i.4, c.loop-b.auto.b-index-end, c.requires))
    ∙ sym i.5
