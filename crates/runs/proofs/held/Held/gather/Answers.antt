-- The loop stands where the definition stands at the same place of the chunk.
use Rattle.std.proofs.Common.{arith, false, ◌≡◌, sym, ◌∙◌, ap, drop, length, ◌+◌}
use lib.ListN.{length-drop}
use Rattle.runs.specs.Gather.{gathering, gathered_from, gathered_to}
use Rattle.runs.proofs.Cutting.{gather-ends, gather-on, gather_none}
use Rattle.runs.proofs.held.Held.gather.Goals as goal

pub returns-then-chunk-i-eq-NEWLINE : goal.returns-then-chunk-i-eq-NEWLINE
unfolding gathered_to
returns-then-chunk-i-eq-NEWLINE c =
    sym (c.loop-i.invariant.2 ∙ gather-ends c.args.chunk.now c.loop-i.i c.loop-i.self c.loop-i-test.true c.if-chunk-i-eq-NEWLINE.true)

pub loop-i-preserved : goal.loop-i-preserved
loop-i-preserved c =
    let chunk = c.args.chunk.now in
    let i = c.loop-i.i in (
      omega (arith, c.loop-i.invariant.0),
      omega (arith, c.loop-i.invariant.0, c.loop-i-test.true, length-drop c.args.from chunk),
      c.loop-i.invariant.2
          ∙ gather-on chunk i c.loop-i.self c.loop-i-test.true c.if-chunk-i-eq-NEWLINE.false
          ∙ ap (λ w. gathered_from (i + 1) w (drop (i + 1) chunk)) (sym c.push.ensures),
    )

pub returns : goal.returns
unfolding gathered_to
returns c =
    let chunk = c.args.chunk.now in
    let i = c.loop-i.invariant in
    let end : c.args.from + length (drop c.args.from chunk) ≡ c.loop-i.i = omega (arith, i.0, i.1, c.loop-i-test.false, length-drop c.args.from chunk) in
    ap (λ n. gathering n c.loop-i.self false) end ∙ sym (i.2 ∙ gather_none chunk c.loop-i.i c.loop-i.self (omega (arith, c.loop-i-test.false)))
