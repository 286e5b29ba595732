-- Nothing is written where the check answers 1; else each count is what its function gives. Assumes nothing.
use Rattle.std.proofs.Common.{ap, ◌∙◌}
use Rattle.rules.specs.Lent.{mesh_in}
use Rattle.script.specs.Texts.{wrote}
use Rattle.runs.proofs.Ending.{nothing_written, end-written}
use Rattle.runs.proofs.counts.put_counts.Goals as goal

pub returns-then-is_answered_one-clause-result_after : goal.returns-then-is_answered_one-clause-result_after
returns-then-is_answered_one-clause-result_after c =
    nothing_written (mesh_in c.args.m) c.is_answered_one.result c.is_answered_one.ensures c.if-is_answered_one.true c.args.out.now

pub returns-clause-result_after : goal.returns-clause-result_after
returns-clause-result_after c =
    c.put_end.ensures.result_after
    ∙ ap (wrote c.args.out.now 0) (end-written (mesh_in c.args.m) c.is_answered_one.result c.is_answered_one.ensures c.if-is_answered_one.false
    _ _ _ c.used.ensures c.used-2.ensures c.used-3.ensures)
