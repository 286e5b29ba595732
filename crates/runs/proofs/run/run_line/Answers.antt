-- A line that can't be read is answered and leaves everything; one that says an edit is one call of `change`, and its answer.
use Rattle.script.proofs.Spoken.{says_is, says-not}
use Rattle.runs.proofs.Answering.{unread-prints, said-prints}
use Rattle.runs.proofs.run.run_line.Goals as goal

pub returns-in_default-clause-line_after : goal.returns-in_default-clause-line_after
returns-in_default-clause-line_after c =
    unread-prints _ _ _ _ _ _ _ (says-not _ c.in_default.ensures.value) c.put_unreadable.ensures.result_after

pub returns-clause-line_after : goal.returns-clause-line_after
returns-clause-line_after c =
    said-prints _ _ _ _ _ _ _ _ _ _ _ _ _ (says_is _ _ c.in-Some.ensures.value) c.change-answer.ensures.outcome c.put_answer.ensures.result_after
