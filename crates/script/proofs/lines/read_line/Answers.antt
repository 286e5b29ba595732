-- What stands on the line tells what it says; a line of at most 512 bytes has at most 254 keys.
use Rattle.std.proofs.Common.{ap, sym, ◌∙◌}
use Rattle.script.specs.Lines.{parsed_of}
use Rattle.script.proofs.Spoken.{few}
use Rattle.script.proofs.Says.{line-long, line-tells, line-unread}
use Rattle.script.proofs.lines.read_line.Goals as goal

pub returns-then-text-gt-LINE-clause-value : goal.returns-then-text-gt-LINE-clause-value
unfolding parsed_of
returns-then-text-gt-LINE-clause-value c = sym (ap parsed_of (line-long _ c.if-text-gt-LINE.true))

pub returns-in_err-contents_of-clause-value : goal.returns-in_err-contents_of-clause-value
unfolding parsed_of
returns-in_err-contents_of-clause-value c =
    c.from_residual.ensures ∙ sym (ap parsed_of (line-unread _ c.if-text-gt-LINE.false c.in_err-contents_of.ensures))

pub returns-clause-value : goal.returns-clause-value
returns-clause-value c = line-tells _ c.if-text-gt-LINE.false _ _ c.in_ok-contents_of.ensures c.by_letter.ensures

pub returns-clause-few : goal.returns-clause-few
returns-clause-few c = few _ _ (returns-clause-value c)
