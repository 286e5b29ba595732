-- Each thing is read where the one before it left off.
use Rattle.std.proofs.Common.{ap, ◌∙◌}
use Rattle.script.specs.declared.reader.Line.{Line}
use Rattle.script.specs.Lines.{contents_of}
use Rattle.script.proofs.Says.{contents-none, contents-some}
use Rattle.script.proofs.lines.contents_of.Goals as goal

pub returns-in_err-letter : goal.returns-in_err-letter
unfolding contents_of
returns-in_err-letter c = c.from_residual.ensures ∙ rw (← c.in_err-letter.ensures.value)

pub returns-in_err-numbers : goal.returns-in_err-numbers
returns-in_err-numbers c =
    let l = c.in_ok-letter.ensures in
    c.from_residual-in_err-numbers.ensures
    ∙ contents-none _ _ _ _ _ l.value c.most_numbers.ensures (ap (λ r. r.now) l.same.same_text) l.place c.in_err-numbers.ensures.value

pub returns : goal.returns
returns c =
    let l = c.in_ok-letter.ensures in
    let n = c.in_ok-numbers.ensures in
    contents-some _ _ _ _ _ l.value c.most_numbers.ensures (ap (λ r. r.now) l.same.same_text) l.place _ n.value _ _ n.place (ap (λ r. r.now) n.same.same_text) _ c.spot.ensures
