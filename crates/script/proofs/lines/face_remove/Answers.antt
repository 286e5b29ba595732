-- By whether there are exactly one number.
use Rattle.std.proofs.Common.{ap, sym, ◌∙◌, get_or}
use Rattle.rules.specs.declared.Edit.TheVariants as E
use Rattle.rules.specs.Script.{line_of}
use Rattle.script.specs.Lines.{most_numbers, parsed_of}
use Rattle.script.proofs.Says.{four-says, four-not}
use Rattle.script.proofs.lines.face_remove.Goals as goal

pub returns-in_err-f : goal.returns-in_err-f
unfolding line_of most_numbers parsed_of
returns-in_err-f c = λ fs h. c.from_residual.ensures ∙ sym (ap parsed_of (four-not 1 (λ l. E.FaceRemove (get_or l 0 0)) fs (c.in_err-f.ensures fs h)))

pub returns : goal.returns
unfolding line_of most_numbers
returns c = λ fs h. c.says.ensures ∙ sym (ap parsed_of (four-says 1 (λ a b c d. E.FaceRemove a) fs _ (c.in_ok-f.ensures fs h)))
