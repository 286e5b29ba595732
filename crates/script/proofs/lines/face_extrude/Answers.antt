-- By whether a point stands where it is asked for.
use Rattle.std.proofs.Common.{ap, sym, ◌∙◌, get_or}
use Rattle.rules.specs.declared.Edit.TheVariants as E
use Rattle.rules.specs.Script.{line_of, shift}
use Rattle.script.specs.Lines.{most_numbers, parsed_of}
use Rattle.script.proofs.Says.{aim-says, aim-not}
use Rattle.script.proofs.lines.face_extrude.Goals as goal

pub returns-in_err-f : goal.returns-in_err-f
unfolding line_of most_numbers parsed_of
returns-in_err-f c = λ fs h. c.from_residual.ensures ∙ sym (ap parsed_of (aim-not 1 (λ l p. E.FaceExtrude (get_or l 0 0) (shift p)) fs (c.in_err-f.ensures 1 fs h)))

pub returns : goal.returns
unfolding line_of most_numbers
returns c = λ fs h. c.says.ensures ∙ rw c.shift.ensures (sym (ap parsed_of (aim-says 1 (λ a b p. E.FaceExtrude a (shift p)) fs _ _ _ (c.in_ok-f.ensures 1 fs h))))
