-- By whether a point stands where it is asked for.
use Rattle.std.proofs.Common.{ap, sym, ◌∙◌, get_or}
use Rattle.rules.specs.declared.Edit.TheVariants as E
use Rattle.rules.specs.Script.{line_of, shift}
use Rattle.script.specs.Lines.{most_numbers, parsed_of}
use Rattle.script.proofs.Says.{aim-says, aim-not}
use Rattle.script.proofs.lines.arc_extrude.Goals as goal

pub returns-in_err-s : goal.returns-in_err-s
unfolding line_of most_numbers parsed_of
returns-in_err-s c = λ fs h. c.from_residual.ensures ∙ sym (ap parsed_of (aim-not 2 (λ l p. E.ArcExtrude (get_or l 0 0) (get_or l 1 0) (shift p)) fs (c.in_err-s.ensures 2 fs h)))

pub returns : goal.returns
unfolding line_of most_numbers
returns c = λ fs h. c.says.ensures ∙ rw c.shift.ensures (sym (ap parsed_of (aim-says 2 (λ a b p. E.ArcExtrude a b (shift p)) fs _ _ _ (c.in_ok-s.ensures 2 fs h))))
