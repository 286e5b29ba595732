-- By whether a point stands where it is asked for.
use Rattle.std.proofs.Common.{ap, sym, ◌∙◌, get_or}
use Rattle.rules.specs.declared.Edit.TheVariants as E
use Rattle.rules.specs.Script.{line_of}
use Rattle.script.specs.Lines.{most_numbers, parsed_of}
use Rattle.script.proofs.Says.{aim-says, aim-not}
use Rattle.script.proofs.lines.vertex_insert.Goals as goal

pub returns-in_err-p : goal.returns-in_err-p
unfolding line_of most_numbers parsed_of
returns-in_err-p c = λ fs h. c.from_residual.ensures ∙ sym (ap parsed_of (aim-not 0 (λ l p. E.VertexInsert p) fs (c.in_err-p.ensures 0 fs h)))

pub returns : goal.returns
unfolding line_of most_numbers
returns c = λ fs h. c.says.ensures ∙ (sym (ap parsed_of (aim-says 0 (λ a b p. E.VertexInsert p) fs _ _ _ (c.in_ok-p.ensures 0 fs h))))
