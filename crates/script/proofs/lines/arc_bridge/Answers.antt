-- By whether there are exactly four numbers.
use Rattle.std.proofs.Common.{ap, sym, ◌∙◌, get_or}
use Rattle.rules.specs.declared.Edit.TheVariants as E
use Rattle.rules.specs.Script.{line_of}
use Rattle.script.specs.Lines.{most_numbers, parsed_of}
use Rattle.script.proofs.Says.{four-says, four-not}
use Rattle.script.proofs.lines.arc_bridge.Goals as goal

pub returns-in_err-a : goal.returns-in_err-a
unfolding line_of most_numbers parsed_of
returns-in_err-a c = λ fs h. c.from_residual.ensures ∙ sym (ap parsed_of (four-not 4 (λ l. E.ArcBridge (get_or l 0 0) (get_or l 1 0) (get_or l 2 0) (get_or l 3 0)) fs (c.in_err-a.ensures fs h)))

pub returns : goal.returns
unfolding line_of most_numbers
returns c = λ fs h. c.says.ensures ∙ sym (ap parsed_of (four-says 4 (λ a b c d. E.ArcBridge a b c d) fs _ (c.in_ok-a.ensures fs h)))
