-- The first number is the mark, and those after it are the keys.
use Rattle.std.proofs.Common.{ap, sym, ◌∙◌}
use Rattle.rules.specs.Script.{line_of}
use Rattle.script.specs.Lines.{most_numbers, parsed_of}
use Rattle.script.proofs.Says.{holds-all, insert-none, insert-says}
use Rattle.script.proofs.lines.face_insert.Goals as goal

pub returns-then-all-eq0 : goal.returns-then-all-eq0
unfolding line_of most_numbers parsed_of
returns-then-all-eq0 c = λ fs h. sym (ap parsed_of (insert-none _ _ (holds-all _ fs h) c.if-all-eq0.true))

pub returns : goal.returns
unfolding line_of most_numbers
returns c = λ fs h. insert-says _ _ (holds-all _ fs h) _ c.if-all-eq0.false c.after_first.ensures
