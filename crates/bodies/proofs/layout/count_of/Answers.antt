-- `bodies::layout::count_of` meets its contract. Assumes nothing.
use Rattle.file.specs.File.{count_in}
use borrow.Author.Rules.{rules}
use mathlib.Core.Path.{◌∙◌}
use Rattle.bodies.proofs.layout.count_of.Goals as goal

pub returns : goal.returns
unfolding count_in
returns c = (c.number4.ensures ∙ rw c.number.ensures, search rules)
