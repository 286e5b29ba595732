-- `bodies::cells::number8` meets its contract. Assumes nothing.
use borrow.Author.Rules.{rules}
use mathlib.Core.Path.{◌∙◌}
use Rattle.bodies.proofs.Numbers.{eight_bytes}
use Rattle.bodies.proofs.cells.number8.Goals as goal

pub returns : goal.returns
returns c = (c.from_le_bytes.ensures ∙ eight_bytes c.bytes_at.result (search rules) ∙ rw c.bytes_at.ensures, search rules)
