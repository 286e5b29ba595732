-- `bodies::cells::number4` meets its contract. Assumes nothing.
use borrow.Author.Rules.{rules}
use mathlib.Core.Path.{◌∙◌}
use Rattle.bodies.proofs.Numbers.{four_bytes}
use Rattle.bodies.proofs.cells.number4.Goals as goal

pub returns : goal.returns
returns c = c.from_le_bytes.ensures ∙ four_bytes c.bytes_at.result (search rules) ∙ rw c.bytes_at.ensures
