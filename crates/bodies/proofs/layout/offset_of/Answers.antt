-- `bodies::layout::offset_of` meets its contract. Assumes nothing.
use mathlib.Core.Path.{sym, ◌∙◌}
use Rattle.bodies.specs.Kinds.{number}
use Rattle.bodies.proofs.Stands.{offset-place}
use borrow.Author.Rules.{rules}
use Rattle.bodies.proofs.layout.offset_of.Goals as goal

pub returns : goal.returns
returns c = (c.number4.ensures ∙ rw c.number.ensures (sym (offset-place (number c.args.kind) c.args.text.now)), search rules)
