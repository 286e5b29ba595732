-- `fills::holding::key_fits` meets its contract. Assumes nothing.
use borrow.Author.Rules.{rules}
use Rattle.bodies.specs.Kinds.{number}
use Rattle.bodies.proofs.InOrder.{number-small}
use Rattle.fills.specs.Fills.{key_fits}
use Rattle.fills.proofs.Widths.{key-four}
use Rattle.fills.proofs.holding.key_fits.Goals as goal

pub cell-requires : goal.cell-requires
cell-requires c = (search rules, key-four (number c.args.kind) (number-small c.args.kind))

pub returns : goal.returns
unfolding key_fits
returns c = rw c.cell.ensures
