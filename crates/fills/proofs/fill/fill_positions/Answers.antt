-- `fills::fill::fill_positions` meets its contract. Assumes nothing.
use mathlib.Core.Path.{sym}
use mathlib.Core.List.{[]}
use borrow.Author.Rules.{rules}
use Rattle.file.specs.File.{position_row}
use Rattle.bodies.specs.Bodies.{records_in}
use Rattle.fills.proofs.Over.{over-made}
use Rattle.fills.proofs.fill.fill_positions.Goals as goal

pub returns : goal.returns
returns c =
    let t = c.args.file.whole.file.text.now in
    over-made position_row (records_in t 0) c.args.positions.now _ [] c.fill.auto.table c.requires (λ i d l. (c.fill.ensures.made i d (search rules)).1.1)
    (rw (sym c.count-n.ensures.0) c.fill.ensures.rest)
