-- `fills::fill::fill_vertices` meets its contract. Assumes nothing.
use mathlib.Core.Path.{sym}
use mathlib.Core.List.{[]}
use borrow.Author.Rules.{rules}
use Rattle.file.specs.File.{contents_in, vertex_row}
use Rattle.bodies.specs.Bodies.{records_in}
use Rattle.fills.proofs.Over.{over-made}
use Rattle.fills.proofs.fill.fill_vertices.Goals as goal

pub returns : goal.returns
returns c =
    let t = c.args.file.whole.file.text.now in
    over-made (vertex_row (contents_in t)) (records_in t 0) c.args.vertices.now _ [] c.fill.auto.table c.requires (λ i d l. (c.fill.ensures.made i d (search rules)).1.1)
    (rw (sym c.count-n.ensures.0) c.fill.ensures.rest)
