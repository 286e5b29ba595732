-- `fills::fill::fill_faces` meets its contract. Assumes nothing.
use mathlib.Core.Path.{sym}
use mathlib.Core.List.{[]}
use borrow.Author.Rules.{rules}
use Rattle.file.specs.File.{contents_in, face_row}
use Rattle.bodies.specs.Bodies.{records_in}
use Rattle.fills.proofs.Over.{over-made}
use Rattle.fills.proofs.fill.fill_faces.Goals as goal

pub returns : goal.returns
returns c =
    let t = c.args.file.whole.file.text.now in
    over-made (face_row (contents_in t)) (records_in t 3) c.args.faces.now _ [] c.fill.auto.table c.requires (λ i d l. (c.fill.ensures.made i d (search rules)).1.1)
    (rw (sym c.count-n.ensures.0) c.fill.ensures.rest)
