-- `fills::rows::face_row` meets its contract. Assumes nothing.
use native.Mathlib.Omega.{arith}
use mathlib.Core.List.{[]}
use lib.ListN.{get_or}
use Rattle.file.specs.File.{contents_in}
use Rattle.bodies.specs.Bodies.{records_in}
use Rattle.fills.proofs.Made.{stored, face-held, face-made}
use Rattle.fills.proofs.rows.face_row.Goals as goal

pub overflow_add-result : goal.overflow_add-result
overflow_add-result c = omega (arith, c.cell-key.ensures, face-held c.args.file.whole.file.text.now (stored c.args.file) c.args.i c.requires)

pub returns : goal.returns
returns c =
    let x = c.args in
    let r = get_or (records_in x.file.whole.file.text.now 3) x.i [] in
    face-made (contents_in x.file.whole.file.text.now) r c.cell-key.result c.cell-a.result c.cell-b.result c.cell-mark.result c.arc_near.result c.cell-key.ensures c.cell-a.ensures c.cell-b.ensures c.cell-mark.ensures c.arc_near.ensures
