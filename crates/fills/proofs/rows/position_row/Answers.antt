-- `fills::rows::position_row` meets its contract. Assumes nothing.
use mathlib.Core.List.{[]}
use lib.ListN.{get_or}
use Rattle.file.specs.File.{contents_in}
use Rattle.bodies.specs.Bodies.{records_in}
use Rattle.fills.proofs.Made.{stored, x-held, y-held, z-held, position-made}
use Rattle.fills.proofs.rows.position_row.Goals as goal

pub float_of-x-requires : goal.float_of-x-requires
float_of-x-requires c = x-held c.args.file.whole.file.text.now (stored c.args.file) c.args.i c.requires c.bits.result c.bits.ensures.0

pub float_of-y-requires : goal.float_of-y-requires
float_of-y-requires c = y-held c.args.file.whole.file.text.now (stored c.args.file) c.args.i c.requires c.bits-2.result c.bits-2.ensures.0

pub float_of-z-requires : goal.float_of-z-requires
float_of-z-requires c = z-held c.args.file.whole.file.text.now (stored c.args.file) c.args.i c.requires c.bits-3.result c.bits-3.ensures.0

pub returns : goal.returns
returns c =
    let x = c.args in
    let r = get_or (records_in x.file.whole.file.text.now 0) x.i [] in
    position-made (contents_in x.file.whole.file.text.now) r c.bits.result c.bits-2.result c.bits-3.result c.float_of-x.result c.float_of-y.result c.float_of-z.result
    c.bits.ensures.0 c.bits-2.ensures.0 c.bits-3.ensures.0 c.float_of-x.ensures c.float_of-y.ensures c.float_of-z.ensures
