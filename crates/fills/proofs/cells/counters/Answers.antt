-- `fills::cells::counters` meets its contract. Assumes nothing.
use Rattle.fills.proofs.Made.{counters-made}
use Rattle.fills.proofs.cells.counters.Goals as goal

pub returns : goal.returns
returns c =
    counters-made c.args.text.now c.number4.result c.number4-2.result c.number4-3.result c.number4.ensures c.number4-2.ensures c.number4-3.ensures
