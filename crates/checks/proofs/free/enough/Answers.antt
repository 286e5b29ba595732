-- `checks::free::enough` meets its contract. By the free rows from the end; a law of Ends. Assumes nothing.
use Rattle.rules.specs.Table.{unused}
use Rattle.checks.proofs.Ends.{enough_told}
use Rattle.checks.proofs.free.enough.Goals as goal

pub returns : goal.returns
returns g c = enough_told unused c.args.t.now c.args.need c.free_from_end.result c.free_from_end.ensures
