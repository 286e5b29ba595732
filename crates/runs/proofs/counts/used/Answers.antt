-- No more rows are used than there are. Assumes nothing.
use Rattle.std.proofs.Common.{arith}
use Rattle.rules.proofs.Counts.{used-unused}
use Rattle.runs.proofs.counts.used.Goals as goal

pub overflow_cast-result : goal.overflow_cast-result
overflow_cast-result g c = omega (arith, c.requires, c.count_used.ensures, used-unused c.args.t.now)
