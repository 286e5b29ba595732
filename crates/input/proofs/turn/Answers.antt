-- Where the read failed nothing was fed; else the chunk was, whether its answers could be written or not.
use Rattle.std.proofs.Common.{[], refl, take}
use Rattle.runs.specs.Gather.{cut_all}
use Rattle.input.proofs.Leaving.{left-by}
use Rattle.input.proofs.turn.Goals as goal

pub returns-in_err-read-clause-left : goal.returns-in_err-read-clause-left
unfolding cut_all
returns-in_err-read-clause-left g c = ([], ([], refl))

pub returns-in_err-write_all-clause-left : goal.returns-in_err-write_all-clause-left
returns-in_err-write_all-clause-left g c = (take c.closed-n.result c.closed-n.new.chunk, (_, left-by _ _ _ _ _ _ _ c.feed-at.ensures.fed_after))

pub returns-clause-left : goal.returns-clause-left
returns-clause-left g c = (take c.closed-n.result c.closed-n.new.chunk, (_, left-by _ _ _ _ _ _ _ c.feed-at.ensures.fed_after))
