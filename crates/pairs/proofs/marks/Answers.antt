-- `pairs::marks` meets its contract: marks put to none. Assumes nothing.
use Rattle.pairs.specs.Pairs.{marks_of}
use Rattle.pairs.proofs.marks.Goals as goal

pub returns : goal.returns
unfolding marks_of
returns c = c.mark.ensures
