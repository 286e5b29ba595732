-- `tables::sets::zero_set` meets its contract. Five tables zeroed. Assumes nothing.
use Rattle.rules.specs.Call.{zeroed}
use Rattle.tables.proofs.sets.zero_set.Goals as goal

pub returns-clause-zeroed : goal.returns-clause-zeroed
unfolding zeroed
returns-clause-zeroed c = cc
