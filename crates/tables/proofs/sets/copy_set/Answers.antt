-- `tables::sets::copy_set` meets its contract. Five copies, one for each table. Assumes nothing.
use Rattle.tables.specs.Sets.{set_over}
use Rattle.tables.proofs.sets.copy_set.Goals as goal

pub returns-clause-copied : goal.returns-clause-copied
unfolding set_over
returns-clause-copied c = cc
