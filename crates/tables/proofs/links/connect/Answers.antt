-- `tables::links::connect` meets its contract. The second store is made on what the first left. Assumes nothing.
use Rattle.tables.proofs.links.connect.Goals as goal

pub returns : goal.returns
returns c = rw (← c.put.ensures) c.put-2.ensures
