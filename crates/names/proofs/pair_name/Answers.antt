use Rattle.names.specs.Names.{pair_name}
use Rattle.names.proofs.pair_name.Goals as goal

pub returns : goal.returns
unfolding pair_name
returns c = rw (c.min.ensures, c.max.ensures)
