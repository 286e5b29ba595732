-- `fills::holding::float_of` meets its contract. Assumes nothing.
use Rattle.fills.proofs.Finite.{no-nan-bits}
use Rattle.fills.proofs.holding.float_of.Goals as goal

pub float_from_bits-result : goal.float_from_bits-result
float_from_bits-result c = no-nan-bits c.args.b c.requires
