-- `fills::holding::finite_bits` meets its contract. Assumes nothing.
use Rattle.rules.specs.Point.{exponent_field}
use Rattle.fills.proofs.Finite.{by-exponent}
use Rattle.fills.proofs.holding.finite_bits.Goals as goal

pub returns : goal.returns
unfolding exponent_field
returns c = by-exponent c.args.b
