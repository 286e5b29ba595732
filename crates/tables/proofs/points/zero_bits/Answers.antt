-- `tables::points::zero_bits` meets its contract. A NaN alone differs from itself, and its bits are not all 0. Assumes nothing.
use mathlib.Core.Path.{refl, sym, subst}
use lib.Dec.{T}
use lib.Ieee.Compare.{differs_from_itself}
use Rattle.rules.specs.Point.{zero_number}
use Rattle.tables.proofs.Field.{nan-not-zero, not-nan}
use Rattle.tables.proofs.points.zero_bits.Goals as goal

pub returns-then-x : goal.returns-then-x
returns-then-x c = nan-not-zero _ (differs_from_itself _ (subst T (sym c.if-x.true) tt))

pub float_to_bits-result : goal.float_to_bits-result
float_to_bits-result c = not-nan _ c.if-x.false

pub returns : goal.returns
unfolding zero_number
returns c = refl
