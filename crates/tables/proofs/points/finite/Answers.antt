-- `tables::points::finite` meets its contract. A NaN alone differs from itself; else shift and mask give the exponent field, which tells what is finite (Field). Assumes nothing.
use mathlib.Core.Path.{sym, subst, ◌∙◌}
use lib.Dec.{T}
use lib.Ieee.Compare.{differs_from_itself}
use Rattle.tables.proofs.Field.{by_field, masked, nan-not-finite, not-nan}
use Rattle.tables.proofs.points.finite.Goals as goal

pub returns-then-x : goal.returns-then-x
returns-then-x c = nan-not-finite _ (differs_from_itself _ (subst T (sym c.if-x.true) tt))

pub float_to_bits-field : goal.float_to_bits-field
float_to_bits-field c = not-nan _ c.if-x.false

pub returns : goal.returns
returns c =
    let x = c.args.x in
    (masked x, masked x ∙ sym (by_field x (subst T (sym c.well_formed.0.1) tt)))
