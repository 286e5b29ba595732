-- One pattern is written for a NaN. Assumes nothing.
use mathlib.Core.Path.{sym, ◌∙◌}
use Rattle.tables.proofs.Field.{nan-bits}
use Rattle.tables.proofs.points.bits_of.Goals as goal

pub returns-then-is_nan : goal.returns-then-is_nan
returns-then-is_nan c = nan-bits c.args.x (sym c.if-is_nan.true ∙ c.is_nan.ensures.value)
