use Rattle.rules.specs.Point.{finite_row, finite_position}
use Rattle.sound.proofs.blanks.finite_row.Goals as goal

pub returns : goal.returns
unfolding finite_row finite_position
returns c = rw (c.finite.ensures.0, c.finite-2.ensures.0, c.finite-3.ensures.0)
