-- `checks::extrude::one_finite` meets its contract. The position, moved, by what the three callees ensure. Assumes nothing.
use mathlib.Core.Path.{◌∙◌}
use Rattle.rules.specs.Extrude.{moved_position}
use Rattle.checks.proofs.extrude.one_finite.Goals as goal

pub returns : goal.returns
unfolding moved_position
returns c = λ vs ar es fs ks. c.finite_position.ensures ∙ rw (c.moved.ensures, c.position_at.ensures)
