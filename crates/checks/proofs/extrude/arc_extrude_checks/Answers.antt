-- `checks::extrude::arc_extrude_checks` meets its contract. The tests in their order. Assumes nothing.
use Rattle.std.proofs.Common.{rules}
use Rattle.rules.specs.Edit.{known}
use Rattle.rules.specs.Extrude.{arc_extrude_checks}
use Rattle.checks.proofs.extrude.arc_extrude_checks.Goals as goal

pub returns-in_err-known : goal.returns-in_err-known
unfolding known arc_extrude_checks
returns-in_err-known c = search rules

pub returns-then-cell-ne0 : goal.returns-then-cell-ne0
unfolding known arc_extrude_checks
returns-then-cell-ne0 c = search rules

pub returns : goal.returns
unfolding known arc_extrude_checks
returns c = search rules
