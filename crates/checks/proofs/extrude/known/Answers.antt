-- `checks::extrude::known` meets its contract. By the test of the code. Assumes nothing.
use Rattle.std.proofs.Common.{rules}
use Rattle.rules.specs.Edit.{known}
use Rattle.checks.proofs.extrude.known.Goals as goal

pub returns-then-l-eq0 : goal.returns-then-l-eq0
unfolding known
returns-then-l-eq0 c = search rules

pub returns : goal.returns
unfolding known
returns c = search rules
