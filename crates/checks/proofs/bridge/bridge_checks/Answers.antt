-- `checks::bridge::bridge_checks` meets its contract. The tests in their order. Assumes nothing.
use Rattle.std.proofs.Common.{rules}
use Rattle.rules.specs.Edit.{bridge_checks}
use Rattle.checks.proofs.bridge.bridge_checks.Goals as goal

pub returns-then-f-eq0 : goal.returns-then-f-eq0
unfolding bridge_checks
returns-then-f-eq0 c = search rules

pub returns-then-arity_of : goal.returns-then-arity_of
unfolding bridge_checks
returns-then-arity_of c = search rules

pub returns-then-f-g : goal.returns-then-f-g
unfolding bridge_checks
returns-then-f-g c = search rules

pub returns : goal.returns
unfolding bridge_checks
returns c = search rules
