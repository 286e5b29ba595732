-- `checks::call::insert_need` meets its contract. One edge for each pair without an arc. Assumes nothing.
use Rattle.std.proofs.Common.{rules}
use Rattle.rules.specs.Call.{insert_need}
use Rattle.checks.proofs.call.insert_need.Goals as goal

pub returns : goal.returns
unfolding insert_need
returns c = search rules
