-- `tables::vertices::one_up` meets its contract. Its two cases are those of the definition. Assumes nothing.
use borrow.Author.Rules.{rules}
use Rattle.std.proofs.Common.{tests}
use Rattle.rules.specs.Mesh.{one_up}
use Rattle.tables.proofs.vertices.one_up.Goals as goal

pub returns : goal.returns
unfolding one_up
returns c = search (rules, tests)
