-- `lists::known_few` meets its contract. Assumes nothing.
use borrow.Author.Rules.{rules}
use Rattle.lists.proofs.Laws.{list-few}
use Rattle.lists.proofs.known_few.Goals as goal

pub returns : goal.returns
returns c = list-few c.args.list (search rules)
