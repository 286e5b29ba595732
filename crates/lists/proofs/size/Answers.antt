-- `lists::size` meets its contract. As many as its length says, of 64 places. Assumes nothing.
use borrow.Author.Rules.{rules}
use Rattle.lists.proofs.Laws.{list-size}
use Rattle.lists.proofs.size.Goals as goal

pub returns : goal.returns
returns c = list-size c.args.list c.min.result (search rules) c.min.ensures
