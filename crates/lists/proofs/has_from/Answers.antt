-- `lists::has_from` meets its contract. The list is its places as far as its length says. Assumes nothing.
use Rattle.rules.specs.Mesh.{list_of}
use Rattle.lists.proofs.has_from.Goals as goal

pub returns : goal.returns
unfolding list_of
returns c = c.stands_from.ensures
