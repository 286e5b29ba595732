-- `lists::stands_from` meets its contract: what is looked at is the part from place i on. Assumes nothing.
use Rattle.lists.proofs.Laws.{has_part}
use Rattle.lists.proofs.stands_from.Goals as goal

pub returns : goal.returns
returns c =
    let a = c.args in
    has_part a.at.now a.n c.min-end.result a.i c.min.result a.x c.contains.result c.told-at c.min-end.ensures c.min.ensures c.contains.ensures.value
