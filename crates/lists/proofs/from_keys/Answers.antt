-- `lists::from_keys` meets its contract: the keys are copied over zeros. Assumes nothing.
use Rattle.lists.proofs.Laws.{keys-copied}
use Rattle.lists.proofs.from_keys.Goals as goal

pub returns : goal.returns
returns c =
    keys-copied c.args.keys.now c.copy_from_slice.new.self c.min-n.result c.min-n.ensures c.copy_from_slice.ensures.after
