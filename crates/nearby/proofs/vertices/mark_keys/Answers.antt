-- `nearby::vertices::mark_keys` meets its contract. Assumes nothing.
use Rattle.nearby.proofs.Marking.{marks-keys}
use borrow.Author.Rules.{rules}
use Rattle.nearby.proofs.vertices.mark_keys.Goals as goal

pub returns : goal.returns
returns c = λ p a e f k.
    let s = c.args in
    marks-keys s.seen.now _ s.vertices.now p a e f k s.keys.now c.from_keys-names.result c.vertices_by_keys.result (search rules) (search rules) c.from_keys-names.ensures c.vertices_by_keys.ensures c.mark.ensures
