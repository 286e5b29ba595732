-- `sound::queries::arity_from` meets its contract: the walk has 64 arcs at most, and as many as the ring. Assumes nothing.
use borrow.Author.Rules.{rules}
use mathlib.Core.Path.{sym}
use Rattle.rules.specs.Table.{cell}
use Rattle.sound.proofs.RingRows.{ring-len, walk-short}
use Rattle.sound.proofs.queries.arity_from.Goals as goal

pub overflow_cast-result : goal.overflow_cast-result
overflow_cast-result c =
    let a = c.args in
    search (rules, walk-short (λ x. cell a.arcs.now x 2) a.first c.ring.result c.ring.ensures)

pub returns : goal.returns
returns c =
    let a = c.args in
    λ m f ea ef. sym (ring-len m f a.arcs.now a.first c.ring.result ea ef c.ring.ensures)
