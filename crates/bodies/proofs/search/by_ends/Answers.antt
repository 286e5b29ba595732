-- `bodies::search::by_ends` meets its contract. Assumes nothing.
use borrow.Author.Rules.{rules}
use mathlib.Core.Path.{◌∙◌}
use Rattle.bodies.proofs.Keys.{number-is-ends}
use Rattle.bodies.proofs.search.by_ends.Goals as goal

pub returns : goal.returns
returns c =
    let x = c.args in
    c.link.ensures
    ∙ rw (c.find.ensures.found, c.from.ensures, c.from-2.ensures)
    (number-is-ends x.whole.file.text.now x.source x.destination x.whole.file.laid (search rules))
