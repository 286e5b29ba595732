-- `bodies::search::by_key` meets its contract. Assumes nothing.
use mathlib.Core.Path.{◌∙◌}
use Rattle.bodies.specs.Kinds.{number}
use Rattle.bodies.proofs.Keys.{number-is-key}
use Rattle.bodies.proofs.search.by_key.Goals as goal

pub returns : goal.returns
returns c =
    let x = c.args in
    c.link.ensures ∙ rw (c.find.ensures.found, c.from.ensures) (number-is-key x.whole.file.text.now (number x.kind) x.key c.requires)
