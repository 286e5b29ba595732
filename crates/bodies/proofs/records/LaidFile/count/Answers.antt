-- `bodies::records::LaidFile::count` meets its contract. Assumes nothing.
use mathlib.Core.Path.{◌∙◌}
use borrow.Author.Rules.{rules}
use Rattle.bodies.specs.Kinds.{number}
use Rattle.bodies.proofs.InOrder.{number-small}
use Rattle.bodies.proofs.Stands.{head-there, count-is}
use Rattle.bodies.proofs.records.LaidFile.count.Goals as goal

pub count_of-requires : goal.count_of-requires
count_of-requires c = head-there c.args.self.text.now c.args.self.laid

pub returns : goal.returns
returns c =
    let x = c.args in
    (c.count_of.ensures.0 ∙ count-is x.self.text.now x.self.laid (number x.kind) (number-small x.kind), search rules)
