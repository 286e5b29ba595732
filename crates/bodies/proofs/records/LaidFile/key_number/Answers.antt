-- `bodies::records::LaidFile::key_number` meets its contract. Assumes nothing.
use native.Mathlib.Omega.{arith}
use mathlib.Core.Path.{◌∙◌, ap}
use Rattle.bodies.specs.Kinds.{number}
use Rattle.bodies.proofs.InOrder.{not-arcs}
use Rattle.bodies.proofs.Keys.{key-is-first, key-is-pair}
use Rattle.bodies.proofs.Files.{held, three-cells}
use Rattle.bodies.proofs.records.LaidFile.key_number.Goals as goal

pub number4-requires : goal.number4-requires
number4-requires c = let x = c.args in omega (arith, c.record_at-at.ensures, three-cells x.self x.kind x.i c.requires)

pub overflow_add-at : goal.overflow_add-at
overflow_add-at c = let x = c.args in omega (arith, c.record_at-at.ensures, three-cells x.self x.kind x.i c.requires)

pub number4-requires-in-Arcs : goal.number4-requires-in-Arcs
number4-requires-in-Arcs c = let x = c.args in omega (arith, c.record_at-at.ensures, three-cells x.self x.kind x.i c.requires)

pub returns-in-Arcs : goal.returns-in-Arcs
returns-in-Arcs c =
    let x = c.args in
    let first = c.from-first.ensures ∙ c.number4.ensures in
    let second = c.from.ensures ∙ c.number4-in-Arcs.ensures in
    rw (first, second, c.record_at-at.ensures) (key-is-pair x.self.text.now (number x.kind) x.i (held x.self x.kind x.i c.requires) (ap number c.in-Arcs.is))

pub returns-in_default : goal.returns-in_default
returns-in_default c =
    let x = c.args in
    c.from-first.ensures ∙ c.number4.ensures
    ∙ rw c.record_at-at.ensures (key-is-first x.self.text.now (number x.kind) x.i (held x.self x.kind x.i c.requires) (not-arcs x.kind c.in_default.not-Arcs))
