-- `bodies::records::LaidFile::rises_at` meets its contract. Assumes nothing.
use Prim.Native.Nat.{◌+◌}
use native.Mathlib.Omega.{arith}
use mathlib.Core.Path.{sym, ◌∙◌}
use lib.Dec.{ltb}
use Rattle.bodies.specs.Kinds.{number}
use Rattle.bodies.proofs.Files.{held}
use Rattle.bodies.proofs.Keys.{rises-at}
use Rattle.bodies.proofs.records.LaidFile.rises_at.Goals as goal

pub returns : goal.returns
returns c =
    let x = c.args in
    let t = x.self.text.now in
    let k = number x.kind in
    let here = held x.self x.kind x.i (omega (arith, c.requires.1)) in
    let next = held x.self x.kind (x.i + 1) c.requires.1 in
    (λ j. ltb (c.key_number.ensures j) (c.key_number-2.ensures j)) ∙ sym (rises-at t k x.i here next)
