-- `bodies::records::LaidFile::record_at` meets its contract. Assumes nothing.
use Prim.Native.Nat.{◌+◌}
use native.Mathlib.Omega.{arith}
use mathlib.Core.Path.{◌≡◌}
use Rattle.bodies.specs.Bodies.{place}
use Rattle.bodies.specs.Kinds.{number}
use Rattle.bodies.proofs.InOrder.{number-small}
use Rattle.bodies.proofs.Stands.{head-there, few-records, record-within}
use Rattle.bodies.proofs.Files.{held}
use Rattle.bodies.proofs.records.LaidFile.record_at.Goals as goal

pub offset_of-requires : goal.offset_of-requires
offset_of-requires c = head-there c.args.self.text.now c.args.self.laid

pub space-requires : goal.space-requires
space-requires c =
    let x = c.args in
    omega (arith, few-records x.self.text.now (number x.kind) x.self.laid (number-small x.kind), c.requires)

is : (c : goal.After-space) → c.offset_of.result + c.space.result ≡ place c.args.self.text.now (number c.args.kind) c.args.i
unfolding place
is c = omega (arith, c.offset_of.ensures.0, c.space.ensures.0)

pub overflow_add-result : goal.overflow_add-result
overflow_add-result c =
    let x = c.args in
    omega (arith, is c, record-within x.self.text.now (number x.kind) x.i (held x.self x.kind x.i c.requires))

pub returns : goal.returns
returns c = is c
