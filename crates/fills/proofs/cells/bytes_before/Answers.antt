-- `fills::cells::bytes_before` meets its contract. Assumes nothing.
use native.Mathlib.Omega.{arith}
use mathlib.Core.Path.{ap}
use Rattle.bodies.specs.Kinds.{number}
use Rattle.bodies.proofs.InOrder.{number-small, not-vertices}
use Rattle.fills.proofs.Widths.{few-cells, fours, first-none, last-behind}
use Rattle.fills.proofs.cells.bytes_before.Goals as goal

pub returns-then-j-eq0 : goal.returns-then-j-eq0
returns-then-j-eq0 c = first-none (number c.args.kind) c.args.j (ap number c.in-Vertices.is) c.if-j-eq0.true

pub returns-else-j-eq0 : goal.returns-else-j-eq0
returns-else-j-eq0 c = last-behind (number c.args.kind) c.args.j (ap number c.in-Vertices.is) c.if-j-eq0.false c.requires

pub overflow_mul-result : goal.overflow_mul-result
overflow_mul-result c = omega (arith, c.requires.there, few-cells (number c.args.kind) (number-small c.args.kind))

pub returns-in_default : goal.returns-in_default
returns-in_default c = fours (number c.args.kind) c.args.j (number-small c.args.kind) (not-vertices c.args.kind c.in_default.not-Vertices) c.requires
