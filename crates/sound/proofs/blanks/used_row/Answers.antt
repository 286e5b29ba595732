use mathlib.Core.Path.{sym}
use Prim.Native.Nat.{◌+◌}
use native.Mathlib.Omega.{arith}
use borrow.Author.Tests.{le-ltb}
use Rattle.proved.proofs.Rows.{cell-past, there-row}
use Rattle.sound.proofs.blanks.used_row.Goals as goal

pub returns-then-i-vertices : goal.returns-then-i-vertices
returns-then-i-vertices c = sym (there-row _ _)

pub returns-else-i-vertices : goal.returns-else-i-vertices
returns-else-i-vertices c = rw (cell-past c.args.vertices.now (c.args.i + 1) 0 (omega arith)) (le-ltb _ _ c.if-i-vertices.false)
