-- `bodies::search::link` meets its contract. Assumes nothing.
use Prim.Native.Nat.{◌+◌}
use native.Mathlib.Omega.{arith}
use borrow.Author.Tests.{ne_eqb}
use Rattle.file.specs.File.{or_nowhere}
use Rattle.bodies.proofs.search.link.Goals as goal

pub returns-in-Some : goal.returns-in-Some
unfolding or_nowhere
returns-in-Some c = rw (c.in-Some.is, ne_eqb (c.in-Some.place + 1) 0 (λ e. omega arith))

pub returns-in-None : goal.returns-in-None
unfolding or_nowhere
returns-in-None c = rw c.in-None.is
