-- `lists::is_malformed` meets its contract. The two tests of the code. Assumes nothing.
use Prim.Native.Nat.{◌≤◌}
use native.Mathlib.Omega.{arith}
use lib.ListN.{length}
use borrow.Author.Tests.{lt-ltb, le-ltb}
use Rattle.rules.specs.Mesh.{list_of}
use Rattle.rules.specs.Insert.{malformed}
use Rattle.lists.proofs.is_malformed.Goals as goal

pub returns-then-size-lt3 : goal.returns-then-size-lt3
unfolding malformed
returns-then-size-lt3 c = rw (lt-ltb _ _ (rw c.size.ensures at c.if-size-lt3.true)) (lt-ltb _ _ c.if-size-lt3.true)

pub returns-else-size-lt3 : goal.returns-else-size-lt3
unfolding malformed
returns-else-size-lt3 c =
    let a = c.args in
    let n : 3 ≤ length (list_of a.names) = omega (arith, c.size.ensures) in
    rw (le-ltb (length (list_of a.names)) 3 n, c.all_differ.ensures)
