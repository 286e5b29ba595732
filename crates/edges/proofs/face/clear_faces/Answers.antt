-- After i turns the faces of the first i arcs are cleared.
use mathlib.Core.Path.{◌≡◌}
use native.Mathlib.Omega.{arith}
use Rattle.rules.specs.Table.{up_to}
use Rattle.rules.proofs.Scan.{up_to-more}
use borrow.Author.Rules.{rules}
use Rattle.edges.proofs.face.clear_faces.Goals as goal

pub loop-i-init : goal.loop-i-init
unfolding up_to
loop-i-init c = search rules

pub loop-i-preserved : goal.loop-i-preserved
loop-i-preserved c =
    (search rules, rw (up_to-more, ← c.loop-i.invariant.1, ← c.item.ensures, ← c.set_face.ensures))

pub returns : goal.returns
returns c =
    let all : c.loop-i.i ≡ c.size-i-end.result = omega arith in
    rw (← c.size-i-end.ensures, ← all) c.loop-i.invariant.1
