-- The list, then the pairs by it.
use native.Mathlib.Omega.{arith}
use mathlib.Core.Path.{subst}
use Rattle.rules.specs.Mesh.{Mesh}
use Rattle.edits.specs.Known.{Known}
use Rattle.bridge.proofs.pairs_near.Goals as goal

pub near_edit-around-requires : goal.near_edit-around-requires
near_edit-around-requires c = omega (arith, c.size.ensures, c.known_few.ensures)

pub pairs_in-requires : goal.pairs_in-requires
pairs_in-requires c = subst (λ (m : Mesh). Known m c.near_edit-around.result) c.view-view.ensures c.near_edit-around.ensures
