-- The list, then the parts by it.
use native.Mathlib.Omega.{arith}
use mathlib.Core.Path.{subst}
use Rattle.rules.specs.Mesh.{Mesh}
use Rattle.edits.specs.Known.{Known}
use Rattle.poke.proofs.parts_near.Goals as goal

pub near_edit-around-requires : goal.near_edit-around-requires
near_edit-around-requires c = omega (arith, c.size.ensures, c.known_few.ensures)

pub parts_in-requires : goal.parts_in-requires
parts_in-requires c = subst (λ (m : Mesh). Known m c.near_edit-around.result) c.view.ensures c.near_edit-around.ensures
