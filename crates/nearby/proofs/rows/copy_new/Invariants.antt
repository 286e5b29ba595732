-- `nearby::rows::copy_new` meets its contract. The loop keeps which arcs of new edges are copied, and that nothing else is written. Assumes nothing.
use mathlib.Core.Path.{◌≡◌}
use Rattle.rules.specs.Lent.{mesh_of, SameMesh}
use Rattle.rules.specs.Mesh.{with_arcs}
use Rattle.nearby.specs.Rows.{NewCopiedTo}
use Rattle.nearby.proofs.rows.copy_new.Given as goal

abbrev pub invariant-loop-i : goal.invariant-loop-i
invariant-loop-i l =
    SameMesh l.initial.mesh l.mesh
    × ((mesh_of l.mesh ≡ with_arcs (mesh_of l.initial.mesh) l.mesh.arcs.now)
    × NewCopiedTo l.initial.mesh.edges.now l.room.edges.now l.room.arcs.now l.initial.mesh.arcs.now l.mesh.arcs.now l.i)
