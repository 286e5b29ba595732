-- The exterior of the pairs passed by.
use mathlib.Core.Path.{◌≡◌}
use Rattle.rules.specs.Table.{up_to}
use Rattle.rules.specs.Mesh.{with_arcs, list_of}
use Rattle.rules.specs.Lent.{mesh_of, SameMesh}
use Rattle.insert.proofs.Loops.{exterior_in}
use Rattle.insert.proofs.perimeter.exterior.Given as goal

abbrev pub invariant-loop-i : goal.invariant-loop-i
invariant-loop-i l =
    let m = mesh_of l.initial.mesh in
    SameMesh l.initial.mesh l.mesh
    × (mesh_of l.mesh ≡ with_arcs m (up_to (exterior_in m.edges (list_of l.outs) (list_of l.backs) (list_of l.xs)) l.i m.arcs))
