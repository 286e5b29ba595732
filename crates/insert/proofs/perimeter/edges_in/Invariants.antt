-- The edges of the pairs passed by, that the arcs found before still tell, and where unused rows may be looked for. The perimeter is told by its
-- array.
use mathlib.Core.Path.{◌≡◌}
use lib.ListN.{length, take}
use Rattle.rules.specs.Table.{up_to}
use Rattle.rules.specs.Mesh.{list_of}
use Rattle.rules.specs.Lent.{mesh_of, SameMesh}
use Rattle.insert.specs.Perimeter.{edge_in}
use Rattle.insert.proofs.Apart.{Telling, MayStart}
use Rattle.insert.proofs.Told.{Told}
use Rattle.insert.proofs.perimeter.edges_in.Given as goal

abbrev pub invariant-loop-i : goal.invariant-loop-i
invariant-loop-i l =
    SameMesh l.initial.mesh l.mesh
    × ((mesh_of l.mesh ≡ up_to (edge_in (take l.n l.ends)) l.i (mesh_of l.initial.mesh))
    × (Telling l.mesh.arcs.now (take l.n l.ends) (list_of l.xs) l.i
    × (MayStart (mesh_of l.mesh) l.from
    × ((length l.at ≡ 64) × Told l.mesh.arcs.now (take l.n l.ends) l.at l.i))))
