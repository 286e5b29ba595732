-- The copies of the vertices passed by are made, and the next one's row may be looked for from the last one's on.
use mathlib.Core.Path.{◌≡◌}
use mathlib.Core.List.{[]}
use lib.ListN.{length, take}
use Rattle.rules.specs.Table.{up_to}
use Rattle.rules.specs.Mesh.{list_of}
use Rattle.rules.specs.Lent.{mesh_of, SameMesh}
use Rattle.edges.specs.Free.{UsedBefore}
use Rattle.edits.proofs.Whole.{copy_at}
use Rattle.extrude.proofs.copies_in.Given as goal

abbrev pub invariant-loop-i : goal.invariant-loop-i
invariant-loop-i l =
    SameMesh l.initial.mesh l.mesh
    × ((length l.at ≡ 64)
    × (UsedBefore l.mesh.vertices.now l.from
    × (record { tables = mesh_of l.mesh; links = take l.i l.at } ≡ up_to (copy_at l.by (list_of l.vs)) l.i (record { tables = mesh_of l.initial.mesh; links = [] }))))
