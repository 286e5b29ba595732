-- The walls passed by are in.
use mathlib.Core.Path.{◌≡◌}
use Rattle.rules.specs.Answer.{Done}
use Rattle.rules.specs.Mesh.{list_of}
use Rattle.rules.specs.Lent.{mesh_of, SameMesh}
use Rattle.rules.specs.Step.{step}
use Rattle.rules.specs.Extrude.{wall}
use Rattle.edits.specs.Each.{each_in}
use Rattle.makers.specs.Makers.{searching, insert_face_by}
use Rattle.extrude.proofs.walls_in.Given as goal

abbrev pub invariant-loop-i : goal.invariant-loop-i
invariant-loop-i l =
    SameMesh l.initial.mesh l.mesh
    × (each_in (λ i a. insert_face_by searching a (wall (list_of l.vs) (list_of l.ds) i) 0) l.i (mesh_of l.initial.mesh) ≡ step (mesh_of l.mesh) Done)
