-- The parts passed by are in.
use mathlib.Core.Path.{◌≡◌}
use mathlib.Core.List.{[], ◌∷◌}
use lib.ListN.{length, get_or}
use Rattle.rules.specs.Answer.{Done}
use Rattle.rules.specs.Table.{after}
use Rattle.rules.specs.Mesh.{list_of}
use Rattle.rules.specs.Lent.{mesh_of, SameMesh}
use Rattle.rules.specs.Step.{step}
use Rattle.makers.specs.Makers.{searching, insert_face_by}
use Rattle.edits.specs.Each.{each_in}
use Rattle.poke.proofs.parts_in.Given as goal

abbrev pub invariant-loop-i : goal.invariant-loop-i
invariant-loop-i l =
    SameMesh l.initial.mesh l.mesh
    × (each_in (λ i a. insert_face_by searching a (get_or (list_of l.vs) i 0 ∷ get_or (list_of l.vs) (after (length (list_of l.vs)) i) 0 ∷ l.c ∷ []) l.mark) l.i (mesh_of l.initial.mesh) ≡ step (mesh_of l.mesh) Done)
