-- The pairs passed by are bridged.
use mathlib.Core.Path.{◌≡◌}
use mathlib.Core.List.{reverse}
use lib.ListN.{get_or}
use Rattle.rules.specs.Answer.{Done}
use Rattle.rules.specs.Mesh.{list_of}
use Rattle.rules.specs.Lent.{mesh_of, SameMesh}
use Rattle.rules.specs.Step.{step}
use Rattle.edits.specs.Each.{each_in}
use Rattle.makers.specs.Makers.{searching, arc_bridge_by}
use Rattle.bridge.proofs.pairs_in.Given as goal

abbrev pub invariant-loop-i : goal.invariant-loop-i
invariant-loop-i l =
    SameMesh l.initial.mesh l.mesh
    × (each_in (λ i a. arc_bridge_by searching a (get_or (list_of l.forth) i 0) (get_or (reverse (list_of l.back)) i 0)) l.i (mesh_of l.initial.mesh) ≡ step (mesh_of l.mesh) Done)
