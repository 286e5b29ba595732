-- After i turns the faces of the first i arcs are cleared.
use mathlib.Core.Path.{◌≡◌}
use lib.ListN.{length, get_or}
use Rattle.rules.specs.Table.{put, up_to}
use Rattle.rules.specs.Mesh.{list_of}
use Rattle.edges.proofs.face.clear_faces.Given as goal

abbrev pub invariant-loop-i : goal.invariant-loop-i
invariant-loop-i l = (length l.arcs ≡ length l.initial.arcs) × (l.arcs ≡ up_to (λ j t. put t (get_or (list_of l.ring) j 0) 4 0) l.i l.initial.arcs)
