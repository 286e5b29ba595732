-- `pairs::perimeter_arcs` meets its contract. The loop keeps what the rows passed by have told of each pair; laws of Pass. Assumes nothing.
use Prim.Native.Nat.{◌-◌, ◌≤◌}
use lib.ListN.{length}
use Rattle.rules.specs.Mesh.{list_of}
use Rattle.pairs.proofs.Pass.{Passed}
use Rattle.pairs.proofs.perimeter_arcs.Given as goal

abbrev pub invariant-loop-i : goal.invariant-loop-i
invariant-loop-i l = (l.i ≤ length l.arcs) × Passed l.arcs (list_of l.per) l.i l.at

abbrev pub decreases-loop-i : goal.decreases-loop-i
decreases-loop-i l = length l.arcs - l.i
