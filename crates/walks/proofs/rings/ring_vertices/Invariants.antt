use Rattle.walks.proofs.Listing.{Made}
use Rattle.rules.specs.Table.{cell}
use Rattle.walks.proofs.rings.ring_vertices.Given as goal

abbrev pub invariant-loop-i : goal.invariant-loop-i
invariant-loop-i l = Made (λ x. cell l.arcs x 1) l.x-items l.at l.i
