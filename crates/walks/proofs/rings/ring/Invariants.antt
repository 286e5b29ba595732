-- `walks::rings::ring` meets its contract: the loop keeps `Going`, and each way out is one of its ends. Assumes nothing.
use Rattle.rules.specs.Table.{cell}
use Rattle.walks.proofs.Storing.{Going}
use Rattle.walks.proofs.rings.ring.Given as goal

abbrev pub invariant-loop-len : goal.invariant-loop-len
invariant-loop-len l = Going (λ y. cell l.arcs y 2) l.first l.at l.len l.x
