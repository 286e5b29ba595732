-- `pairs::near::Nearby::arcs_chained` meets its contract. The loop keeps at each pair passed by the least link that is chained; laws of Lookup.
-- Assumes nothing.
use lib.ListN.{take}
use Rattle.pairs.specs.Near.{Sought}
use Rattle.pairs.proofs.near.Nearby.arcs_chained.Given as goal

abbrev pub invariant-loop-i : goal.invariant-loop-i
invariant-loop-i l = Sought l.arcs l.from l.to l.i (take l.self.chained l.self.links) l.at
