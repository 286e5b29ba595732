-- `pairs::near::Nearby::listed` meets its contract. The loop keeps at each pair the least link among those passed by; laws of Lookup. Assumes nothing.
use lib.ListN.{take}
use Rattle.pairs.specs.Near.{Sought}
use Rattle.pairs.proofs.near.Nearby.listed.Given as goal

abbrev pub invariant-loop-k : goal.invariant-loop-k
invariant-loop-k g l = Sought l.arcs l.per.at l.to l.len (take l.k l.self.links) l.at
