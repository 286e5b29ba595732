-- `pairs::near::Nearby::arc_listed` meets its contract. The loop keeps the least link among those passed by; laws of Lookup. Assumes nothing.
use lib.ListN.{take}
use Rattle.pairs.specs.Near.{Least}
use Rattle.pairs.proofs.near.Nearby.arc_listed.Given as goal

abbrev pub invariant-loop-k : goal.invariant-loop-k
invariant-loop-k l = Least l.arcs l.a l.b (take l.k l.self.links) l.m
