-- `pairs::near::Nearby::arcs_chained` meets its contract. The loop keeps at each pair passed by the least link that is chained; laws of Lookup.
-- Assumes nothing.
use lib.ListN.{take}
use Rattle.pairs.proofs.Lookup.{sought-start, sought-more}
use borrow.Author.Rules.{rules}
use Rattle.pairs.proofs.near.Nearby.arcs_chained.Goals as goal

pub loop-i-init : goal.loop-i-init
loop-i-init c =
    let a = c.args in
    let by = a.self.now in
    sought-start a.arcs.now a.from.now a.to.now a.n (take by.chained by.links)

pub loop-i-preserved : goal.loop-i-preserved
loop-i-preserved c =
    let a = c.args in
    let by = a.self.now in
    let r = c.arc_chained in
    sought-more a.arcs.now a.from.now a.to.now a.n (take by.chained by.links) c.loop-i.at c.loop-i.i r.result (search rules) c.loop-i.invariant r.ensures.0 r.ensures.1
