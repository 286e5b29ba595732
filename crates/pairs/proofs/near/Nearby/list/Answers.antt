-- `pairs::near::Nearby::list` meets its contract. The loop keeps what stands in the list after the rows passed by; laws of Listing. Assumes nothing.
use Rattle.pairs.proofs.Listing.{met-end}
use Rattle.pairs.proofs.near.Nearby.list.Goals as goal

pub returns-clause-near : goal.returns-clause-near
returns-clause-near c =
    let l = c.loop-i in
    met-end c.args.arcs.now l.self l.i l.left l.invariant.1.0 l.invariant.0 c.loop-i-test.false
