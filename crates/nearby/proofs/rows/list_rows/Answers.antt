-- `nearby::rows::list_rows` meets its contract. The loop keeps what stands in the list after the rows passed by; laws of Listing. Assumes nothing.
use Prim.Native.Nat.{◌+◌}
use native.Mathlib.Omega.{arith}
use lib.ListN.{take}
use Rattle.nearby.proofs.Listing.{listed-none, listed-run}
use Rattle.nearby.proofs.rows.list_rows.Goals as goal

pub returns-then-arcs-gt-ROW_LIMIT : goal.returns-then-arcs-gt-ROW_LIMIT
returns-then-arcs-gt-ROW_LIMIT c = tt

pub loop-i-init : goal.loop-i-init
loop-i-init c =
    let a = c.args in
    let r = c.skip-i in
    (r.ensures.1.0, (omega arith, listed-run a.arcs.now a.edges.now a.seen.now (take 0 a.list.now) 0 r.result r.ensures.0 r.ensures.1.1 (listed-none a.arcs.now a.edges.now a.seen.now (take 0 a.list.now))))

pub returns-then-n-gt-LISTED : goal.returns-then-n-gt-LISTED
returns-then-n-gt-LISTED c = tt

pub loop-i-preserved : goal.loop-i-preserved
loop-i-preserved c =
    let a = c.args in
    let r = c.skip-i-in-loop-i in
    let one = c.list_row-n in
    (r.ensures.1.0, (omega (arith, one.ensures.0, c.if-n-gt-LISTED.false), listed-run a.arcs.now a.edges.now a.seen.now (take one.result one.new.list) (c.loop-i.i + 1) r.result r.ensures.0 r.ensures.1.1 (one.ensures.1 a.seen.now c.loop-i.invariant.1.1)))

pub returns : goal.returns
returns c = (c.loop-i.invariant.1.0, λ j k. c.loop-i.invariant.1.1 j (omega (arith, c.loop-i-test.false)))
