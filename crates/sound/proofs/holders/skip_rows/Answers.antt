-- `sound::holders::skip_rows` meets its contract. The loop keeps that every row gone through holds a face; laws of Runs. Assumes nothing.
use Prim.Native.Nat.{◌+◌}
use native.Mathlib.Omega.{arith}
use mathlib.Core.Path.{◌≡◌, sym, ◌∙◌}
use lib.ListN.{length}
use Rattle.tables.proofs.Runs.{no_rows, one-row, join_runs}
use Rattle.sound.proofs.holders.skip_rows.Goals as goal

pub loop-i-init : goal.loop-i-init
loop-i-init c = let a = c.args in no_rows _ a.from a.from (omega arith)

pub returns-then-not-holds_some : goal.returns-then-not-holds_some
returns-then-not-holds_some c = (omega arith, (omega arith, c.loop-i.invariant))

pub loop-i-preserved : goal.loop-i-preserved
loop-i-preserved c =
    let a = c.args in
    let i = c.loop-i.i in
    join_runs _ a.from i (i + 1) c.loop-i.invariant (one-row _ i (sym c.holds_some.ensures ∙ c.if-not-holds_some.false))

pub returns : goal.returns
returns c =
    let same : c.loop-i.i ≡ length c.args.arcs.now = omega arith in
    let held = rw same at c.loop-i.invariant in
    (omega arith, (omega arith, held))
