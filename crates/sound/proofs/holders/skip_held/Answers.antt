-- `sound::holders::skip_held` meets its contract: one run of rows that hold a face follows the other; laws of Runs. Assumes nothing.
use native.Mathlib.Omega.{arith}
use Rattle.tables.proofs.Runs.{join_runs}
use Rattle.sound.proofs.holders.skip_held.Goals as goal

pub returns : goal.returns
returns c =
    let b = c.skip_blocks in
    let r = c.skip_rows in
    let a = c.args in
    (omega (arith, b.ensures.0, r.ensures.0), (r.ensures.1.0, join_runs _ a.from b.result r.result b.ensures.1.1 r.ensures.1.1))
