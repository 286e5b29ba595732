-- `sound::places::block_used` meets its contract. The loop keeps that, with all tests passed so far, every row gone through passes; laws of
-- Placing. Assumes nothing.
use native.Mathlib.Omega.{arith}
use mathlib.Core.Path.{◌≡◌}
use Rattle.sound.proofs.Placing.{no_more, used-more}
use Rattle.sound.proofs.places.block_used.Goals as goal

pub loop-k-init : goal.loop-k-init
loop-k-init c = let a = c.args in λ e. no_more a.vertices.now a.positions.now a.i

pub loop-k-preserved : goal.loop-k-preserved
loop-k-preserved c =
    let a = c.args in
    used-more a.vertices.now a.positions.now a.i c.loop-k.k c.loop-k.all c.finite_row.result c.finite_row.ensures c.loop-k.invariant

pub returns : goal.returns
returns c =
    let eight : c.loop-k.k ≡ 8 = omega arith in
    rw eight at c.loop-k.invariant
