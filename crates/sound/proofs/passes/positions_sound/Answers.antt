-- `sound::passes::positions_sound` meets its contract. The loop keeps that the rows gone through pass. Assumes nothing.
use native.Mathlib.Omega.{arith}
use mathlib.Core.Path.{sym, ◌∙◌}
use lib.ListN.{length}
use Rattle.rules.specs.Lent.{mesh_in}
use Rattle.names.proofs.Loops.{one_more}
use Rattle.sound.proofs.Rows.{position_passes, positions-rows, table-fails, table-passes}
use Rattle.sound.proofs.passes.positions_sound.Goals as goal

pub loop-i-init : goal.loop-i-init
loop-i-init c = c.skip_placed-from.ensures.1

pub returns-then-not-position_row : goal.returns-then-not-position_row
returns-then-not-position_row c =
    let m = mesh_in c.args.mesh in
    sym (table-fails (position_passes m) _ (length m.positions) (positions-rows m) c.loop-i.i (omega arith) (sym c.position_row.ensures ∙ c.if-not-position_row.true))

pub loop-i-preserved : goal.loop-i-preserved
loop-i-preserved c =
    let m = mesh_in c.args.mesh in
    one_more (position_passes m) c.loop-i.i c.loop-i.invariant (sym c.position_row.ensures ∙ c.if-not-position_row.false)

pub returns : goal.returns
returns c =
    let m = mesh_in c.args.mesh in
    sym (table-passes (position_passes m) _ (length m.positions) (positions-rows m) c.loop-i.i (omega arith) (omega (arith, c.skip_placed-from.ensures.0)) c.loop-i.invariant)
