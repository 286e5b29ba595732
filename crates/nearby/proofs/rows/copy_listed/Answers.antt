-- `nearby::rows::copy_listed` meets its contract. The loop keeps which rows of the list are copied; laws of Right. Assumes nothing.
use mathlib.Core.Path.{refl, ◌∙◌}
use Rattle.nearby.proofs.Right.{copied_none, copied-read}
use Rattle.nearby.proofs.rows.copy_listed.Goals as goal

pub loop-x-init : goal.loop-x-init
loop-x-init c = let a = c.args in (refl, copied_none a.from.now a.to.now a.list.now)

pub loop-x-preserved : goal.loop-x-preserved
loop-x-preserved c =
    let a = c.args in
    let v = c.loop-x.invariant in
    let row = c.copy_row in
    (row.auto.to ∙ v.0, copied-read a.from.now a.to.now c.loop-x.to row.new.to a.list.now c.loop-x.x-index c.loop-x-test.true v.1 row.ensures)
