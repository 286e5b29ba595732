-- `sound::faces::rings_sound` meets its contract. The loop keeps that the rows gone through pass, that their rings are full, what their arcs leave of
-- those that hold a face, and whether the keys rise; laws of RingFull. Assumes nothing.
use native.Mathlib.Omega.{arith}
use mathlib.Core.Path.{refl, sym, ◌∙◌}
use lib.ListN.{length}
use Rattle.rules.specs.Lent.{mesh_in}
use Rattle.proved.proofs.Rows.{cell_row}
use Rattle.names.proofs.Loops.{none_yet, one_more}
use Rattle.sound.specs.Parts.{faces_sound}
use Rattle.sound.specs.Rings.{rings_full}
use Rattle.sound.proofs.Rows.{face_passes, faces-rows, table-fails, table-passes}
use Rattle.sound.proofs.Named.{risen-start, risen-after, risen-all}
use Rattle.sound.proofs.RingFull.{no_second, going_start, going-unused, going-used, going_end, length-fails, sum-fails, told-keys}
use Rattle.sound.proofs.faces.rings_sound.Goals as goal
use Rattle.sound.proofs.faces.rings_sound.Goals.{then-row-ne0+in_ok-n+in_ok-left, else-row-ne0}

pub loop-i-init : goal.loop-i-init
loop-i-init c =
    let m = mesh_in c.args.mesh in
    (going_start m c.args.held c.requires, (none_yet (face_passes m), risen-start m.faces c.start-keys.result c.start-keys.ensures))

pub returns-then-not-face_row : goal.returns-then-not-face_row
returns-then-not-face_row c =
    let m = mesh_in c.args.mesh in
    rw (table-fails (face_passes m) (faces_sound m) (length m.faces) (faces-rows m) c.loop-i.i (omega arith) (sym c.face_row.ensures ∙ c.if-not-face_row.true))

pub returns-in_err-n : goal.returns-in_err-n
returns-in_err-n c =
    let m = mesh_in c.args.mesh in
    let none = rw c.in_err-n.was at (c.linked_length.ensures m refl (cell_row m.faces c.loop-i.i 1)) in
    rw c.from_residual.ensures (sym (no_second (faces_sound m) (rings_full m) (length-fails m c.loop-i.left c.loop-i.i c.loop-i.invariant.0 0 c.if-row-ne0.true none refl)))

pub returns-in_err-left : goal.returns-in_err-left
returns-in_err-left c =
    let m = mesh_in c.args.mesh in
    let some = rw c.in_ok-n.was at (c.linked_length.ensures m refl (cell_row m.faces c.loop-i.i 1)) in
    rw c.from_residual-in_err-left.ensures (sym (no_second (faces_sound m) (rings_full m) (sum-fails m c.loop-i.left c.loop-i.i c.loop-i.invariant.0 c.in_ok-n.n c.if-row-ne0.true some.1 (λ z. omega (arith, some.0)) (omega arith) (omega (arith, c.in_err-left.ensures)))))

pub loop-i-preserved : goal.loop-i-preserved
loop-i-preserved c =
    let m = mesh_in c.args.mesh in
    let h = c.loop-i.invariant in
    let row = one_more (face_passes m) c.loop-i.i h.1.0 (sym c.face_row.ensures ∙ c.if-not-face_row.false) in
    let risen = risen-after m.faces c.loop-i.i (omega arith) c.loop-i.keys c.after-keys.result h.1.1 c.after-keys.ensures in
    elim c.if-row-ne0.branch [ then-row-ne0+in_ok-n+in_ok-left w ↦ (let some = rw w.in_ok-n.was at (w.linked_length.ensures m refl (cell_row m.faces c.loop-i.i 1)) in (going-used m c.loop-i.left c.loop-i.i h.0 w.in_ok-n.n w.if-row-ne0.true some.1 (λ z. omega (arith, some.0)) c.if-row-ne0.left w.in_ok-left.ensures.0 (w.left-is ∙ w.in_ok-left.ensures.1), (row, risen))) | else-row-ne0 w ↦ (going-unused m c.loop-i.left c.loop-i.i h.0 c.if-row-ne0.left w.left-is w.if-row-ne0.false, (row, risen)) ]

pub returns : goal.returns
returns c =
    let m = mesh_in c.args.mesh in
    let h = c.loop-i.invariant in
    let rows = table-passes (face_passes m) (faces_sound m) (length m.faces) (faces-rows m) c.loop-i.i (omega arith) (omega arith) h.1.0 in
    let full = going_end m c.loop-i.left c.loop-i.i h.0 (omega arith) (omega arith) in
    rw (c.then_some.ensures, full) (told-keys (rings_full m) (faces_sound m) rows m.faces c.loop-i.keys (risen-all m.faces c.loop-i.i (omega arith) (omega arith) c.loop-i.keys.so c.loop-i.keys.last h.1.1))
