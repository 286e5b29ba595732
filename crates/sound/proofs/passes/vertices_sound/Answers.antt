-- `sound::passes::vertices_sound` meets its contract. The loop keeps that the rows gone through pass, and whether their keys rise. Assumes nothing.
use native.Mathlib.Omega.{arith}
use mathlib.Core.Path.{sym, ◌∙◌}
use lib.ListN.{length}
use Rattle.rules.specs.Lent.{mesh_in}
use Rattle.names.proofs.Loops.{none_yet, one_more}
use Rattle.sound.proofs.Rows.{vertex_passes, vertices-rows, table-fails, table-passes}
use Rattle.sound.proofs.Named.{risen-start, risen-after, risen-all}
use Rattle.sound.proofs.passes.vertices_sound.Goals as goal

pub loop-i-init : goal.loop-i-init
loop-i-init c =
    let m = mesh_in c.args.mesh in
    (none_yet (vertex_passes m), risen-start m.vertices c.start-keys.result c.start-keys.ensures)

pub returns-then-not-vertex_row : goal.returns-then-not-vertex_row
returns-then-not-vertex_row c =
    let m = mesh_in c.args.mesh in
    table-fails (vertex_passes m) _ (length m.vertices) (vertices-rows m) c.loop-i.i (omega arith) (sym c.vertex_row.ensures ∙ c.if-not-vertex_row.true)

pub loop-i-preserved : goal.loop-i-preserved
loop-i-preserved c =
    let m = mesh_in c.args.mesh in
    let h = c.loop-i.invariant in
    (one_more (vertex_passes m) c.loop-i.i h.0 (sym c.vertex_row.ensures ∙ c.if-not-vertex_row.false), risen-after m.vertices c.loop-i.i (omega arith) c.loop-i.keys c.after-keys.result h.1 c.after-keys.ensures)

pub returns : goal.returns
returns c =
    let m = mesh_in c.args.mesh in
    let h = c.loop-i.invariant in
    (table-passes (vertex_passes m) _ (length m.vertices) (vertices-rows m) c.loop-i.i (omega arith) (omega arith) h.0, risen-all m.vertices c.loop-i.i (omega arith) (omega arith) c.loop-i.keys.so c.loop-i.keys.last h.1)
