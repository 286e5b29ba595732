-- A law of Loops for each way out, on the tables as they were read.
use mathlib.Core.Path.{◌≡◌, ap, sym, subst, ◌∙◌}
use Rattle.rules.specs.Table.{put}
use Rattle.rules.specs.Mesh.{Mesh, with_arcs}
use Rattle.rules.specs.Lent.{mesh_in, mesh_of}
use Rattle.insert.specs.Perimeter.{exterior_to}
use Rattle.insert.proofs.Loops.{exterior-held, exterior-free}
use Rattle.insert.proofs.perimeter.exterior_at.Goals as goal

pub returns-then-cell-ne0-clause-arcs : goal.returns-then-cell-ne0-clause-arcs
returns-then-cell-ne0-clause-arcs c =
    let a = c.args in
    let read = mesh_in c.view-view.result in
    let held = exterior-held read.edges a.out a.back a.x read.arcs c.opposite-o.result c.cell.result c.opposite-o.ensures c.cell.ensures c.if-cell-ne0.true in
    subst (λ (n : Mesh). n ≡ with_arcs n (exterior_to n.edges a.out a.back a.x n.arcs)) c.view-view.ensures (ap (with_arcs read) held)

pub returns-clause-arcs : goal.returns-clause-arcs
returns-clause-arcs c =
    let a = c.args in
    let read = mesh_in c.view-view.result in
    let o = c.opposite-o in
    let first = c.or_else-first in
    let last = c.or_else-last in
    let one = c.connect.ensures ∙ ap (λ (n : Mesh). put (put n.arcs o.result 2 first.result) first.result 3 o.result) (sym c.view-view.ensures) in
    let free = exterior-free read.edges a.out a.back a.x read.arcs c.connect.new.arcs c.connect-2.new.arcs o.result c.cell.result o.ensures c.cell.ensures c.if-cell-ne0.false
    c.cell-before.result c.opposite.result first.result c.cell-before.ensures c.opposite.ensures first.ensures
    c.cell-after.result c.opposite-2.result last.result c.cell-after.ensures c.opposite-2.ensures last.ensures
    one c.connect-2.ensures in
    ap (with_arcs (mesh_of a.mesh.now)) (free ∙ ap (λ (n : Mesh). exterior_to n.edges a.out a.back a.x n.arcs) c.view-view.ensures)
