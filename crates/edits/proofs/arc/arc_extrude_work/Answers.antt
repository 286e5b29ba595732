-- Two copies, the edge between them, the arc bridge: the law arc-extrude-steps.
use mathlib.Core.Path.{ap, ◌∙◌}
use Rattle.rules.specs.Table.{cell}
use Rattle.rules.specs.Mesh.{Mesh}
use Rattle.rules.specs.Lent.{mesh_of}
use Rattle.edits.proofs.Steps.{whole-refused, whole-key}
use Rattle.edits.proofs.Whole.{arc-extrude-steps}
use borrow.Author.Rules.{rules}
use Rattle.edits.proofs.arc.arc_extrude_work.Goals as goal

pub returns-in_err-joined-clause-told : goal.returns-in_err-joined-clause-told
returns-in_err-joined-clause-told c =
    let a = c.args in
    let x = c.copied-c in
    let y = c.copied-d in
    let end = c.cell-b.ensures ∙ ap (λ (m : Mesh). cell m.arcs a.x 1) c.view.ensures in
    let start = c.cell-a.ensures ∙ ap (λ (m : Mesh). cell m.arcs a.x 0) c.view.ensures in
    let refused = arc-extrude-steps (mesh_of a.mesh.now) (mesh_of x.new.mesh) (mesh_of y.new.mesh) a.x a.by _ _ _ _ (mesh_of c.joined.new.mesh) _ _ end start x.ensures.row x.ensures.vertex y.ensures.row y.ensures.vertex c.in_err-joined.ensures.told (whole-refused _ _ _) in
    search rules

pub returns-clause-told : goal.returns-clause-told
returns-clause-told c =
    let a = c.args in
    let x = c.copied-c in
    let y = c.copied-d in
    let end = c.cell-b.ensures ∙ ap (λ (m : Mesh). cell m.arcs a.x 1) c.view.ensures in
    let start = c.cell-a.ensures ∙ ap (λ (m : Mesh). cell m.arcs a.x 0) c.view.ensures in
    arc-extrude-steps (mesh_of a.mesh.now) (mesh_of x.new.mesh) (mesh_of y.new.mesh) a.x a.by _ _ _ _ (mesh_of c.joined.new.mesh) _ _ end start x.ensures.row x.ensures.vertex y.ensures.row y.ensures.vertex c.in_ok-joined.ensures.told (whole-key _ _ _)
