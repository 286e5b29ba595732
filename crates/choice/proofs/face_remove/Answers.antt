use Prim.Native.Nat.{ℕ}
use mathlib.Core.Path.{ap, ◌∙◌}
use Rattle.rules.specs.Answer.{Mark}
use Rattle.rules.specs.Table.{cell}
use Rattle.rules.specs.Mesh.{Mesh, find_key}
use Rattle.rules.specs.Lent.{mesh_of}
use Rattle.rules.specs.Step.{step}
use Rattle.rules.specs.Edit.{remove, remove_work}
use Rattle.makers.specs.Makers.{work_by}
use Rattle.choice.proofs.face_remove.Goals as goal

pub returns-clause-told : goal.returns-clause-told
unfolding work_by remove_work
returns-clause-told c =
    λ ks.
    let m = mesh_of c.args.mesh.now in
    let f = c.find_key-f.ensures ∙ ap (λ (n : Mesh). find_key n.faces c.args.face) c.view.ensures in
    let mark = c.cell-mark.ensures ∙ ap (λ (n : Mesh). cell n.faces c.find_key-f.result 2) c.view.ensures in
    ap (λ (n : Mesh). step n (Mark c.cell-mark.result)) c.remove_face.ensures.face
    ∙ ap (λ (y : ℕ). step (remove m c.find_key-f.result) (Mark y)) mark
    ∙ ap (λ (y : ℕ). step (remove m y) (Mark (cell m.faces y 2))) f
