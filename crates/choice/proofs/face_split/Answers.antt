use mathlib.Core.Path.{ap, ◌∙◌}
use Rattle.rules.specs.Mesh.{Mesh, find_key}
use Rattle.rules.specs.Lent.{mesh_of}
use Rattle.makers.specs.Makers.{searching, split_work_by, work_by}
use Rattle.choice.proofs.face_split.Goals as goal

pub returns-clause-told : goal.returns-clause-told
unfolding work_by
returns-clause-told c =
    λ ks.
    let a = c.args in
    let v = c.view-view.ensures in
    let f = c.find_key-f.ensures ∙ ap (λ (n : Mesh). find_key n.faces a.face) v in
    let from = c.find_key-from.ensures ∙ ap (λ (n : Mesh). find_key n.vertices a.s) v in
    let to = c.find_key-to.ensures ∙ ap (λ (n : Mesh). find_key n.vertices a.d) v in
    c.split_work.ensures.told ∙ (λ i. split_work_by searching (mesh_of a.mesh.now) (f i) (from i) (to i))
