use mathlib.Core.Path.{ap, ◌∙◌}
use Rattle.rules.specs.Mesh.{Mesh, find_key}
use Rattle.rules.specs.Lent.{mesh_of}
use Rattle.makers.specs.Makers.{searching, bridge_work_by, work_by}
use Rattle.choice.proofs.face_bridge.Goals as goal

pub returns-clause-told : goal.returns-clause-told
unfolding work_by
returns-clause-told c =
    λ ks.
    let a = c.args in
    let f = c.find_key-f.ensures ∙ ap (λ (n : Mesh). find_key n.faces a.source) c.view.ensures in
    let g = c.find_key-g.ensures ∙ ap (λ (n : Mesh). find_key n.faces a.destination) c.view.ensures in
    c.bridge_work.ensures.told ∙ (λ i. bridge_work_by searching (mesh_of a.mesh.now) (f i) (g i))
