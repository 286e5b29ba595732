use mathlib.Core.Path.{ap, ◌∙◌}
use Rattle.rules.specs.Mesh.{Mesh, find_key}
use Rattle.rules.specs.Lent.{mesh_of}
use Rattle.makers.specs.Makers.{searching, poke_work_by, work_by}
use Rattle.choice.proofs.face_poke.Goals as goal

pub returns-clause-told : goal.returns-clause-told
unfolding work_by
returns-clause-told c =
    λ ks.
    let a = c.args in
    let f = c.find_key-f.ensures ∙ ap (λ (n : Mesh). find_key n.faces a.face) c.view.ensures in
    c.poke_work.ensures.told ∙ (λ i. poke_work_by searching (mesh_of a.mesh.now) (f i) a.position)
