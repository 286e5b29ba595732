use mathlib.Core.Path.{ap, ◌∙◌}
use Rattle.rules.specs.Mesh.{Mesh}
use Rattle.rules.specs.Call.{arc_by_keys}
use Rattle.rules.specs.Lent.{mesh_of}
use Rattle.makers.specs.Makers.{searching, arc_extrude_work_by, work_by}
use Rattle.choice.proofs.arc_extrude.Goals as goal

pub returns-clause-told : goal.returns-clause-told
unfolding work_by
returns-clause-told c =
    λ ks.
    let a = c.args in
    let v = c.view-view.result in
    let x = c.arc_by_keys-x.ensures v.positions.now v.edges.now v.faces.now v.counters.now ∙ ap (λ (n : Mesh). arc_by_keys n a.s a.d) c.view-view.ensures in
    c.arc_extrude_work.ensures.told ∙ (λ i. arc_extrude_work_by searching (mesh_of a.mesh.now) (x i) a.by)
