use mathlib.Core.Path.{ap, ◌∙◌}
use mathlib.Core.List.{[], ◌∷◌}
use Rattle.rules.specs.Mesh.{Mesh, find_key}
use Rattle.rules.specs.Lent.{mesh_of}
use Rattle.makers.specs.Makers.{searching, arc_bridge_work_by, work_by}
use Rattle.checks.proofs.Between.{one_key, other_key}
use Rattle.choice.proofs.arc_bridge.Goals as goal

pub returns-clause-told : goal.returns-clause-told
unfolding work_by
returns-clause-told c =
    λ ks.
    let a = c.args in
    let m = mesh_of a.mesh.now in
    let four = c.four_by_keys-four in
    let keyed = four.ensures ∙ ap (λ (n : Mesh). find_key n.vertices a.a ∷ find_key n.vertices a.b ∷ find_key n.vertices a.c ∷ find_key n.vertices a.d ∷ []) c.view.ensures in
    c.arc_bridge_work.ensures.told
    ∙ (λ i. arc_bridge_work_by searching m (one_key m a.a a.b a.c a.d four.result keyed i) (other_key m a.a a.b a.c a.d four.result keyed i))
