use Prim.Native.Nat.{ℕ}
use mathlib.Core.Path.{ap, ◌∙◌}
use mathlib.Core.List.{List, map}
use lib.ListN.{get_or}
use Rattle.rules.specs.Answer.{Key}
use Rattle.rules.specs.Mesh.{Mesh, links_of, list_of, find_key}
use Rattle.rules.specs.Lent.{mesh_of}
use Rattle.rules.specs.Step.{step}
use Rattle.makers.specs.Search.{arcs_on}
use Rattle.makers.specs.Makers.{searching, put_face_by, insert_work_by, work_by}
use Rattle.checks.proofs.Pairs.{per-back}
use Rattle.choice.proofs.face_insert.Goals as goal

pub returns-clause-told : goal.returns-clause-told
unfolding work_by insert_work_by
returns-clause-told c =
    let a = c.args in
    let m = mesh_of a.mesh.now in
    let names = c.from_keys in
    let per = c.vertices_by_keys-per in
    let seen = per.ensures ∙ ap (λ (n : Mesh). links_of (map (find_key n.vertices) (list_of names.result))) c.view.ensures in
    ap (λ (n : Mesh). step n (Key (get_or a.mesh.now.counters.now 2 0))) c.insert_work.ensures.face
    ∙ ap (λ (l : List ℕ). step (put_face_by searching m (arcs_on m l) m l a.mark) (Key (get_or a.mesh.now.counters.now 2 0)))
    (per-back m a.keys.now c.requires names.result names.ensures per.result seen)
