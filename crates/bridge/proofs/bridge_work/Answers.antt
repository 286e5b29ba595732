-- What the calls ensure, in the order of the law bridge-steps.
use mathlib.Core.Path.{ap, ◌∙◌}
use Rattle.rules.specs.Mesh.{Mesh, links_of}
use Rattle.rules.specs.Lent.{mesh_of}
use Rattle.rules.specs.Link.{ring}
use Rattle.edits.proofs.Steps.{whole-refused, whole-done}
use Rattle.edits.proofs.Whole.{bridge-steps}
use borrow.Author.Rules.{rules}
use Rattle.bridge.proofs.bridge_work.Goals as goal

pub returns-in_err-pairs_near-clause-told : goal.returns-in_err-pairs_near-clause-told
returns-in_err-pairs_near-clause-told c =
    let a = c.args in
    let v = c.view-view.result in
    let forth = c.ring_of-forth.ensures v.vertices.now v.positions.now v.edges.now v.counters.now ∙ ap (λ (m : Mesh). links_of (ring m a.f)) c.view-view.ensures in
    let back = c.ring_of-back.ensures v.vertices.now v.positions.now v.edges.now v.counters.now ∙ ap (λ (m : Mesh). links_of (ring m a.g)) c.view-view.ensures in
    let refused = bridge-steps (mesh_of a.mesh.now) (mesh_of c.remove_face.new.mesh) (mesh_of c.remove_face-2.new.mesh) a.f a.g _ _ (mesh_of c.pairs_near.new.mesh) _ _ forth back c.remove_face.ensures.face c.remove_face-2.ensures.face c.in_err-pairs_near.ensures.pairs (whole-refused _ _ _) in
    search rules

pub returns-clause-told : goal.returns-clause-told
returns-clause-told c =
    let a = c.args in
    let v = c.view-view.result in
    let forth = c.ring_of-forth.ensures v.vertices.now v.positions.now v.edges.now v.counters.now ∙ ap (λ (m : Mesh). links_of (ring m a.f)) c.view-view.ensures in
    let back = c.ring_of-back.ensures v.vertices.now v.positions.now v.edges.now v.counters.now ∙ ap (λ (m : Mesh). links_of (ring m a.g)) c.view-view.ensures in
    bridge-steps (mesh_of a.mesh.now) (mesh_of c.remove_face.new.mesh) (mesh_of c.remove_face-2.new.mesh) a.f a.g _ _ (mesh_of c.pairs_near.new.mesh) _ _ forth back c.remove_face.ensures.face c.remove_face-2.ensures.face c.in_ok-pairs_near.ensures.pairs (whole-done _ _)
