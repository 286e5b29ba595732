-- What the calls ensure, in the order of the laws of a split.
use mathlib.Core.Path.{ap, subst, ◌∙◌}
use Rattle.rules.specs.Mesh.{Mesh, key_at, links_of, list_of}
use Rattle.rules.specs.Lent.{mesh_of}
use Rattle.rules.specs.Insert.{insert_checks}
use Rattle.rules.specs.Edit.{half}
use Rattle.edits.specs.Known.{Known}
use Rattle.edits.proofs.Whole.{split-first, split-second, split_done}
use borrow.Author.Rules.{rules}
use Rattle.split.proofs.split_work.Goals as goal

pub half_checks-requires : goal.half_checks-requires
half_checks-requires c = c.near_edit-around.ensures.listed

pub returns-in_err-half_checks-clause-told : goal.returns-in_err-half_checks-clause-told
returns-in_err-half_checks-clause-told c =
    let a = c.args in
    let m = mesh_of a.mesh.now in
    let n = mesh_of c.remove_face.new.mesh in
    let v = c.view-whole.result in
    let left = c.half-left.ensures v.vertices.now v.positions.now v.edges.now v.counters.now ∙ ap (λ (o : Mesh). links_of (half o a.f a.s a.d)) c.view-whole.ensures in
    let right = c.half-right.ensures v.vertices.now v.positions.now v.edges.now v.counters.now ∙ ap (λ (o : Mesh). links_of (half o a.f a.d a.s)) c.view-whole.ensures in
    let first = c.in_err-half_checks.ensures ∙ ap (λ (o : Mesh). insert_checks o (list_of c.half-left.result) (list_of c.half-left.result)) c.view-open.ensures in
    let refused = split-first m n a.f a.s a.d c.half-left.result c.half-right.result left right c.remove_face.ensures.face _ first in
    search rules

pub half_checks-requires-2 : goal.half_checks-requires-2
half_checks-requires-2 c = c.near_edit-around.ensures.listed

pub returns-in_err-half_checks-2-clause-told : goal.returns-in_err-half_checks-2-clause-told
returns-in_err-half_checks-2-clause-told c =
    let a = c.args in
    let m = mesh_of a.mesh.now in
    let n = mesh_of c.remove_face.new.mesh in
    let v = c.view-whole.result in
    let left = c.half-left.ensures v.vertices.now v.positions.now v.edges.now v.counters.now ∙ ap (λ (o : Mesh). links_of (half o a.f a.s a.d)) c.view-whole.ensures in
    let right = c.half-right.ensures v.vertices.now v.positions.now v.edges.now v.counters.now ∙ ap (λ (o : Mesh). links_of (half o a.f a.d a.s)) c.view-whole.ensures in
    let first = c.in_ok-half_checks.ensures ∙ ap (λ (o : Mesh). insert_checks o (list_of c.half-left.result) (list_of c.half-left.result)) c.view-open.ensures in
    let second = c.in_err-half_checks-2.ensures ∙ ap (λ (o : Mesh). insert_checks o (list_of c.half-right.result) (list_of c.half-right.result)) c.view-open.ensures in
    let refused = split-second m n a.f a.s a.d c.half-left.result c.half-right.result left right c.remove_face.ensures.face first _ second in
    search rules

pub halves_in-requires : goal.halves_in-requires
halves_in-requires c = subst (λ (m : Mesh). Known m c.near_edit-around.result) c.view-open.ensures c.near_edit-around.ensures

pub returns-clause-told : goal.returns-clause-told
returns-clause-told c =
    let a = c.args in
    let m = mesh_of a.mesh.now in
    let n = mesh_of c.remove_face.new.mesh in
    let v = c.view-whole.result in
    let left = c.half-left.ensures v.vertices.now v.positions.now v.edges.now v.counters.now ∙ ap (λ (o : Mesh). links_of (half o a.f a.s a.d)) c.view-whole.ensures in
    let right = c.half-right.ensures v.vertices.now v.positions.now v.edges.now v.counters.now ∙ ap (λ (o : Mesh). links_of (half o a.f a.d a.s)) c.view-whole.ensures in
    let first = c.in_ok-half_checks.ensures ∙ ap (λ (o : Mesh). insert_checks o (list_of c.half-left.result) (list_of c.half-left.result)) c.view-open.ensures in
    let second = c.in_ok-half_checks-2.ensures ∙ ap (λ (o : Mesh). insert_checks o (list_of c.half-right.result) (list_of c.half-right.result)) c.view-open.ensures in
    let from = c.key_at-from.ensures ∙ ap (λ (o : Mesh). key_at o.vertices a.s) c.view-whole.ensures in
    let to = c.key_at-to.ensures ∙ ap (λ (o : Mesh). key_at o.vertices a.d) c.view-whole.ensures in
    split_done m n a.f a.s a.d c.half-left.result c.half-right.result left right c.remove_face.ensures.face first second (mesh_of c.halves_in.new.mesh) _ _ from to c.halves_in.ensures.faces
