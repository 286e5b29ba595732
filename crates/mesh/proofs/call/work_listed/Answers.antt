-- `mesh::call::work_listed` meets its contract: the rings near the edit tell whether its result is sound, it is copied over where it is accepted, and
-- where it is refused the mesh was not touched. Assumes nothing.
use mathlib.Core.Path.{◌≡◌, ap, sym, subst, ◌∙◌}
use mathlib.Core.Bool.{true, false}
use Rattle.std.proofs.Common.{rules, option_copied, Result, Ok, Err}
use Rattle.rules.specs.declared.Told.{Told}
use Rattle.rules.specs.declared.Refusal.{Refusal}
use Rattle.rules.specs.Answer.{Answer}
use Rattle.rules.specs.Lent.{mesh_of, room_of, answered, given_by}
use Rattle.rules.specs.Mesh.{Mesh, mesh, Room, next_key, face_kind}
use Rattle.rules.specs.Step.{Step, step, accepted}
use Rattle.rules.specs.Call.{work, worked}
use Rattle.order.specs.Transaction.{RingsTell}
use Rattle.order.proofs.Settling.{is_answer}
use Rattle.mesh.proofs.Calling.{few-keys}
use Rattle.mesh.proofs.InRoom.{rings-say, changed-near, done, not_done, on-copy}
use Rattle.mesh.proofs.call.work_listed.Goals as goal

pub work-told-requires : goal.work-told-requires
work-told-requires c = few-keys (mesh_of c.args.mesh.now) c.args.edit c.args.keys.now c.requires.begun.passed

pub judged-requires : goal.judged-requires
judged-requires c =
    let x = c.args in
    let z = c.requires in
    let w = c.work-told in
    let m : Mesh = mesh_of x.mesh.now in
    let t : Step = step (mesh_of w.new.mesh) (answered w.result) in
    let is : t ≡ work m x.edit x.keys.now = on-copy m (room_of c.copy_in.new.room) x.edit x.keys.now t z.begun (search rules) w.ensures.told in
    λ a. subst (λ (y : Mesh). RingsTell y (option_copied x.near) (next_key m face_kind)) (sym c.view-4.ensures) (rings-say m x.edit x.keys.now z.begun (option_copied x.near) z.near_listed t is a)

refused : (r : Result Told Refusal) (e : Refusal) → r ≡ Err e → accepted (answered r) ≡ false
unfolding accepted
refused r e q = rw q

pub returns-in_err-answer-clause-left : goal.returns-in_err-answer-clause-left
returns-in_err-answer-clause-left c =
    let x = c.args in
    let z = c.requires in
    let w = c.work-told in
    let m : Mesh = mesh_of x.mesh.now in
    let t : Step = step (mesh_of w.new.mesh) (answered w.result) in
    let is : t ≡ work m x.edit x.keys.now = on-copy m (room_of c.copy_in.new.room) x.edit x.keys.now t z.begun (search rules) w.ensures.told in
    let one : answered c.from_residual.result ≡ answered c.judged.result = search rules in
    let no : accepted (answered c.from_residual.result) ≡ false = search (rules, refused) in
    not_done m x.edit x.keys.now t is (answered c.from_residual.result) (one ∙ c.judged.ensures ∙ ap (λ (y : Mesh). (worked (step y (answered w.result))).answer) c.view-4.ensures) no

pub copy_over-requires-clause-differ_near : goal.copy_over-requires-clause-differ_near
copy_over-requires-clause-differ_near c =
    let x = c.args in
    let z = c.requires in
    let w = c.work-told in
    let m : Mesh = mesh_of x.mesh.now in
    let t : Step = step (mesh_of w.new.mesh) (answered w.result) in
    let is : t ≡ work m x.edit x.keys.now = on-copy m (room_of c.copy_in.new.room) x.edit x.keys.now t z.begun (search rules) w.ensures.told in
    let y = changed-near m x.edit x.keys.now z.begun (option_copied x.near) z.near_listed t is (search rules) (search rules) in
    search rules

pub returns-clause-left : goal.returns-clause-left
returns-clause-left c =
    let x = c.args in
    let z = c.requires in
    let w = c.work-told in
    let m : Mesh = mesh_of x.mesh.now in
    let t : Step = step (mesh_of w.new.mesh) (answered w.result) in
    let is : t ≡ work m x.edit x.keys.now = on-copy m (room_of c.copy_in.new.room) x.edit x.keys.now t z.begun (search rules) w.ensures.told in
    let one : given_by c.in_ok-answer.answer ≡ answered c.judged.result = search rules in
    done m x.edit x.keys.now t is (given_by c.in_ok-answer.answer) (one ∙ c.judged.ensures ∙ ap (λ (y : Mesh). (worked (step y (answered w.result))).answer) c.view-4.ensures) (is_answer c.in_ok-answer.answer) _ (search rules)
