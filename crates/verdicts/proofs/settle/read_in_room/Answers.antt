-- `verdicts::settle::read_in_room` meets its contract: refused first, or judged. Assumes nothing.
use mathlib.Core.Path.{◌≡◌, sym, ap, ◌∙◌}
use borrow.Author.Rules.{rules}
use Rattle.rules.specs.Mesh.{Mesh}
use Rattle.rules.specs.Lent.{mesh_in, mesh_of}
use Rattle.proved.proofs.Rows.{true-T}
use Rattle.bodies.proofs.Numbers.{all-bytes}
use Rattle.verdicts.specs.Verdicts.{first_number, taken, judged}
use Rattle.verdicts.specs.Refusals.{number_of}
use Rattle.verdicts.proofs.Numbered.{refusal-not-none}
use Rattle.verdicts.proofs.Taking.{Passed, no-refusal, refused-first, judged-is}
use Rattle.verdicts.proofs.settle.read_in_room.Goals as goal

pub returns-in_err-file-clause-taken : goal.returns-in_err-file-clause-taken
returns-in_err-file-clause-taken c =
    let m = mesh_of c.args.mesh.now in
    let t = c.args.text.now in
    let told : number_of c.from_residual.result ≡ first_number (mesh_in c.view.result) t = search rules in
    let first : number_of c.from_residual.result ≡ first_number m t = told ∙ ap (λ (q : Mesh). first_number q t) c.view.ensures in
    let some : number_of c.from_residual.result ≡ 0 → ⊥ = search (rules, refusal-not-none) in
    ap (λ (n : _). taken n m) first ∙ refused-first m t (all-bytes t (search rules)) (λ e. some (first ∙ e))

pub settle-requires-clause-few : goal.settle-requires-clause-few
settle-requires-clause-few c =
    let m = mesh_of c.args.mesh.now in
    let passed : Passed m c.args.text.now =
    no-refusal m c.args.text.now (sym (c.in_ok-file.ensures.first ∙ ap (λ (q : Mesh). first_number q c.args.text.now) c.view.ensures)) in
    rw c.in_ok-file.ensures.same (true-T passed.few)

pub returns-clause-taken : goal.returns-clause-taken
returns-clause-taken c =
    let m = mesh_of c.args.mesh.now in
    let passed : Passed m c.args.text.now =
    no-refusal m c.args.text.now (sym (c.in_ok-file.ensures.first ∙ ap (λ (q : Mesh). first_number q c.args.text.now) c.view.ensures)) in
    c.settle.ensures.judged ∙ ap (judged m) c.in_ok-file.ensures.same ∙ judged-is m c.args.text.now passed
