-- `mesh::call::perform` meets its contract: what is decided first, then the work, in room or straight in the mesh. Assumes nothing.
use Prim.Native.Nat.{ℕ, ◌≤◌}
use native.Mathlib.Omega.{arith}
use mathlib.Core.Path.{◌≡◌, ap, sym, ◌∙◌}
use mathlib.Core.Bool.{true, false}
use mathlib.Core.List.{List}
use lib.ListN.{length}
use Rattle.std.proofs.Common.{rules, Result, Ok, Err}
use Rattle.rules.specs.declared.Refusal.{Refusal}
use Rattle.rules.specs.declared.Told.{Told}
use Rattle.rules.specs.Answer.{Answer}
use Rattle.rules.specs.Lent.{mesh_of, answered, allowed}
use Rattle.rules.specs.Mesh.{Mesh}
use Rattle.rules.specs.Step.{step, accepted}
use Rattle.kept.specs.Frame.{ThreeCounters}
use Rattle.order.specs.declared.settle.Way.TheVariants.{Keeps}
use Rattle.order.specs.Transaction.{left, before_work, way_of}
use Rattle.mesh.proofs.Calling.{performed, not-performed, few-keys}
use Rattle.mesh.proofs.Keeping.{in_place_lem}
use Rattle.mesh.proofs.call.perform.Goals as goal

three : (k : List ℕ) → length k ≡ 3 → 3 ≤ length k
three k e = omega (arith, e)

-- what is decided first passes, or is refused
passed : (r : Result (Unit {0}) Refusal) (u : Unit {0}) (b : Answer) → r ≡ Ok u → allowed r ≡ b → accepted b ≡ true
unfolding accepted
passed r u b q e = ap accepted (sym e) ∙ rw q

refused : (r : Result Told Refusal) (e : Refusal) → r ≡ Err e → accepted (answered r) ≡ false
unfolding accepted
refused r e q = rw q

pub returns-in_err-decide-clause-left : goal.returns-in_err-decide-clause-left
returns-in_err-decide-clause-left c =
    let m = mesh_of c.args.mesh.now in
    let is : answered c.from_residual.result ≡ before_work m c.args.edit c.args.keys.now = search rules in
    let no : accepted (answered c.from_residual.result) ≡ false = search (rules, refused) in
    ap (λ (y : Answer). left y m) is ∙ not-performed m c.args.edit c.args.keys.now (ap accepted (sym is) ∙ no)

pub work-requires : goal.work-requires
work-requires c = few-keys (mesh_of c.args.mesh.now) c.args.edit c.args.keys.now (passed c.decide.result _ (before_work (mesh_of c.args.mesh.now) c.args.edit c.args.keys.now) (search rules) (search rules))

pub returns-then-eq-clause-left : goal.returns-then-eq-clause-left
returns-then-eq-clause-left c =
    let m = mesh_of c.args.mesh.now in
    let w = c.work in
    let keeps : way_of c.args.edit ≡ Keeps = search rules in
    in_place_lem m c.args.edit c.args.keys.now (step (mesh_of w.new.mesh) (answered w.result)) (three _ (search rules)) c.requires.whole (passed c.decide.result _ (before_work (mesh_of c.args.mesh.now) c.args.edit c.args.keys.now) (search rules) (search rules)) keeps w.ensures.told

pub work_in_room-requires-clause-begun : goal.work_in_room-requires-clause-begun
work_in_room-requires-clause-begun c =
    record { three = three _ (search rules); whole = c.requires.whole; passed = passed c.decide.result _ (before_work (mesh_of c.args.mesh.now) c.args.edit c.args.keys.now) (search rules) (search rules) }

pub returns-clause-left : goal.returns-clause-left
returns-clause-left c =
    let m = mesh_of c.args.mesh.now in
    let g = c.work_in_room in
    performed m c.args.edit c.args.keys.now (left (answered g.result) (mesh_of g.new.mesh)) (passed c.decide.result _ (before_work (mesh_of c.args.mesh.now) c.args.edit c.args.keys.now) (search rules) (search rules)) g.ensures.left
