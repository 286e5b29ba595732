use Prim.Native.Nat.{ℕ}
use mathlib.Core.Path.{refl, ap, sym, ◌∙◌}
use borrow.Author.Tests.{eq-eqb, ne_eqb}
use Rattle.rules.specs.Answer.{Arity}
use Rattle.rules.specs.Table.{cell}
use Rattle.rules.specs.Mesh.{find_face}
use Rattle.rules.specs.Lent.{mesh_in}
use Rattle.rules.specs.Call.{face_arity}
use Rattle.sound.proofs.queries.face_arity.Goals as goal

pub returns-then-not-is_sound : goal.returns-then-not-is_sound
unfolding face_arity
returns-then-not-is_sound c = rw (sym c.is_sound.ensures ∙ c.if-not-is_sound.true)

pub returns-then-f-eq0 : goal.returns-then-f-eq0
unfolding face_arity
returns-then-f-eq0 c = rw (sym c.is_sound.ensures ∙ c.if-not-is_sound.false, eq-eqb _ _ (sym c.find_key-f.ensures ∙ c.if-f-eq0.true))

pub returns : goal.returns
unfolding face_arity
returns c =
    let m = mesh_in c.args.mesh in
    let named = sym (c.cell.ensures ∙ ap (λ (z : ℕ). cell m.faces z 1) c.find_key-f.ensures) in
    rw (sym c.is_sound.ensures ∙ c.if-not-is_sound.false, ne_eqb _ _ (λ q. c.if-f-eq0.false (c.find_key-f.ensures ∙ q))) (ap Arity (c.arity_from.ensures m (find_face m c.args.face) refl named))
