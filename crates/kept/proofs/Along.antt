-- An edit in parts, each on what the one before made, until all are done or one is refused. What holds after every part that is accepted is
-- carried along, and so is what holds wherever the edit stops; and with other makers the edit is the same if each part is. Said once, for
-- poke, bridge and extrude.
use Prim.Native.Nat.{ℕ, zero, suc, ◌<◌}
use native.Mathlib.Omega.{arith}
use mathlib.Core.Path.{◌≡◌, refl, ap, sym, subst}
use mathlib.Core.Bool.{Bool, true, false, cond}
use lib.Dec.{T}
use Rattle.rules.specs.Answer.{Answer}
use Rattle.rules.specs.Table.{up_to}
use Rattle.rules.specs.Mesh.{Mesh}
use Rattle.rules.specs.Step.{Step, step, accepted, and_then, answering, checked}

-- the edit t goes on to P if it is accepted, leaves Q in any case, and with other makers is t', the same
pub record Along (P Q : Mesh → Type 0) (t t' : Step) : Type 0 where
  pub goes : T (accepted t.answer) → P t.tables
  pub leaves : Q t.tables
  pub same : t' ≡ t

module _ {P Q : Mesh → Type 0} where
  pub along-start : (m m' : Mesh) (x : Answer) → P m → Q m → m' ≡ m → Along P Q (step m x) (step m' x)
  along-start m m' x p q e = record { goes = λ h. p; leaves = q; same = ap (λ (a : Mesh). step a x) e }

  -- a part that is the same as another
  pub along-same : {t t' u u' : Step} → t ≡ u → t' ≡ u' → Along P Q u u' → Along P Q t t'
  along-same {t} {t'} {u} {u'} e e' w = rw (e, e') w

  -- behind its checks: refused, they leave the mesh as it is
  pub along-checked : (m : Mesh) (c : Answer) (t t' : Step) → Q m → (T (accepted c) → Along P Q t t') → Along P Q (checked m c t) (checked m c t')
  unfolding checked
  along-checked m c t t' q h = go (accepted c) refl h
    where
      go : (b : Bool) → accepted c ≡ b → (T b → Along P Q t t') → Along P Q (cond b t (step m c)) (cond b t' (step m c))
      go true e w = w tt
      go false e w = record { goes = λ z. absurd (subst T e z); leaves = q; same = refl }

  pub along-answering : (x : Answer) (t t' : Step) → Along P Q t t' → Along P Q (answering x t) (answering x t')
  unfolding answering
  along-answering x t t' w = record { goes = go (accepted t.answer) refl; leaves = stays (accepted t.answer); same = ap (answering x) w.same }
    where
      go : (b : Bool) → accepted t.answer ≡ b → T (accepted (cond b (step t.tables x) t).answer) → P (cond b (step t.tables x) t).tables
      go true e z = w.goes (subst T (sym e) tt)
      go false e z = absurd (subst T e z)

      stays : (b : Bool) → Q (cond b (step t.tables x) t).tables
      stays true = w.leaves
      stays false = w.leaves

pub along-so : {P Q R S : Mesh → Type 0} {t t' : Step} → Along P Q t t' → ((a : Mesh) → P a → R a) → ((a : Mesh) → Q a → S a) → Along R S t t'
along-so {t = t} w p q = record { goes = λ h. p t.tables (w.goes h); leaves = q t.tables w.leaves; same = w.same }

-- one part more
along-more : {P R Q : Mesh → Type 0} (part part' : Mesh → Step) (t t' : Step) → Along P Q t t' → ((a : Mesh) → P a → Along R Q (part a) (part' a)) → Along R Q (and_then t part) (and_then t' part')
unfolding and_then
along-more {P} {R} {Q} part part' t t' w h = rw w.same (go (accepted t.answer) refl)
  where
    go : (b : Bool) → accepted t.answer ≡ b → Along R Q (cond b (part t.tables) t) (cond b (part' t.tables) t)
    go true e = h t.tables (w.goes (subst T (sym e) tt))
    go false e = record { goes = λ z. absurd (subst T e z); leaves = w.leaves; same = refl }

-- all of them
pub along-loop : (P : ℕ → Mesh → Type 0) {Q : Mesh → Type 0} (part part' : ℕ → Mesh → Step) (n : ℕ) (t t' : Step) → Along (P 0) Q t t' → ((i : ℕ) (a : Mesh) → i < n → P i a → Along (P (suc i)) Q (part i a) (part' i a)) → Along (P n) Q (up_to (λ i s. and_then s (part i)) n t) (up_to (λ i s. and_then s (part' i)) n t')
unfolding up_to
along-loop P part part' zero t t' w h = w
along-loop P part part' (suc n) t t' w h =
    along-more (part n) (part' n) (up_to (λ i s. and_then s (part i)) n t) (up_to (λ i s. and_then s (part' i)) n t') (along-loop P part part' n t t' w (λ i a l. h i a (omega arith))) (λ a p. h n a (omega arith) p)
