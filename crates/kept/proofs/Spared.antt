-- A face that edits spare, one after another, has the same ring in the end, arc for arc, if its ring is sound then.
use Prim.Native.Nat.{ℕ}
use mathlib.Core.Path.{◌≡◌, refl, sym, subst, ◌∙◌}
use mathlib.Core.Bool.{not}
use mathlib.Core.Logic.{◌⊎◌, inl, inr}
use lib.Dec.{T, eqb}
use Rattle.rules.specs.Table.{cell}
use Rattle.rules.specs.Mesh.{Mesh, next, previous}
use Rattle.proved.specs.Demand.{Holds}
use Rattle.proved.specs.Facts.{RingFacts}
use Rattle.kept.specs.Frame.{RingStays}
use Rattle.kept.specs.Reaches.{Spared, SameRing}
use Rattle.kept.proofs.Rings.{next-holds, previous-holds}

-- a ring that stays is spared
pub stays-spared : {m n : Mesh} {g : ℕ} → ((c : ℕ) → cell n.faces g c ≡ cell m.faces g c) → RingStays m n g → Spared m n g
stays-spared record-stays s =
    record {
      record-stays = record-stays;
      still-hold = λ x h. record { exists = subst (λ (z : ℕ). T (not (eqb z 0))) (sym (s.keeps x 0 h)) h.exists; its-face = s.keeps x 4 h ∙ h.its-face };
      no_more = s.no_more;
      next-or = λ x h. inl (s.keeps x 2 h);
      previous-or = λ x h. inl (s.keeps x 3 h);
    }

pub spared-none : (m : Mesh) (g : ℕ) → Spared m m g
spared-none m g = record { record-stays = λ c. refl; still-hold = λ x h. h; no_more = λ x h. h; next-or = λ x h. inl refl; previous-or = λ x h. inl refl }

-- one edit after another
pub spared-onto : {m a n : Mesh} {g : ℕ} → Spared m a g → Spared a n g → Spared m n g
spared-onto {m} {a} {n} {g} p q =
    record {
      record-stays = λ c. q.record-stays c ∙ p.record-stays c;
      still-hold = λ x h. q.still-hold x (p.still-hold x h);
      no_more = λ x h. p.no_more x (q.no_more x h);
      next-or = λ x h. nexts x (q.next-or x (p.still-hold x h)) (p.next-or x h);
      previous-or = λ x h. previouses x (q.previous-or x (p.still-hold x h)) (p.previous-or x h);
    }
  where
    nexts : (x : ℕ) → (next n x ≡ next a x) ⊎ (Holds n g (next n x) → ⊥) → (next a x ≡ next m x) ⊎ (Holds a g (next a x) → ⊥) → (next n x ≡ next m x) ⊎ (Holds n g (next n x) → ⊥)
    nexts x (inl e) (inl d) = inl (e ∙ d)
    nexts x (inl e) (inr f) = inr (λ h. f (subst (Holds a g) e (q.no_more (next n x) h)))
    nexts x (inr f) d = inr f

    previouses : (x : ℕ) → (previous n x ≡ previous a x) ⊎ (Holds n g (previous n x) → ⊥) → (previous a x ≡ previous m x) ⊎ (Holds a g (previous a x) → ⊥) → (previous n x ≡ previous m x) ⊎ (Holds n g (previous n x) → ⊥)
    previouses x (inl e) (inl d) = inl (e ∙ d)
    previouses x (inl e) (inr f) = inr (λ h. f (subst (Holds a g) e (q.no_more (previous n x) h)))
    previouses x (inr f) d = inr f

-- in the end
module _ {m n : Mesh} {g : ℕ} (s : Spared m n g) (r : RingFacts n g) where
  pub spared-next : (x : ℕ) → Holds m g x → next n x ≡ next m x
  spared-next x h = go (s.next-or x h)
    where
      go : (next n x ≡ next m x) ⊎ (Holds n g (next n x) → ⊥) → next n x ≡ next m x
      go (inl e) = e
      go (inr f) = absurd (f (next-holds n g r x (s.still-hold x h)))

  pub spared-previous : (x : ℕ) → Holds m g x → previous n x ≡ previous m x
  spared-previous x h = go (s.previous-or x h)
    where
      go : (previous n x ≡ previous m x) ⊎ (Holds n g (previous n x) → ⊥) → previous n x ≡ previous m x
      go (inl e) = e
      go (inr f) = absurd (f (previous-holds n g r x (s.still-hold x h)))

  pub same-ring : SameRing m n g
  same-ring = record { record-stays = s.record-stays; still-hold = s.still-hold; no_more = s.no_more; next-stays = spared-next; previous-stays = spared-previous }
