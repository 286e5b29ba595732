-- A walk, one step at a time, as a loop takes it.
use Prim.Native.Nat.{ℕ, zero, suc, ◌+◌, ◌-◌, ◌≤◌, ◌<◌}
use native.Mathlib.Nat.{not-suc-le-zero}
use native.Mathlib.Numerals.{add-one}
use native.Mathlib.Omega.{arith}
use mathlib.Core.Path.{◌≡◌, refl, ap, sym, ◌∙◌}
use mathlib.Core.Bool.{cond}
use mathlib.Core.List.{List, [], ◌∷◌, ◌++◌, append_assoc, append-nil}
use lib.ListN.{length, take, set}
use lib.Seq.{take-suc-set}
use lib.Dec.{eqb}
use borrow.Author.Tests.{eq-eqb, ne_eqb}
use Rattle.rules.specs.Link.{walk}

module _ (step : ℕ → ℕ) (first : ℕ) where
  pub walk_none : (m : ℕ) → walk step first m 0 ≡ []
  unfolding walk
  walk_none zero = refl
  walk_none (suc m) = refl

  -- with one step left or more
  walk-suc : (m x : ℕ) → 1 ≤ x → walk step first (suc m) x ≡ x ∷ cond (eqb (step x) first) [] (walk step first m (step x))
  unfolding walk
  walk-suc m zero h = absurd (not-suc-le-zero h)
  walk-suc m (suc x) h = refl

  pub walk_here : (m n x : ℕ) → n < m → 1 ≤ x → walk step first (m - n) x ≡ x ∷ cond (eqb (step x) first) [] (walk step first (m - (n + 1)) (step x))
  walk_here m n x l h =
      let z : m - n ≡ suc (m - (n + 1)) = omega arith in
      rw (z, walk-suc (m - (n + 1)) x h)

  pub walk-stop : (m n x : ℕ) → n < m → 1 ≤ x → step x ≡ first → walk step first (m - n) x ≡ x ∷ []
  walk-stop m n x l h e =
      let z : m - n ≡ suc (m - (n + 1)) = omega arith in
      rw (z, walk-suc (m - (n + 1)) x h, eq-eqb _ _ e)

  pub walk-on : (m n x : ℕ) → n < m → 1 ≤ x → (step x ≡ first → ⊥) → walk step first (m - n) x ≡ x ∷ walk step first (m - (n + 1)) (step x)
  walk-on m n x l h e =
      let z : m - n ≡ suc (m - (n + 1)) = omega arith in
      rw (z, walk-suc (m - (n + 1)) x h, ne_eqb _ _ e)

  -- a loop that stores the walk: n places are in, and x is next
  abbrev pub Stored : ℕ → List ℕ → ℕ → ℕ → Type 0
  Stored m out n x = take n out ++ walk step first (m - n) x ≡ walk step first m first

  pub stored-none : (m : ℕ) (out : List ℕ) (n x : ℕ) → x ≡ 0 → Stored m out n x → take n out ≡ walk step first m first
  stored-none m out n x e h = sym (append-nil (take n out)) ∙ ap (λ (l : List ℕ). take n out ++ l) (sym (walk_none (m - n)) ∙ ap (walk step first (m - n)) (sym e)) ∙ h

  pub walk-zero : (x : ℕ) → walk step first 0 x ≡ []
  unfolding walk
  walk-zero x = refl

  pub stored-full : (m : ℕ) (out : List ℕ) (n x : ℕ) → m ≤ n → Stored m out n x → take n out ≡ walk step first m first
  stored-full m out n x l h =
      let z : m - n ≡ 0 = omega arith in
      sym (append-nil (take n out)) ∙ ap (λ (r : List ℕ). take n out ++ r) (sym (walk-zero x) ∙ ap (λ (k : ℕ). walk step first k x) (sym z)) ∙ h

  put_in : (out : List ℕ) (n x : ℕ) → n < length out → take (n + 1) (set out n x) ≡ take n out ++ (x ∷ [])
  put_in out n x l = rw (add-one n) (take-suc-set out n x l)

  pub stored-stop : (m : ℕ) (out : List ℕ) (n x : ℕ) → n < m → n < length out → 1 ≤ x → step x ≡ first → Stored m out n x → take (n + 1) (set out n x) ≡ walk step first m first
  stored-stop m out n x l q h e s = put_in out n x q ∙ ap (λ (r : List ℕ). take n out ++ r) (sym (walk-stop m n x l h e)) ∙ s

  pub stored_on : (m : ℕ) (out : List ℕ) (n x : ℕ) → n < m → n < length out → 1 ≤ x → (step x ≡ first → ⊥) → Stored m out n x → Stored m (set out n x) (n + 1) (step x)
  stored_on m out n x l q h e s =
      rw (put_in out n x q, append_assoc) (ap (λ (r : List ℕ). take n out ++ r) (sym (walk-on m n x l h e)) ∙ s)
