-- A scan of a table from its first row: what was passed by, and what was found. One law for every scan.
use Prim.Native.Nat.{ℕ, zero, suc, ◌+◌, ◌≤◌, ◌<◌, zero-le, suc-le-suc}
use native.Mathlib.Nat.{le_of_suc-le-suc, not-suc-le-zero}
use mathlib.Core.Path.{◌≡◌, refl}
use mathlib.Core.Bool.{Bool, true, false, cond, ◌&&◌}
use mathlib.Core.List.{List, [], ◌∷◌}
use lib.ListN.{length, get_or}
use borrow.Author.Tests.{eq-eqb, ne_eqb}
use native.Mathlib.Numerals.{add-one}
use Rattle.rules.specs.Table.{first_row, up_to, below, every}
use Rattle.rules.specs.Mesh.{joins}

pub joins-yes : (a b : ℕ) (r : List ℕ) → get_or r 0 0 ≡ a → get_or r 1 0 ≡ b → joins a b r ≡ true
joins-yes a b r p q = rw (eq-eqb _ _ p, eq-eqb _ _ q)

pub joins-no-source : (a b : ℕ) (r : List ℕ) → (get_or r 0 0 ≡ a → ⊥) → joins a b r ≡ false
joins-no-source a b r p = rw (ne_eqb _ _ p)

and-false : (b : Bool) → (b && false) ≡ false
and-false true = refl
and-false false = refl

below-le : (n m : ℕ) → n ≤ m → below n ≤ suc m
below-le zero m h = zero-le
below-le (suc n) m h = suc-le-suc h

one-or-later : (b : Bool) (n m : ℕ) → n ≤ m → cond b 1 (below n) ≤ suc m
one-or-later true n m h = suc-le-suc zero-le
one-or-later false n m h = below-le n m h

module _ {ℓ} {A : Type ℓ} where
  -- one turn more of a loop that counts up
  pub up_to-more : (f : ℕ → A → A) (i : ℕ) (a : A) → up_to f (i + 1) a ≡ f i (up_to f i a)
  unfolding up_to
  up_to-more f i a = rw (add-one i)

  pub none_passes : (p : A → Bool) (xs : List A) (d : A) → ((k : ℕ) → k < length xs → p (get_or xs k d) ≡ false) → first_row p xs ≡ 0
  unfolding first_row
  none_passes p [] d h = refl
  none_passes p (x ∷ xs) d h =
      rw (h 0 (suc-le-suc zero-le), none_passes p xs d (λ k l. h (suc k) (suc-le-suc l)))

  pub first_passes : (p : A → Bool) (xs : List A) (d : A) (i : ℕ) → i < length xs → ((k : ℕ) → k < i → p (get_or xs k d) ≡ false) → p (get_or xs i d) ≡ true → first_row p xs ≡ suc i
  unfolding first_row
  first_passes p [] d i l h t = absurd (not-suc-le-zero l)
  first_passes p (x ∷ xs) d zero l h t = rw t
  first_passes p (x ∷ xs) d (suc i) l h t =
      rw (h 0 (suc-le-suc zero-le), first_passes p xs d i (le_of_suc-le-suc l) (λ k q. h (suc k) (suc-le-suc q)) t)

  pub first-le : (p : A → Bool) (xs : List A) → first_row p xs ≤ length xs
  unfolding first_row
  first-le p [] = zero-le
  first-le p (x ∷ xs) = one-or-later (p x) (first_row p xs) (length xs) (first-le p xs)

  pub every-passes : (p : A → Bool) (xs : List A) (d : A) → ((k : ℕ) → k < length xs → p (get_or xs k d) ≡ true) → every p xs ≡ true
  unfolding every
  every-passes p [] d h = refl
  every-passes p (x ∷ xs) d h = rw (h 0 (suc-le-suc zero-le)) (every-passes p xs d (λ k l. h (suc k) (suc-le-suc l)))

  pub one-fails : (p : A → Bool) (xs : List A) (d : A) (i : ℕ) → i < length xs → p (get_or xs i d) ≡ false → every p xs ≡ false
  unfolding every
  one-fails p [] d i l h = absurd (not-suc-le-zero l)
  one-fails p (x ∷ xs) d zero l h = rw h
  one-fails p (x ∷ xs) d (suc i) l h = rw (one-fails p xs d i (le_of_suc-le-suc l) h) (and-false (p x))
