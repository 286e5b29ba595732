-- How many rows pass a test, after a store; that a row that passes is found; and that a row is used or unused.
use Prim.Native.Nat.{ℕ, zero, suc, ◌+◌, ◌-◌, ◌≤◌, ◌<◌, zero-le, suc-le-suc}
use native.Mathlib.Nat.{le_of_suc-le-suc, not-suc-le-zero}
use mathlib.Core.Path.{◌≡◌, refl}
use mathlib.Core.Bool.{Bool, true, false, not, cond}
use mathlib.Core.List.{List, [], ◌∷◌}
use native.Mathlib.Omega.{arith}
use lib.ListN.{length, get_or, set}
use Rattle.rules.specs.Table.{Table, first_row, count, below, used, unused}

abbrev pub bit : Bool → ℕ
bit true = 1
bit false = 0

pub plus-bit : (b : Bool) (n : ℕ) → cond b (suc n) n ≡ n + bit b
plus-bit true n = omega arith
plus-bit false n = omega arith

abbrev Found : ℕ → ℕ → Type 0
Found n k = 1 ≤ n → 1 ≤ k

found-step : (b : Bool) (n k : ℕ) → Found n k → 1 ≤ cond b (suc n) n → 1 ≤ cond b 1 (below k)
found-step true n k h l = suc-le-suc zero-le
found-step false n zero h l = h l
found-step false n (suc k) h l = suc-le-suc zero-le

module _ {ℓ} {A : Type ℓ} where
  pub count-cons : (p : A → Bool) (x : A) (xs : List A) → count p (x ∷ xs) ≡ count p xs + bit (p x)
  unfolding count
  count-cons p x xs = plus-bit (p x) (count p xs)

  -- a store trades the old row for the new one
  pub count_set : (p : A → Bool) (xs : List A) (i : ℕ) (v d : A) → i < length xs → count p (set xs i v) + bit (p (get_or xs i d)) ≡ count p xs + bit (p v)
  count_set p [] i v d l = absurd (not-suc-le-zero l)
  count_set p (x ∷ xs) zero v d l = omega (arith, count-cons p x xs, count-cons p v xs)
  count_set p (x ∷ xs) (suc i) v d l = omega (arith, count-cons p x xs, count-cons p x (set xs i v), count_set p xs i v d (le_of_suc-le-suc l))

  pub count-le : (p : A → Bool) (xs : List A) → count p xs ≤ length xs
  unfolding count
  count-le p [] = zero-le
  count-le p (x ∷ xs) = bounded (p x) (count p xs) (length xs) (count-le p xs)
    where
      bounded : (b : Bool) (n m : ℕ) → n ≤ m → cond b (suc n) n ≤ suc m
      bounded true n m h = suc-le-suc h
      bounded false n m h = omega arith

  -- one that passes is found, and the row found passes
  pub count-found : (p : A → Bool) (xs : List A) → 1 ≤ count p xs → 1 ≤ first_row p xs
  unfolding count first_row
  count-found p [] l = l
  count-found p (x ∷ xs) l = found-step (p x) (count p xs) (first_row p xs) (count-found p xs) l

  pub found-passes : (p : A → Bool) (xs : List A) (d : A) → 1 ≤ first_row p xs → p (get_or xs (first_row p xs - 1) d) ≡ true
  unfolding first_row
  found-passes p [] d l = absurd (not-suc-le-zero l)
  found-passes p (x ∷ xs) d l = at (p x) refl (first_row p xs) (found-passes p xs d) l
    where
      at : (b : Bool) → p x ≡ b → (k : ℕ) → (1 ≤ k → p (get_or xs (k - 1) d) ≡ true) → 1 ≤ cond b 1 (below k) → p (get_or (x ∷ xs) (cond b 1 (below k) - 1) d) ≡ true
      at true e k ih h = e
      at false e zero ih h = absurd (not-suc-le-zero h)
      at false e (suc k) ih h =
          let z : suc (suc k) - 1 ≡ suc k = omega arith in
          let y : suc k - 1 ≡ k = omega arith in
          rw z (rw y at (ih (suc-le-suc zero-le)))

-- the used rows and the unused ones are all rows
pub used-unused : (t : Table) → count used t + count unused t ≡ length t
unfolding count
used-unused [] = refl
used-unused (r ∷ rs) = omega (arith, count-cons used r rs, count-cons unused r rs, used-unused rs, one (unused r))
  where
    one : (b : Bool) → bit (not b) + bit b ≡ 1
    one true = refl
    one false = refl
