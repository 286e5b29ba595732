-- A loop over rows that leaves at the first that fails: one law for every such loop, over any test.
use Prim.Native.Nat.{ℕ, zero, suc, ◌+◌, ◌≤◌, ◌<◌}
use native.Mathlib.Nat.{zero-add}
use native.Mathlib.Numerals.{add-one}
use native.Mathlib.Omega.{arith}
use mathlib.Core.Path.{◌≡◌, refl, ap, sym, subst, ◌∙◌}
use mathlib.Core.Bool.{Bool, true, false, not, ◌&&◌, ◌||◌}
use mathlib.Core.List.{List, [], ◌∷◌}
use lib.ListN.{length, get_or, take}
use lib.Seq.{get_or-take, length-take-le}
use lib.Dec.{T}
use Rattle.std.specs.List.{range_with_len, list_all, list_any}
use Rattle.std.proofs.lemmas.List.FromFn.{length-range_with_len, get_or-range_with_len}
use Rattle.rules.specs.Table.{all_below, every}
use Rattle.rules.proofs.Sums.{all-at, same_test}
use Rattle.proved.proofs.Rows.{T_true, true-T, all_from, every-at}

module _ (q : ℕ → Bool) where
  -- the rows before i pass
  abbrev pub Passed : ℕ → Type 0
  Passed i = all_below q i ≡ true

  pub none_yet : Passed 0
  unfolding all_below
  none_yet = refl

  pub one_more : (i : ℕ) → Passed i → q i ≡ true → Passed (i + 1)
  unfolding all_below
  one_more i h e = rw (add-one i, h, e)

  pub all-passed : (n i : ℕ) → n ≤ i → i ≤ n → Passed i → true ≡ all_below q n
  all-passed n i a b h = let e : i ≡ n = omega arith in sym (rw e at h)

  pub one-failed : (n i : ℕ) → i < n → q i ≡ false → false ≡ all_below q n
  one-failed n i l e =
      same_test false (all_below q n) (λ z. absurd z) (λ t. subst T e (all-at q n t i l))

-- tests that agree below n
pub same-below : (p q : ℕ → Bool) (n : ℕ) → ((k : ℕ) → k < n → p k ≡ q k) → all_below p n ≡ all_below q n
unfolding all_below
same-below p q zero h = refl
same-below p q (suc n) h = rw (same-below p q n (λ k l. h k (omega arith)), h n (omega arith))

-- a test of every row, row by row
pub every-all : {A : Type 0} (p : A → Bool) (xs : List A) (d : A) → every p xs ≡ all_below (λ i. p (get_or xs i d)) (length xs)
every-all p xs d =
    same_test (every p xs) (all_below (λ i. p (get_or xs i d)) (length xs)) (λ t. all_from (λ i. p (get_or xs i d)) (length xs) (every-at p xs d t)) (λ t. true-T (Rattle.rules.proofs.Scan.every-passes p xs d (λ k l. T_true _ (all-at (λ i. p (get_or xs i d)) (length xs) t k l))))

-- ---- loops that the library runs: `all` over a range or over rows, `contains`

pub list-every : {A : Type 0} (p : A → Bool) (xs : List A) → list_all p xs ≡ every p xs
unfolding every
list-every p [] = refl
list-every p (x ∷ xs) = ap (λ (b : Bool). p x && b) (list-every p xs)

-- a test of every number below n
pub list-below : (q : ℕ → Bool) (n : ℕ) → list_all q (range_with_len 0 n) ≡ all_below q n
list-below q n =
    list-every q l ∙ every-all q l 0 ∙ rw (length-range_with_len 0 n) (same-below (λ i. q (get_or l i 0)) q n (λ k h. ap q (get_or-range_with_len 0 n k 0 h ∙ zero-add k)))
  where
    l : List ℕ
    l = range_with_len 0 n

-- no element passes: each fails
none-every : {A : Type 0} (p : A → Bool) (xs : List A) → not (list_any p xs) ≡ every (λ x. not (p x)) xs
unfolding every
none-every p [] = refl
none-every p (x ∷ xs) = go (p x) (none-every p xs)
  where
    go : (b : Bool) → not (list_any p xs) ≡ every (λ x. not (p x)) xs → not (b || list_any p xs) ≡ (not b && every (λ x. not (p x)) xs)
    go true e = refl
    go false e = e

-- of the first n rows
pub none-below : (p : ℕ → Bool) (xs : List ℕ) (n : ℕ) → n ≤ length xs → not (list_any p (take n xs)) ≡ all_below (λ j. not (p (get_or xs j 0))) n
none-below p xs n h =
    none-every p (take n xs) ∙ every-all (λ x. not (p x)) (take n xs) 0 ∙ rw (length-take-le n xs h) (same-below (λ i. not (p (get_or (take n xs) i 0))) (λ j. not (p (get_or xs j 0))) n (λ k l. ap (λ (z : ℕ). not (p z)) (get_or-take n xs k 0 l)))
