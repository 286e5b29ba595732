-- A list with one number more at its end: what stands in it, and where. A list of which nothing is sought past a place.
use Prim.Native.Nat.{ℕ, zero, suc, ◌+◌, ◌≤◌, ◌<◌}
use native.Mathlib.Numerals.{add-one}
use native.Mathlib.Omega.{arith}
use native.Mathlib.Decide.{dec_lt}
use mathlib.Core.Path.{◌≡◌, refl, ap, sym, ◌∙◌, subst}
use mathlib.Core.Bool.{Bool, true, false, ◌||◌, cond}
use mathlib.Core.List.{List, [], ◌∷◌, ◌++◌}
use lib.ListN.{length, get_or, set, take, length-append, get_or-append}
use lib.Seq.{take-suc-set}
use lib.Dec.{eqb}
use borrow.Author.Tests.{eq-eqb, ne_eqb}
use Rattle.rules.specs.Table.{has}
use Rattle.pairs.proofs.Below.{or-true}

-- the first n places of an array, and the one that follows
pub one_written : (at : List ℕ) (n x : ℕ) → n < length at → take (n + 1) (set at n x) ≡ take n at ++ (x ∷ [])
one_written at n x h = ap (λ (k : ℕ). take k (set at n x)) (add-one n) ∙ take-suc-set at n x h

pub has_last : (l : List ℕ) (x : ℕ) → has (l ++ (x ∷ [])) x ≡ true
unfolding has
has_last [] x = rw (eq-eqb x x refl)
has_last (y ∷ ys) x = rw (has_last ys x) (or-true (eqb x y))

pub has_left : (l : List ℕ) (x y : ℕ) → has l y ≡ true → has (l ++ (x ∷ [])) y ≡ true
unfolding has
has_left [] x y h = rw h (or-true (eqb y x))
has_left (z ∷ zs) x y h = go (eqb y z) h (has_left zs x y)
  where
    go : (b : Bool) → (b || has zs y) ≡ true → (has zs y ≡ true → has (zs ++ (x ∷ [])) y ≡ true) → (b || has (zs ++ (x ∷ [])) y) ≡ true
    go true q ih = refl
    go false q ih = ih q

-- a number that is not the last stands before it
pub has-before : (l : List ℕ) (x y : ℕ) → (y ≡ x → ⊥) → has (l ++ (x ∷ [])) y ≡ true → has l y ≡ true
unfolding has
has-before [] x y ne h = rw (ne_eqb y x ne) at h
has-before (z ∷ zs) x y ne h = go (eqb y z) h (has-before zs x y ne)
  where
    go : (b : Bool) → (b || has (zs ++ (x ∷ [])) y) ≡ true → (has (zs ++ (x ∷ [])) y ≡ true → has zs y ≡ true) → (b || has zs y) ≡ true
    go true q ih = refl
    go false q ih = ih q

-- of the first n + 1 places of an array: it stands before the last, or is the last
pub has-read : (at : List ℕ) (n y : ℕ) → has (take (suc n) at) y ≡ true → has (take n at ++ (get_or at n 0 ∷ [])) y ≡ true
unfolding has
has-read [] zero y h = rw h (or-true (eqb y 0))
has-read [] (suc n) y h = rw h (or-true (eqb y 0))
has-read (x ∷ xs) zero y h = h
has-read (x ∷ xs) (suc n) y h = go (eqb y x) h (has-read xs n y)
  where
    go : (b : Bool) → (b || has (take (suc n) xs) y) ≡ true → (has (take (suc n) xs) y ≡ true → has (take n xs ++ (get_or xs n 0 ∷ [])) y ≡ true) → (b || has (take n xs ++ (get_or xs n 0 ∷ [])) y) ≡ true
    go true q ih = refl
    go false q ih = ih q

-- ---- by places

-- what is true of the places of a list and of one number more
place-last : (l : List ℕ) (x : ℕ) → get_or (l ++ (x ∷ [])) (length l) 0 ≡ x
place-last [] x = refl
place-last (y ∷ ys) x = place-last ys x

pub at_place : (P : ℕ → Type 0) (l : List ℕ) (x k : ℕ) → k < length (l ++ (x ∷ [])) → (k < length l → P (get_or l k 0)) → P x → P (get_or (l ++ (x ∷ [])) k 0)
at_place P l x k on f here = go (dec_lt k (length l))
  where
    go : Dec (k < length l) → P (get_or (l ++ (x ∷ [])) k 0)
    go (yes q) = subst P (sym (get_or-append l (x ∷ []) 0 k q)) (f q)
    go (no nq) = let e : k ≡ length l = omega (arith, length-append l (x ∷ [])) in subst P (sym (ap (λ (j : ℕ). get_or (l ++ (x ∷ [])) j 0) e ∙ place-last l x)) here

-- what stands in a list stands at a place
has_some : (l : List ℕ) (x : ℕ) → has l x ≡ true → ((j : ℕ) → j < length l → get_or l j 0 ≡ x → ⊥) → ⊥
unfolding has
has_some [] x h un = let z : ◌≡◌ {A = ℕ} 0 1 = ap (λ (b : Bool). cond b 1 0) h in omega arith
has_some (y ∷ ys) x h un = has_some ys x (later (ne_eqb x y (λ e. un 0 (omega arith) (sym e)))) (λ j q e. un (suc j) (omega arith) e)
  where
    later : eqb x y ≡ false → has ys x ≡ true
    later e = rw e at h

pub has-found : (l : List ℕ) (x : ℕ) (b : Bool) → has l x ≡ true → ((j : ℕ) → j < length l → get_or l j 0 ≡ x → b ≡ true) → b ≡ true
has-found l x true h f = refl
has-found l x false h f = absurd (has_some l x h (λ j q e. let z : ◌≡◌ {A = ℕ} 0 1 = ap (λ (b : Bool). cond b 1 0) (f j q e) in omega arith))

-- and before place k where it stands at no place from there on
pub has-early : (l : List ℕ) (k x : ℕ) → has l x ≡ true → ((j : ℕ) → k ≤ j → j < length l → get_or l j 0 ≡ x → ⊥) → has (take k l) x ≡ true
unfolding has
has-early l zero x h un = absurd (has_some l x h (λ j q e. un j (omega arith) q e))
has-early [] (suc k) x h un = h
has-early (y ∷ ys) (suc k) x h un = go (eqb x y) h (λ g. has-early ys k x g (λ j a b e. un (suc j) (omega arith) (omega arith) e))
  where
    go : (b : Bool) → (b || has ys x) ≡ true → (has ys x ≡ true → has (take k ys) x ≡ true) → (b || has (take k ys) x) ≡ true
    go true q ih = refl
    go false q ih = ih q
