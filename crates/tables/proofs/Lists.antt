-- Loops over a list with one store a turn, from the front: what is copied, and what is filled. One law for any element type.
use mathlib.Core.Path.{◌≡◌, refl, ap, ◌∙◌}
use mathlib.Core.List.{List, [], ◌∷◌, ◌++◌, append-nil}
use Prim.Native.Nat.{ℕ, zero, suc, ◌+◌, ◌≤◌, ◌<◌, min}
use native.Mathlib.Nat.{not-suc-le-zero, le_of_suc-le-suc}
use native.Mathlib.Numerals.{add-one}
use native.Mathlib.Decide.{dec_le}
use native.Mathlib.Omega.{arith}
use lib.ListN.{length, set, get_or, take, drop, replicate, drop_of_length-le}
use lib.Seq.{take_all}
use Rattle.tables.specs.Sets.{over}

module _ {A : Type 0} where
  -- s over the first n places of d
  abbrev pub upto : List A → ℕ → List A → List A
  upto s n d = take n s ++ drop n d

  upto-suc : (n : ℕ) (s d : List A) (z : A) → n < length d → n < length s → set (upto s n d) n (get_or s n z) ≡ upto s (suc n) d
  upto-suc n s [] z h k = absurd (not-suc-le-zero h)
  upto-suc n [] (x ∷ d) z h k = absurd (not-suc-le-zero k)
  upto-suc zero (y ∷ s) (x ∷ d) z h k = refl
  upto-suc (suc n) (y ∷ s) (x ∷ d) z h k = ap (λ (t : List A). y ∷ t) (upto-suc n s d z (le_of_suc-le-suc h) (le_of_suc-le-suc k))

  pub upto-more : (n : ℕ) (s d : List A) (z : A) → n < length d → n < length s → set (upto s n d) n (get_or s n z) ≡ upto s (n + 1) d
  upto-more n s d z h k = rw add-one (upto-suc n s d z h k)

  -- the lesser of the two lengths is as far as it goes
  pub upto_all : (n : ℕ) (s d : List A) → n ≡ min (length d) (length s) → upto s n d ≡ over s d
  unfolding over
  upto_all n s d e = go (dec_le (length s) (length d))
    where
      go : Dec (length s ≤ length d) → upto s n d ≡ take (length d) s ++ drop (length s) d
      go (yes l) =
          let k : n ≡ length s = omega arith in
          let h : length s ≤ n = omega arith in
          rw (take_all n s h, take_all (length d) s l, k)
      go (no l) =
          let k : n ≡ length d = omega arith in
          let h : length d ≤ n = omega arith in
          let m : length d ≤ length s = omega arith in
          rw (drop_of_length-le d h, drop_of_length-le d m, k)

  -- v in the first n places of d
  abbrev pub fill : A → ℕ → List A → List A
  fill v n d = replicate n v ++ drop n d

  fill_suc : (n : ℕ) (v : A) (d : List A) → n < length d → set (fill v n d) n v ≡ fill v (suc n) d
  fill_suc n v [] l = absurd (not-suc-le-zero l)
  fill_suc zero v (x ∷ d) l = refl
  fill_suc (suc n) v (x ∷ d) l = ap (λ (t : List A). v ∷ t) (fill_suc n v d (le_of_suc-le-suc l))

  pub fill_more : (n : ℕ) (v : A) (d : List A) → n < length d → set (fill v n d) n v ≡ fill v (n + 1) d
  fill_more n v d h = rw add-one (fill_suc n v d h)

  pub fill-all : (n : ℕ) (v : A) (d : List A) → n ≤ length d → length d ≤ n → fill v n d ≡ replicate (length d) v
  fill-all n v d h k = let e : n ≡ length d = omega arith in rw (drop_of_length-le d k, append-nil, e)

  -- ---- what a copy leaves, for its callers

  -- a source that is as long as the target, or longer: its first rows are the target
  pub over-back : (s d : List A) → length d ≤ length s → over s d ≡ take (length d) s
  unfolding over
  over-back s d h = rw (drop_of_length-le d h, append-nil)

  pub over-same : (s d : List A) → length s ≡ length d → over s d ≡ s
  over-same s d e = over-back s d (omega arith) ∙ take_all (length d) s (omega arith)

  -- what stands there already need not be put there
  pub fill-same : (n : ℕ) (v z : A) (d : List A) → n ≤ length d → ((k : ℕ) → k < n → get_or d k z ≡ v) → d ≡ fill v n d
  fill-same zero v z d l h = refl
  fill-same (suc n) v z [] l h = absurd (not-suc-le-zero l)
  fill-same (suc n) v z (x ∷ d) l h =
      let first : x ≡ v = h 0 (omega arith) in
      let rest : d ≡ fill v n d = fill-same n v z d (le_of_suc-le-suc l) (λ k q. h (suc k) (omega arith)) in
      λ i. first i ∷ rest i
