-- A list of at most 64 links as the code holds it: what is read at a place, and the list read back.
use Prim.Native.Nat.{ℕ, zero, suc, ◌≤◌, ◌<◌}
use native.Mathlib.Nat.{le_of_suc-le-suc, not-suc-le-zero}
use native.Mathlib.Omega.{arith}
use native.Mathlib.Decide.{dec_lt}
use mathlib.Core.Path.{◌≡◌, refl, ap, sym, ◌∙◌}
use mathlib.Core.List.{List, [], ◌∷◌, ◌++◌}
use lib.ListN.{length, get_or, take, replicate, length-append, length-replicate, length-take, get_or-eq_default}
use lib.Seq.{get_or-take}
use Rattle.rules.specs.Mesh.{places_of, links_of, list_of}

-- past the end of a list of zeros, as on it, stands 0
zeros : (n i : ℕ) → ◌≡◌ {A = ℕ} (get_or (replicate n 0) i 0) 0
zeros zero i = refl
zeros (suc n) zero = refl
zeros (suc n) (suc i) = zeros n i

padded : (l : List ℕ) (n i : ℕ) → get_or (l ++ replicate n 0) i 0 ≡ get_or l i 0
padded [] n i = zeros n i
padded (x ∷ xs) n zero = refl
padded (x ∷ xs) n (suc i) = padded xs n i

-- a list that is not longer than its places is read at every place as it is
pub place_is : (l : List ℕ) → length l ≤ 64 → (i : ℕ) → get_or (places_of l) i 0 ≡ get_or l i 0
unfolding places_of
place_is l h i = go (dec_lt i 64)
  where
    go : Dec (i < 64) → get_or (take 64 (l ++ replicate 64 0)) i 0 ≡ get_or l i 0
    go (yes q) = get_or-take 64 (l ++ replicate 64 0) i 0 q ∙ padded l 64 i
    go (no nq) =
        get_or-eq_default (take 64 (l ++ replicate 64 0)) 0 (omega (arith, length-take 64 (l ++ replicate 64 0)))
        ∙ sym (get_or-eq_default l 0 (omega arith))

pub places-length : (l : List ℕ) → length (places_of l) ≡ 64
unfolding places_of
places-length l = omega (arith, length-take 64 (l ++ replicate 64 0), length-append l (replicate 64 0), length-replicate 64 (zero))

take_same : (l m : List ℕ) → take (length l) (l ++ m) ≡ l
take_same [] m = refl
take_same (x ∷ xs) m = ap {B = List ℕ} (λ r. x ∷ r) (take_same xs m)

take-take : (l : List ℕ) (n m : ℕ) → n ≤ m → take n (take m l) ≡ take n l
take-take l zero m h = refl
take-take [] (suc n) zero h = refl
take-take [] (suc n) (suc m) h = refl
take-take (x ∷ xs) (suc n) zero h = absurd (not-suc-le-zero h)
take-take (x ∷ xs) (suc n) (suc m) h = ap {B = List ℕ} (λ r. x ∷ r) (take-take xs n m (le_of_suc-le-suc h))

pub list_back : (l : List ℕ) → length l ≤ 64 → list_of (links_of l) ≡ l
unfolding list_of links_of places_of
list_back l h = take-take (l ++ replicate 64 0) (length l) 64 h ∙ take_same l (replicate 64 0)
