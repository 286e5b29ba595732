-- A list read from its end.
use Prim.Native.Nat.{ℕ, suc, ◌+◌, ◌-◌, ◌≤◌, ◌<◌}
use native.Mathlib.Nat.{not-suc-le-zero}
use native.Mathlib.Omega.{arith}
use native.Mathlib.Decide.{ℕ_discrete}
use mathlib.Core.Path.{◌≡◌, ap, sym, ◌∙◌}
use mathlib.Core.List.{List, [], ◌∷◌, ◌++◌, reverse, reverse-cons}
use lib.ListN.{length, get_or, length-reverse, get_or-append, get_or-eq_default}
use lib.Seq.{get_or-append-add}

-- at place i from its end
pub from_end : (l : List ℕ) (i : ℕ) → i < length l → get_or (reverse l) i 0 ≡ get_or l (length l - 1 - i) 0
from_end [] i q = absurd (not-suc-le-zero q)
from_end (x ∷ xs) i q = ap (λ (r : List ℕ). get_or r i 0) (reverse-cons x xs) ∙ go (from_end xs i) (ℕ_discrete i (length xs))
  where
    go : (i < length xs → get_or (reverse xs) i 0 ≡ get_or xs (length xs - 1 - i) 0) → Dec (i ≡ length xs) → get_or (reverse xs ++ (x ∷ [])) i 0 ≡ get_or (x ∷ xs) (length (x ∷ xs) - 1 - i) 0
    go ih (yes e) =
        let k : i ≡ length (reverse xs) + 0 = omega (arith, length-reverse xs) in
        let z : length (x ∷ xs) - 1 - i ≡ 0 = omega arith in
        ap (λ (j : ℕ). get_or (reverse xs ++ (x ∷ [])) j 0) k ∙ get_or-append-add (reverse xs) (x ∷ []) 0 0 ∙ ap (λ (j : ℕ). get_or (x ∷ xs) j 0) (sym z)
    go ih (no ne) =
        let z : length (x ∷ xs) - 1 - i ≡ suc (length xs - 1 - i) = omega arith in
        get_or-append (reverse xs) (x ∷ []) 0 i (omega (arith, length-reverse xs)) ∙ ih (omega arith) ∙ ap (λ (j : ℕ). get_or (x ∷ xs) j 0) (sym z)

-- past its first place stands 0
pub past_first : (l : List ℕ) (i : ℕ) → length l ≤ i → get_or (reverse l) i 0 ≡ 0
past_first l i q = get_or-eq_default (reverse l) 0 (omega (arith, length-reverse l))
