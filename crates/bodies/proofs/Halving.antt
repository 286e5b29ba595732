-- A number found by halving among numbers that rise: what lies below and above is known at each turn. One law for keys and for pairs of ends.
use Prim.Native.Nat.{ℕ, zero, suc, ◌+◌, ◌≤◌, ◌<◌, zero-le, suc-le-suc}
use native.Mathlib.Omega.{arith}
use native.Mathlib.Decide.{dec_lt, ℕ_discrete}
use mathlib.Core.Path.{◌≡◌, refl, sym, subst}
use mathlib.Core.Bool.{Bool}
use mathlib.Core.List.{List, [], ◌∷◌}
use lib.ListN.{length, get_or}
use lib.Dec.{eqb}
use borrow.Author.Tests.{eq-eqb, ne_eqb}
use Rattle.rules.specs.Table.{Table, first_row}
use Rattle.rules.proofs.Scan.{none_passes, first_passes}

-- f rises below n
abbrev pub Rises : (ℕ → ℕ) → ℕ → Type 0
Rises f n = (i : ℕ) → i + 1 < n → f i < f (i + 1)

pub rises-far : (f : ℕ → ℕ) (n : ℕ) → Rises f n → (i j : ℕ) → i < j → j < n → f i < f j
rises-far f n h i zero a b = let z : ⊥ = omega arith in absurd z
rises-far f n h i (suc j) a b = go (ℕ_discrete i j) (λ q. rises-far f n h i j q (omega arith))
  where
    next : f j < f (suc j)
    next = subst (λ (k : ℕ). f j < f k) (let e : j + 1 ≡ suc j = omega arith in e) (h j (omega arith))

    go : Dec (i ≡ j) → (i < j → f i < f j) → f i < f (suc j)
    go (yes e) far = subst (λ (k : ℕ). f k < f (suc j)) (sym e) next
    go (no ne) far = omega (arith, far (omega arith), next)

-- k can only be from low on, below high
pub record Between (f : ℕ → ℕ) (n k low high : ℕ) : Type 0 where
  pub in_order : low ≤ high
  pub within : high ≤ n
  pub before : (i : ℕ) → i < low → f i < k
  pub behind : (i : ℕ) → high ≤ i → i < n → k < f i

pub anywhere : (f : ℕ → ℕ) (n k : ℕ) → Between f n k 0 n
anywhere f n k =
    record {
      in_order = omega arith;
      within = omega arith;
      before = λ i l. absurd (let z : ⊥ = omega arith in z);
      behind = λ i a b. absurd (let z : ⊥ = omega arith in z);
    }

module _ (f : ℕ → ℕ) (n k : ℕ) (h : Rises f n) where
  pub upper-half : (low high mid : ℕ) → Between f n k low high → mid < high → f mid < k → Between f n k (mid + 1) high
  upper-half low high mid B l q =
      record {
        in_order = omega arith;
        within = B.within;
        before = λ i a. go i a (ℕ_discrete i mid);
        behind = B.behind;
      }
    where
      go : (i : ℕ) → i < mid + 1 → Dec (i ≡ mid) → f i < k
      go i a (yes e) = subst (λ (j : ℕ). f j < k) (sym e) q
      go i a (no ne) = let z = rises-far f n h i mid (omega arith) (omega (arith, B.within)) in omega arith

  pub lower-half : (low high mid : ℕ) → Between f n k low high → low ≤ mid → mid < high → k < f mid → Between f n k low mid
  lower-half low high mid B a l q =
      record {
        in_order = a;
        within = omega (arith, B.within);
        before = B.before;
        behind = λ i c d. go i c d (ℕ_discrete i mid);
      }
    where
      go : (i : ℕ) → mid ≤ i → i < n → Dec (i ≡ mid) → k < f i
      go i c d (yes e) = subst (λ (j : ℕ). k < f j) (sym e) q
      go i c d (no ne) = let z = rises-far f n h mid i (omega arith) d in omega arith

  pub nowhere-there : (low high : ℕ) → Between f n k low high → high ≤ low → (i : ℕ) → i < n → f i ≡ k → ⊥
  nowhere-there low high B c i l e = go (dec_lt i low)
    where
      go : Dec (i < low) → ⊥
      go (yes a) = omega (arith, B.before i a)
      go (no a) = omega (arith, B.behind i (omega arith) l)

-- the first row with a number, in a table whose numbers rise
module _ (g : List ℕ → ℕ) (rows : Table) (k : ℕ) (h : Rises (λ i. g (get_or rows i [])) (length rows)) where
  pub found-there : (i : ℕ) → i < length rows → g (get_or rows i []) ≡ k → i + 1 ≡ first_row (λ r. eqb (g r) k) rows
  found-there i l e =
      let first : first_row (λ r. eqb (g r) k) rows ≡ suc i =
      first_passes (λ r. eqb (g r) k) rows [] i l
      (λ j q. ne_eqb (g (get_or rows j [])) k (λ d. omega (arith, rises-far (λ i. g (get_or rows i [])) (length rows) h j i q l)))
      (eq-eqb (g (get_or rows i [])) k e) in
      omega (arith, first)

  pub found_nowhere : ((i : ℕ) → i < length rows → g (get_or rows i []) ≡ k → ⊥) → 0 ≡ first_row (λ r. eqb (g r) k) rows
  found_nowhere none = sym (none_passes (λ r. eqb (g r) k) rows [] (λ j l. ne_eqb (g (get_or rows j [])) k (none j l)))

-- two tests that agree on every row find the same
pub first-same : (p q : List ℕ → Bool) (rows : Table) → ((i : ℕ) → i < length rows → p (get_or rows i []) ≡ q (get_or rows i []))
    → first_row p rows ≡ first_row q rows
unfolding first_row
first-same p q [] h = refl
first-same p q (r ∷ rs) h =
    rw (h 0 (suc-le-suc zero-le), first-same p q rs (λ i l. h (suc i) (suc-le-suc l)))
