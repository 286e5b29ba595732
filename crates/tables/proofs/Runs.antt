-- Runs of rows, over any property of a row number: runs put together, the tests of a block put together, and what is kept over a run.
use Prim.Native.Nat.{ℕ, ◌+◌, ◌≤◌, ◌<◌}
use native.Mathlib.Nat.{le_refl}
use native.Mathlib.Decide.{le_ind, dec_lt}
use native.Mathlib.Numerals.{add-one}
use native.Mathlib.Omega.{arith}
use mathlib.Core.Path.{◌≡◌, refl, subst}
use mathlib.Core.Bool.{Bool, true, false, ◌&&◌, false≢true}

-- two tests that pass together pass each
pub both : (a b : Bool) → (a && b) ≡ true → (a ≡ true) × (b ≡ true)
both true b e = (refl, e)
both false b e = absurd (false≢true e)

-- the rows from i up to r have the property
abbrev pub Run : (ℕ → Type 0) → ℕ → ℕ → Type 0
Run P i r = (j : ℕ) → i ≤ j → j < r → P j

module _ (P : ℕ → Type 0) where
  -- a run of no rows
  pub no_rows : (i r : ℕ) → r ≤ i → Run P i r
  no_rows i r l j a b = let z : ⊥ = omega arith in absurd z

  -- a run of one row
  pub one-row : (i : ℕ) → P i → Run P i (i + 1)
  one-row i h j a b = let q : i ≡ j = omega arith in subst P q h

  -- one run after another
  pub join_runs : (i m r : ℕ) → Run P i m → Run P m r → Run P i r
  join_runs i m r h s j a b = go (dec_lt j m)
    where
      go : Dec (j < m) → P j
      go (yes l) = h j a l
      go (no l) = s j (omega arith) b

  -- the row after a run of k rows
  pub row-after : (i k : ℕ) → Run P i (i + k) → P (i + k) → Run P i (i + (k + 1))
  row-after i k h s =
      let q : i + k + 1 ≡ i + (k + 1) = omega arith in
      subst (λ (r : ℕ). Run P i r) q (join_runs i (i + k) (i + k + 1) h (one-row (i + k) s))

  -- u tells of the k rows gone through, v of the next
  pub one_more : (i k : ℕ) (u v : Bool) → (u ≡ true → Run P i (i + k)) → (v ≡ true → P (i + k)) → (u && v) ≡ true → Run P i (i + (k + 1))
  one_more i k u v h s e = let b = both u v e in row-after i k (h b.0) (s b.1)

  -- k rows gone through, and no fewer than a block has
  pub block-of-eight : (i k : ℕ) → k ≤ 8 → 8 ≤ k → Run P i (i + k) → Run P i (i + 8)
  block-of-eight i k a b h = let q : k ≡ 8 = omega arith in subst (λ (n : ℕ). Run P i (i + n)) q h

-- what is kept from row to row is kept over a run
pub over-run : (P : ℕ → Type 0) (i r : ℕ) → i ≤ r → ((k : ℕ) → i ≤ k → k < r → P k → P (k + 1)) → P i → P r
over-run P i r l s h =
    le_ind (λ (k : ℕ). k ≤ r → P k) (λ q. h) (λ k a f q. subst P (add-one k) (s k a q (f (omega arith)))) r l (le_refl r)
