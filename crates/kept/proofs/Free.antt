-- The lowest unused row of a table that has one: it lies in the table and is unused; a record put there leaves the other rows as they
-- are and one unused row fewer.
use Prim.Native.Nat.{ℕ, ◌+◌, suc, ◌-◌, ◌≤◌, ◌<◌}
use native.Mathlib.Omega.{arith}
use mathlib.Core.Path.{◌≡◌, ap, sym, subst, ◌∙◌}
use mathlib.Core.Bool.{Bool, true, false, not, cond}
use mathlib.Core.List.{List, []}
use mathlib.Core.Logic.{◌⊎◌, inl, inr}
use native.Mathlib.Decide.{ℕ_discrete}
use lib.ListN.{length, get_or}
use lib.Dec.{T, eqb, leb}
use borrow.Author.Tests.{ne_eqb, le-leb, eqb-true}
use Rattle.rules.specs.Table.{Table, cell, put_row, there, unused, used, first_row, row_limit, free_row, count, sum_below}
use Rattle.rules.specs.Mesh.{key_at}
use Rattle.rules.proofs.Scan.{first-le}
use Rattle.rules.proofs.Sums.{sum-ext, count-sum}
use Rattle.rules.proofs.Counts.{bit, count_set, count-found, found-passes}
use Rattle.proved.specs.Facts.{KeysDiffer, KeysBelow, UnusedZero}
use Rattle.proved.proofs.Rows.{cell_row, T_false, differ, differ-T, in_table}
use Rattle.kept.specs.Frame.{Took}
use Rattle.kept.proofs.Cells.{cell-some, put_row-here, put_row-other, put_row-rows}

-- ---- the free row

module _ (t : Table) (s : length t ≤ 16384) (h : 1 ≤ count unused t) where
  free-is : free_row t ≡ first_row unused t
  unfolding free_row
  free-is = rw (le-leb (length t) 16384 s)

  pub free-some : 1 ≤ free_row t
  free-some = rw free-is (count-found unused t h)

  pub free-within : free_row t ≤ length t
  free-within = rw free-is (first-le unused t)

  pub free-unused : unused (get_or t (free_row t - 1) []) ≡ true
  free-unused = rw free-is (found-passes unused t [] (count-found unused t h))

  pub free-zero : cell t (free_row t) 0 ≡ 0
  free-zero = cell-some t (free_row t) 0 free-some ∙ eqb-true _ 0 free-unused

  free-fewer : (r : List ℕ) → T (used r) → suc (count unused (put_row t (free_row t) r)) ≡ count unused t
  unfolding put_row
  free-fewer r u =
      rw (ne_eqb (free_row t) 0 (λ e. omega (arith, free-some)))
      (omega (arith, count_set unused t (free_row t - 1) r [] (omega (arith, free-some, free-within)), ap bit free-unused, ap bit (T_false (unused r) u)))

  -- a record put there
  pub took : (r : List ℕ) → T (used r) → Took t (put_row t (free_row t) r) (free_row t) r
  took r u =
      record {
        some = free-some;
        within = free-within;
        was_free = free-zero;
        row = λ c. put_row-here t (free_row t) r c free-some free-within;
        others = λ k c ne. put_row-other t (free_row t) r k c ne;
        rows = put_row-rows t (free_row t) r;
        fewer = free-fewer r u;
      }

-- whether there is one or not, it is no row in use
pub free-differs : (t : Table) (l : ℕ) → T (there t l) → l ≡ free_row t → ⊥
unfolding free_row
free-differs t l u e = go (leb (length t) row_limit) e
  where
    go : (b : Bool) → l ≡ cond b (first_row unused t) 0 → ⊥
    go true q =
        let first = first_row unused t in
        let w = in_table t l u in
        let zero = eqb-true (get_or (get_or t (first - 1) []) 0 0) 0 (found-passes unused t [] (omega arith)) in
        differ (cell t l 0) 0 u (ap (λ (z : ℕ). cell t z 0) q ∙ cell-some t first 0 (omega arith) ∙ zero)
    go false q = let w = in_table t l u in omega arith

-- ---- rows of a table that took one

module _ {t n : Table} {l : ℕ} {r : List ℕ} (w : Took t n l r) where
  -- the rows in use are the new one and the old ones
  pub new-there : T (used r) → T (there n l)
  new-there u = differ-T (cell n l 0) 0 (λ e. differ (get_or r 0 0) 0 u (sym (w.row 0) ∙ e))

  pub old-differs : (k : ℕ) → T (there t k) → k ≡ l → ⊥
  old-differs k u e = differ (cell t k 0) 0 u (ap (λ (z : ℕ). cell t z 0) e ∙ w.was_free)

  pub old-cell : (k c : ℕ) → T (there t k) → cell n k c ≡ cell t k c
  old-cell k c u = w.others k c (old-differs k u)

  pub old-there : (k : ℕ) → T (there t k) → T (there n k)
  old-there k u = subst (λ (z : ℕ). T (not (eqb z 0))) (sym (old-cell k 0 u)) u

  pub there-cases : (k : ℕ) → T (there n k) → (k ≡ l) ⊎ T (there t k)
  there-cases k u = go (ℕ_discrete k l)
    where
      go : Dec (k ≡ l) → (k ≡ l) ⊎ T (there t k)
      go (yes e) = inl e
      go (no ne) = inr (subst (λ (z : ℕ). T (not (eqb z 0))) (w.others k 0 ne) u)

  -- free rows stay zero
  pub took-zero : T (used r) → UnusedZero t → UnusedZero n
  took-zero u z k c f = go (ℕ_discrete k l)
    where
      go : Dec (k ≡ l) → cell n k c ≡ 0
      go (yes e) = absurd (f (subst (λ (i : ℕ). T (there n i)) (sym e) (new-there u)))
      go (no ne) = w.others k c ne ∙ z k c (λ o. f (old-there k o))

  -- keys stay distinct and below the counter, which goes one up
  pub took-keys-differ : (counter : ℕ) → get_or r 0 0 - 1 ≡ counter → KeysBelow t counter → KeysDiffer t → KeysDiffer n
  took-keys-differ counter q b d j k u v e = go (there-cases j u) (there-cases k v)
    where
      key : (i : ℕ) → i ≡ l → key_at n i ≡ counter
      key i p = ap (key_at n) p ∙ ap (λ (z : ℕ). z - 1) (w.row 0) ∙ q

      old : (i : ℕ) → T (there t i) → key_at n i ≡ key_at t i
      old i o = ap (λ (z : ℕ). z - 1) (old-cell i 0 o)

      go : (j ≡ l) ⊎ T (there t j) → (k ≡ l) ⊎ T (there t k) → j ≡ k
      go (inl x) (inl y) = x ∙ sym y
      go (inl x) (inr y) = let p = b k y in let z : key_at t k ≡ counter = sym (old k y) ∙ sym e ∙ key j x in let f : ⊥ = omega arith in absurd f
      go (inr x) (inl y) = let p = b j x in let z : key_at t j ≡ counter = sym (old j x) ∙ e ∙ key k y in let f : ⊥ = omega arith in absurd f
      go (inr x) (inr y) = d j k x y (sym (old j x) ∙ e ∙ old k y)

  pub took-keys-below : (counter : ℕ) → get_or r 0 0 - 1 ≡ counter → KeysBelow t counter → KeysBelow n (suc counter)
  took-keys-below counter q b k u = go (there-cases k u)
    where
      go : (k ≡ l) ⊎ T (there t k) → key_at n k < suc counter
      go (inl e) = let z : key_at n k ≡ counter = ap (key_at n) e ∙ ap (λ (z : ℕ). z - 1) (w.row 0) ∙ q in omega arith
      go (inr o) = let z : key_at n k ≡ key_at t k = ap (λ (z : ℕ). z - 1) (old-cell k 0 o) in let p = b k o in omega arith

-- ---- as many free rows, where the same rows are free

pub unused-same : (t u : Table) → length t ≡ length u → ((x : ℕ) → cell t x 0 ≡ cell u x 0) → count unused t ≡ count unused u
unused-same t u e h =
    count-sum unused t []
    ∙ ap (sum_below (λ k. bit (unused (get_or t k [])))) e
    ∙ sum-ext (λ k. bit (unused (get_or t k []))) (λ k. bit (unused (get_or u k []))) (length u) (λ k l. ap (λ (z : ℕ). bit (eqb z 0)) (sym (cell_row t k 0) ∙ h (k + 1) ∙ cell_row u k 0))
    ∙ sym (count-sum unused u [])
