-- One write read back: put changes one cell of one row, put_row one row, and neither changes how many rows there are.
use Prim.Native.Nat.{ℕ, ◌-◌, ◌≤◌, ◌<◌}
use native.Mathlib.Omega.{arith}
use native.Mathlib.Decide.{ℕ_discrete, dec_lt}
use mathlib.Core.Path.{◌≡◌, refl, ap, sym, ◌∙◌}
use mathlib.Core.Bool.{Bool, true, false, cond}
use mathlib.Core.List.{List, []}
use mathlib.Core.Logic.{◌⊎◌, inl, inr}
use lib.ListN.{length, get_or, set, length-set, get_or-eq_default}
use lib.Seq.{get_or-set_same, get_or-set_other, set_out}
use lib.Dec.{eqb}
use borrow.Author.Tests.{ne_eqb, eq-eqb}
use Rattle.rules.specs.Table.{Table, cell, put, put_row}
use Rattle.proved.proofs.Rows.{cell-none, cell-past}

-- ---- lengths

set-rows {ℓ} : {A : Type ℓ} (b : Bool) (t : List A) (i : ℕ) (r : A) → length (cond b t (set t i r)) ≡ length t
set-rows true t i r = refl
set-rows false t i r = length-set t i r

pub put-rows : (t : Table) (l c v : ℕ) → length (put t l c v) ≡ length t
unfolding put
put-rows t l c v = set-rows (eqb l 0) t (l - 1) (set (get_or t (l - 1) []) c v)

pub put_row-rows {ℓ} : {A : Type ℓ} (t : List A) (l : ℕ) (r : A) → length (put_row t l r) ≡ length t
unfolding put_row
put_row-rows t l r = set-rows (eqb l 0) t (l - 1) r

-- ---- a whole row

-- by place, for rows of any kind
module _ {ℓ} {A : Type ℓ} (t : List A) (r d : A) where
  pub row_here : (l : ℕ) → 1 ≤ l → l ≤ length t → get_or (put_row t l r) (l - 1) d ≡ r
  unfolding put_row
  row_here l a b = rw (ne_eqb l 0 (λ e. omega arith)) (get_or-set_same t (l - 1) r d (omega arith))

  pub row_other : (l k : ℕ) → 1 ≤ k → (k ≡ l → ⊥) → get_or (put_row t l r) (k - 1) d ≡ get_or t (k - 1) d
  unfolding put_row
  row_other l k a ne = go (ℕ_discrete l 0)
    where
      go : Dec (l ≡ 0) → get_or (cond (eqb l 0) t (set t (l - 1) r)) (k - 1) d ≡ get_or t (k - 1) d
      go (yes e) = rw (eq-eqb l 0 e)
      go (no n) = rw (ne_eqb l 0 n) (get_or-set_other t (l - 1) (k - 1) r d (λ e. ne (omega arith)))

-- a cell of a row that is there to read
pub cell-some : (t : Table) (l c : ℕ) → 1 ≤ l → cell t l c ≡ get_or (get_or t (l - 1) []) c 0
unfolding cell
cell-some t l c a = rw (ne_eqb l 0 (λ e. omega arith))

pub put_row-here : (t : Table) (l : ℕ) (r : List ℕ) (c : ℕ) → 1 ≤ l → l ≤ length t → cell (put_row t l r) l c ≡ get_or r c 0
put_row-here t l r c a b = cell-some (put_row t l r) l c a ∙ ap (λ (z : List ℕ). get_or z c 0) (row_here t r [] l a b)

pub put_row-other : (t : Table) (l : ℕ) (r : List ℕ) (k c : ℕ) → (k ≡ l → ⊥) → cell (put_row t l r) k c ≡ cell t k c
put_row-other t l r k c ne = go (ℕ_discrete k 0)
  where
    go : Dec (k ≡ 0) → cell (put_row t l r) k c ≡ cell t k c
    go (yes e) = rw e (cell-none (put_row t l r) c ∙ sym (cell-none t c))
    go (no n) =
        let a : 1 ≤ k = omega arith in
        cell-some (put_row t l r) k c a ∙ ap (λ (z : List ℕ). get_or z c 0) (row_other t r [] l k a ne) ∙ sym (cell-some t k c a)

-- ---- one cell

-- writing one cell is writing the row with that cell set
put_is : (t : Table) (l c v : ℕ) → put t l c v ≡ put_row t l (set (get_or t (l - 1) []) c v)
unfolding put put_row
put_is t l c v = refl

pub put-other-row : (t : Table) (l c v k d : ℕ) → (k ≡ l → ⊥) → cell (put t l c v) k d ≡ cell t k d
put-other-row t l c v k d ne = rw (put_is t l c v) (put_row-other t l (set (get_or t (l - 1) []) c v) k d ne)

-- in the row itself, where the table has it
put-row : (t : Table) (l c v d : ℕ) → 1 ≤ l → l ≤ length t → cell (put t l c v) l d ≡ get_or (set (get_or t (l - 1) []) c v) d 0
put-row t l c v d a b = rw (put_is t l c v) (put_row-here t l (set (get_or t (l - 1) []) c v) d a b)

-- and past the table nothing changes
put-past : (t : Table) (l c v d : ℕ) → (1 ≤ l → l ≤ length t → ⊥) → cell (put t l c v) l d ≡ cell t l d
put-past t l c v d n = go (ℕ_discrete l 0)
  where
    go : Dec (l ≡ 0) → cell (put t l c v) l d ≡ cell t l d
    go (yes e) = ap (λ (z : ℕ). cell (put t l c v) z d) e ∙ cell-none (put t l c v) d ∙ sym (ap (λ (z : ℕ). cell t z d) e ∙ cell-none t d)
    go (no ne) =
        let q : length t < l = over (dec_lt (length t) l) in
        cell-past (put t l c v) l d (rw (put-rows t l c v) q) ∙ sym (cell-past t l d q)
      where
        over : Dec (length t < l) → length t < l
        over (yes h) = h
        over (no h) = absurd (n (omega arith) (omega arith))

pub put-other-cell : (t : Table) (l c v k d : ℕ) → (d ≡ c → ⊥) → cell (put t l c v) k d ≡ cell t k d
put-other-cell t l c v k d ne = go (ℕ_discrete k l) (dec_lt 0 l) (dec_lt (length t) l)
  where
    go : Dec (k ≡ l) → Dec (0 < l) → Dec (length t < l) → cell (put t l c v) k d ≡ cell t k d
    go (no n) p q = put-other-row t l c v k d n
    go (yes e) (no p) q = rw e (put-past t l c v d (λ a b. p a))
    go (yes e) (yes p) (yes q) = rw e (put-past t l c v d (λ a b. omega arith))
    go (yes e) (yes p) (no q) =
        rw e (put-row t l c v d p (omega arith) ∙ get_or-set_other (get_or t (l - 1) []) c d v 0 ne ∙ sym (cell-some t l d p))

-- a cell that is not 0 stands in a row of the table, and in a row that is wide enough
pub cell-within : (t : Table) (l c : ℕ) → (cell t l c ≡ 0 → ⊥) → (1 ≤ l) × (l ≤ length t) × (c < length (get_or t (l - 1) []))
cell-within t l c n = (some, here, wide)
  where
    some : 1 ≤ l
    some = go (ℕ_discrete l 0)
      where
        go : Dec (l ≡ 0) → 1 ≤ l
        go (yes e) = absurd (n (ap (λ (z : ℕ). cell t z c) e ∙ cell-none t c))
        go (no ne) = omega arith

    here : l ≤ length t
    here = go (dec_lt (length t) l)
      where
        go : Dec (length t < l) → l ≤ length t
        go (yes h) = absurd (n (cell-past t l c h))
        go (no h) = omega arith

    wide : c < length (get_or t (l - 1) [])
    wide = go (dec_lt c (length (get_or t (l - 1) [])))
      where
        go : Dec (c < length (get_or t (l - 1) [])) → c < length (get_or t (l - 1) [])
        go (yes h) = h
        go (no h) = absurd (n (cell-some t l c some ∙ get_or-eq_default (get_or t (l - 1) []) 0 (omega arith)))

-- a write into a row that is wide enough is read back; so is one up to a cell that is not 0
pub put-wide : (t : Table) (l c v : ℕ) → 1 ≤ l → l ≤ length t → c < length (get_or t (l - 1) []) → cell (put t l c v) l c ≡ v
put-wide t l c v a b h = put-row t l c v c a b ∙ get_or-set_same (get_or t (l - 1) []) c v 0 h

pub put-here : (t : Table) (l c v d : ℕ) → (cell t l d ≡ 0 → ⊥) → c ≤ d → cell (put t l c v) l c ≡ v
put-here t l c v d n h = let w = cell-within t l d n in put-wide t l c v w.0 w.1 (omega (arith, w.2))

-- and the other rows are as wide as they were
pub put-width : (t : Table) (l c v k : ℕ) → 1 ≤ k → (k ≡ l → ⊥) → get_or (put t l c v) (k - 1) [] ≡ get_or t (k - 1) []
put-width t l c v k a ne = rw (put_is t l c v) (row_other t (set (get_or t (l - 1) []) c v) [] l k a ne)

-- a cell after a write is the one written, or as it was: for every table and link
pub put-either : (t : Table) (l c v k d : ℕ) → ((k ≡ l) × (d ≡ c) × (cell (put t l c v) k d ≡ v)) ⊎ (cell (put t l c v) k d ≡ cell t k d)
put-either t l c v k d = go (ℕ_discrete k l) (ℕ_discrete d c) (dec_lt 0 l) (dec_lt (length t) l) (dec_lt c (length (get_or t (l - 1) [])))
  where
    go : Dec (k ≡ l) → Dec (d ≡ c) → Dec (0 < l) → Dec (length t < l) → Dec (c < length (get_or t (l - 1) [])) → ((k ≡ l) × (d ≡ c) × (cell (put t l c v) k d ≡ v)) ⊎ (cell (put t l c v) k d ≡ cell t k d)
    go (no n) q x y z = inr (put-other-row t l c v k d n)
    go (yes e) (no n) x y z = inr (put-other-cell t l c v k d n)
    go (yes e) (yes q) (no x) y z = inr (rw e (put-past t l c v d (λ a b. x a)))
    go (yes e) (yes q) (yes x) (yes y) z = inr (rw e (put-past t l c v d (λ a b. omega arith)))
    go (yes e) (yes q) (yes x) (no y) (yes z) =
        inl (e, q, rw (e, q) (put-row t l c v c x (omega arith) ∙ get_or-set_same (get_or t (l - 1) []) c v 0 z))
    go (yes e) (yes q) (yes x) (no y) (no z) =
        inr (rw e (put-row t l c v d x (omega arith) ∙ ap (λ (r : List ℕ). get_or r d 0) (set_out (get_or t (l - 1) []) c v (omega arith)) ∙ sym (cell-some t l d x)))
