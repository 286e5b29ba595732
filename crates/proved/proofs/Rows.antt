-- A table's rows by their links: a used row lies in the table, and a test of each used row is a fact about each.
use Prim.Native.Nat.{ℕ, zero, suc, ◌+◌, ◌-◌, ◌≤◌, ◌<◌, zero-le, suc-le-suc}
use native.Mathlib.Nat.{le_of_suc-le-suc, not-suc-le-zero}
use native.Mathlib.Omega.{arith}
use native.Mathlib.Decide.{dec_le}
use mathlib.Core.Path.{◌≡◌, refl, ap, sym, subst, ◌∙◌}
use mathlib.Core.Bool.{Bool, true, false, not, ◌||◌}
use mathlib.Core.List.{List, [], ◌∷◌}
use lib.ListN.{length, get_or, get_or-eq_default}
use lib.Dec.{T, eqb, eqb→eq, eqb_refl, T_not, not_T}
use lib.Ieee.Fits.{and_l, and_r, and_i}
use borrow.Author.Tests.{ne_eqb}
use Rattle.rules.specs.Table.{Table, cell, every, all_below, each_link, each_used, there, used}
use Rattle.rules.proofs.Sums.{all-at}

-- ---- tests

pub T_true : (b : Bool) → T b → b ≡ true
T_true true h = refl
T_true false h = absurd h

pub true-T : {b : Bool} → b ≡ true → T b
true-T e = subst T (sym e) tt

pub T_false : (b : Bool) → T (not b) → b ≡ false
T_false true h = absurd h
T_false false h = refl

-- a number is not another, as a test and as a fact
pub differ : (a b : ℕ) → T (not (eqb a b)) → a ≡ b → ⊥
differ a b h e = T_not (eqb a b) h (subst (λ (z : ℕ). T (eqb a z)) e (eqb_refl a))

pub differ-T : (a b : ℕ) → (a ≡ b → ⊥) → T (not (eqb a b))
differ-T a b h = not_T (eqb a b) (λ t. h (eqb→eq a b t))

pub same-T : (a b : ℕ) → a ≡ b → T (eqb a b)
same-T a b e = subst (λ (z : ℕ). T (eqb a z)) e (eqb_refl a)

-- what is asked of a used row alone
pub if-so : (a b : Bool) → T (not a || b) → T a → T b
if-so true b h t = h
if-so false b h t = absurd t

pub so-if : (a b : Bool) → (T a → T b) → T (not a || b)
so-if true b h = h tt
so-if false b h = tt

-- all below n, from each
pub all_from : (p : ℕ → Bool) (n : ℕ) → ((k : ℕ) → k < n → T (p k)) → T (all_below p n)
unfolding all_below
all_from p zero h = tt
all_from p (suc n) h = and_i (all_below p n) (p n) (all_from p n (λ k l. h k (omega arith))) (h n (omega arith))

-- ---- cells

pub row-link : (k : ℕ) → k + 1 - 1 ≡ k
row-link k = omega arith

pub link_row : (l : ℕ) → 1 ≤ l → l - 1 + 1 ≡ l
link_row l h = omega arith

pub cell-none : (t : Table) (c : ℕ) → cell t 0 c ≡ 0
unfolding cell
cell-none t c = refl

pub cell_row : (t : Table) (k c : ℕ) → cell t (k + 1) c ≡ get_or (get_or t k []) c 0
unfolding cell
cell_row t k c = rw (ne_eqb (k + 1) 0 (λ e. omega arith), row-link k)

pub cell-past : (t : Table) (l c : ℕ) → length t < l → cell t l c ≡ 0
cell-past t l c h =
    let k : ℕ = l - 1 in
    let e : k + 1 ≡ l = omega arith in
    let q : length t ≤ k = omega arith in
    ap (λ (z : ℕ). cell t z c) (sym e) ∙ cell_row t k c ∙ ap (λ (r : List ℕ). get_or r c 0) (get_or-eq_default t [] q)

-- the row k is used exactly if the link k + 1 is there
pub there-row : (t : Table) (k : ℕ) → there t (k + 1) ≡ used (get_or t k [])
there-row t k = ap (λ (n : ℕ). not (eqb n 0)) (cell_row t k 0)

-- a used row lies in the table
pub in_table : (t : Table) (l : ℕ) → T (there t l) → (1 ≤ l) × (l ≤ length t)
in_table t zero h = absurd (differ (cell t 0 0) 0 h (cell-none t 0))
in_table t (suc k) h = go (dec_le (suc k) (length t))
  where
    go : Dec (suc k ≤ length t) → (1 ≤ suc k) × (suc k ≤ length t)
    go (yes l) = (suc-le-suc zero-le, l)
    go (no n) = absurd (differ (cell t (suc k) 0) 0 h (cell-past t (suc k) 0 (omega arith)))

-- ---- each row

module _ {ℓ} {A : Type ℓ} (p : ℕ → Bool) (t : List A) where
  pub link_at : T (each_link p t) → (l : ℕ) → 1 ≤ l → l ≤ length t → T (p l)
  link_at h l a b = subst (λ (z : ℕ). T (p z)) (link_row l a) (all-at (λ i. p (i + 1)) (length t) h (l - 1) (omega arith))

  pub link-all : ((l : ℕ) → 1 ≤ l → l ≤ length t → T (p l)) → T (each_link p t)
  link-all h = all_from (λ i. p (i + 1)) (length t) (λ k l. h (k + 1) (omega arith) (omega arith))

module _ (p : ℕ → Bool) (t : Table) where
  pub used-at : T (each_used p t) → (l : ℕ) → T (there t l) → T (p l)
  used-at h l u =
      let b = in_table t l u in
      if-so (there t l) (p l) (link_at (λ z. not (there t z) || p z) t h l b.0 b.1) u

  pub used_all : ((l : ℕ) → T (there t l) → T (p l)) → T (each_used p t)
  used_all h = link-all (λ z. not (there t z) || p z) t (λ l a b. so-if (there t l) (p l) (h l))

-- each row, by its place
pub every-at {ℓ} : {A : Type ℓ} (p : A → Bool) (xs : List A) (d : A) → T (every p xs) → (k : ℕ) → k < length xs → T (p (get_or xs k d))
unfolding every
every-at p [] d h k l = absurd (not-suc-le-zero l)
every-at p (x ∷ xs) d h zero l = and_l (p x) (every p xs) h
every-at p (x ∷ xs) d h (suc k) l = every-at p xs d (and_r (p x) (every p xs) h) k (le_of_suc-le-suc l)
