-- Lookups that found something: a key's row has that key, and an arc between two vertices joins them.
use Prim.Native.Nat.{ℕ, ◌+◌, ◌-◌, ◌≤◌}
use native.Mathlib.Omega.{arith}
use native.Mathlib.Decide.{ℕ_discrete}
use mathlib.Core.Path.{◌≡◌, refl, ap, sym, subst, ◌∙◌}
use mathlib.Core.Bool.{Bool, true, false, cond}
use mathlib.Core.List.{[]}
use lib.ListN.{length, get_or}
use lib.Dec.{T, eqb, leb, eqb→eq}
use lib.Ieee.Fits.{and_l, and_r, and_i}
use borrow.Author.Tests.{ne_eqb, eq-eqb, le-leb}
use Rattle.rules.specs.Table.{Table, cell, there, used, first_row, row_limit}
use Rattle.rules.specs.Mesh.{key_of, key_at, keyed, find_key, joins, arc_between}
use Rattle.rules.proofs.Counts.{count-found, found-passes}
use Rattle.proved.proofs.Rows.{true-T, same-T, differ, differ-T, cell_row, there-row, link_row, in_table}
use Rattle.proved.proofs.Keys.{some-passes}
use Rattle.kept.proofs.Cells.{cell-some}

-- ---- by key

abbrev pub FoundKey : Table → ℕ → ℕ → Type 0
FoundKey t k l = T (there t l) × (key_at t l ≡ k)

module _ (t : Table) (k : ℕ) where
  row-keyed : (i : ℕ) → T (keyed k (get_or t i [])) → FoundKey t k (i + 1)
  row-keyed i h =
      let r = get_or t i [] in
      (subst T (sym (there-row t i)) (and_l (used r) (eqb (key_of r) k) h), ap (λ (z : ℕ). z - 1) (cell_row t i 0) ∙ eqb→eq (key_of r) k (and_r (used r) (eqb (key_of r) k) h))

  pub find-back : (find_key t k ≡ 0 → ⊥) → FoundKey t k (find_key t k)
  unfolding find_key
  find-back n = go (leb (length t) row_limit) (keyed k (get_or t k [])) refl n
    where
      first : (first_row (keyed k) t ≡ 0 → ⊥) → FoundKey t k (first_row (keyed k) t)
      first ne =
          let some : 1 ≤ first_row (keyed k) t = omega arith in
          subst (FoundKey t k) (link_row (first_row (keyed k) t) some) (row-keyed (first_row (keyed k) t - 1) (true-T (found-passes (keyed k) t [] some)))

      go : (a b : Bool) → keyed k (get_or t k []) ≡ b → (cond a (cond b (k + 1) (first_row (keyed k) t)) 0 ≡ 0 → ⊥) → FoundKey t k (cond a (cond b (k + 1) (first_row (keyed k) t)) 0)
      go true true e ne = row-keyed k (true-T e)
      go true false e ne = first ne
      go false b e ne = absurd (ne refl)

-- ---- by ends

-- the arc x of a table joins a and b
pub record Between (t : Table) (a b x : ℕ) : Type 0 where
  pub exists : T (there t x)
  pub leaves : cell t x 0 ≡ a
  pub arrives : cell t x 1 ≡ b

module _ (t : Table) (a b : ℕ) where
  -- an arc that is found joins them
  pub arc-back : (arc_between t a b ≡ 0 → ⊥) → Between t a b (arc_between t a b)
  unfolding arc_between
  arc-back n = go (ℕ_discrete a 0) (leb (length t) row_limit) n
    where
      at : (i : ℕ) → (a ≡ 0 → ⊥) → T (joins a b (get_or t i [])) → Between t a b (i + 1)
      at i na h =
          let r = get_or t i [] in
          let p : cell t (i + 1) 0 ≡ a = cell_row t i 0 ∙ eqb→eq (get_or r 0 0) a (and_l (eqb (get_or r 0 0) a) (eqb (get_or r 1 0) b) h) in
          record { exists = differ-T (cell t (i + 1) 0) 0 (λ e. na (sym p ∙ e)); leaves = p; arrives = cell_row t i 1 ∙ eqb→eq (get_or r 1 0) b (and_r (eqb (get_or r 0 0) a) (eqb (get_or r 1 0) b) h) }

      found : (c : Bool) → (a ≡ 0 → ⊥) → (cond c (first_row (joins a b) t) 0 ≡ 0 → ⊥) → Between t a b (cond c (first_row (joins a b) t) 0)
      found true na ne =
          let some : 1 ≤ first_row (joins a b) t = omega arith in
          subst (Between t a b) (link_row (first_row (joins a b) t) some) (at (first_row (joins a b) t - 1) na (true-T (found-passes (joins a b) t [] some)))
      found false na ne = absurd (ne refl)

      go : Dec (a ≡ 0) → (c : Bool) → (cond (eqb a 0) 0 (cond c (first_row (joins a b) t) 0) ≡ 0 → ⊥) → Between t a b (cond (eqb a 0) 0 (cond c (first_row (joins a b) t) 0))
      go (yes e) c ne = absurd (ne (rw (eq-eqb a 0 e)))
      go (no na) c ne =
          let q : cond (eqb a 0) 0 (cond c (first_row (joins a b) t) 0) ≡ cond c (first_row (joins a b) t) 0 = rw (ne_eqb a 0 na) in
          subst (Between t a b) (sym q) (found c na (λ z. ne (q ∙ z)))

  -- and one that joins them is found
  pub arc-some : length t ≤ 16384 → (x : ℕ) → Between t a b x → arc_between t a b ≡ 0 → ⊥
  unfolding arc_between
  arc-some s x w e = let f = found in omega (arith, zero-found)
    where
      na : a ≡ 0 → ⊥
      na z = differ (cell t x 0) 0 w.exists (w.leaves ∙ z)

      i : ℕ
      i = x - 1

      here : T (joins a b (get_or t i []))
      here =
          let r = get_or t i [] in
          let l = (in_table t x w.exists).0 in
          and_i (eqb (get_or r 0 0) a) (eqb (get_or r 1 0) b) (same-T (get_or r 0 0) a (sym (cell-some t x 0 l) ∙ w.leaves)) (same-T (get_or r 1 0) b (sym (cell-some t x 1 l) ∙ w.arrives))

      found : 1 ≤ first_row (joins a b) t
      found = count-found (joins a b) t (some-passes (joins a b) t [] i (omega (arith, (in_table t x w.exists).0, (in_table t x w.exists).1)) here)

      zero-found : first_row (joins a b) t ≡ 0
      zero-found = sym (rw (ne_eqb a 0 na, le-leb (length t) 16384 s)) ∙ e
