-- A cell and a row by their link: through none, past the table, past the row, and there. One law for every width.
use Prim.Native.Nat.{ℕ, ◌-◌, ◌≤◌}
use native.Mathlib.Omega.{arith}
use mathlib.Core.Path.{◌≡◌, sym, ap, ◌∙◌}
use mathlib.Core.List.{List, []}
use lib.ListN.{length, get_or, set, get_or-eq_default}
use lib.Seq.{set_out, set-get_or}
use borrow.Author.Tests.{eq-eqb, ne_eqb}
use Rattle.rules.specs.Table.{Table, cell, put, put_row}

pub cell-none : (t : Table) (l c : ℕ) → l ≡ 0 → 0 ≡ cell t l c
unfolding cell
cell-none t l c z = rw (eq-eqb l 0 z)

pub put-none : (t : Table) (l c v : ℕ) → l ≡ 0 → t ≡ put t l c v
unfolding put
put-none t l c v z = rw (eq-eqb l 0 z)

module _ (t : Table) (l c : ℕ) (some : l ≡ 0 → ⊥) where
  pub cell-here : get_or (get_or t (l - 1) []) c 0 ≡ cell t l c
  unfolding cell
  cell-here = rw (ne_eqb l 0 some)

  pub cell-past : length t ≤ l - 1 → 0 ≡ cell t l c
  cell-past h = sym (ap (λ (r : List ℕ). get_or r c 0) (get_or-eq_default t [] h)) ∙ cell-here

  -- past its row a cell is 0
  pub cell-narrow : (n : ℕ) → length (get_or t (l - 1) []) ≡ n → n ≤ c → 0 ≡ cell t l c
  cell-narrow n k h = sym (get_or-eq_default (get_or t (l - 1) []) 0 (omega arith)) ∙ cell-here

  module _ (v : ℕ) where
    pub put-here : set t (l - 1) (set (get_or t (l - 1) []) c v) ≡ put t l c v
    unfolding put
    put-here = rw (ne_eqb l 0 some)

    pub put-past : length t ≤ l - 1 → t ≡ put t l c v
    put-past h = sym (set_out t (l - 1) (set (get_or t (l - 1) []) c v) h) ∙ put-here

    -- past its row nothing is put
    pub put-narrow : (n : ℕ) → length (get_or t (l - 1) []) ≡ n → n ≤ c → t ≡ put t l c v
    put-narrow n k h =
        sym (ap (set t (l - 1)) (set_out (get_or t (l - 1) []) c v (omega arith)) ∙ set-get_or t (l - 1) []) ∙ put-here

module _ {A : Type 0} (t : List A) (l : ℕ) (r : A) where
  pub row-none : l ≡ 0 → t ≡ put_row t l r
  unfolding put_row
  row-none z = rw (eq-eqb l 0 z)

  module _ (some : l ≡ 0 → ⊥) where
    pub row_here : set t (l - 1) r ≡ put_row t l r
    unfolding put_row
    row_here = rw (ne_eqb l 0 some)

    pub row-past : length t ≤ l - 1 → t ≡ put_row t l r
    row-past h = sym (set_out t (l - 1) r h) ∙ row_here
