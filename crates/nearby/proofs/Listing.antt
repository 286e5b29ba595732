-- The arcs near an edit in a list: what stands in it after so many rows, row by row.
use Prim.Native.Nat.{ℕ, ◌+◌, ◌≤◌}
use native.Mathlib.Omega.{arith}
use borrow.Author.Count.{below_none, below_more}
use mathlib.Core.Path.{◌≡◌, ap, sym, ◌∙◌, subst}
use mathlib.Core.Bool.{Bool, true, false}
use mathlib.Core.List.{List, [], ◌∷◌, ◌++◌}
use lib.ListN.{length, get_or, set, take, length-set}
use Rattle.rules.specs.Table.{Table, has}
use Rattle.rules.specs.Mesh.{opposite_of}
use Rattle.tables.proofs.Runs.{over-run}
use Rattle.pairs.specs.Pairs.{NoMarks}
use Rattle.pairs.specs.Near.{is_marked}
use Rattle.pairs.proofs.Has.{has_last, has_left, one_written}
use Rattle.pairs.proofs.Listing.{both}
use Rattle.nearby.specs.Rows.{ListedTo}

-- ---- two numbers written at the end

-- the first n places, and two that follow
pub two-written : (list : List ℕ) (n x y : ℕ) → n + 2 ≤ length list → take (n + 2) (set (set list n x) (n + 1) y) ≡ (take n list ++ (x ∷ [])) ++ (y ∷ [])
two-written list n x y l =
    let e : n + 2 ≡ n + 1 + 1 = omega arith in
    ap (λ (k : ℕ). take k (set (set list n x) (n + 1) y)) e ∙ one_written (set list n x) (n + 1) y (omega (arith, length-set list n x)) ∙ ap (λ (l : List ℕ). l ++ (y ∷ [])) (one_written list n x (omega arith))

-- what stands in a list stands in it with two more; so do these two
has-two : (l : List ℕ) (x y z : ℕ) → has l z ≡ true → has ((l ++ (x ∷ [])) ++ (y ∷ [])) z ≡ true
has-two l x y z h = has_left (l ++ (x ∷ [])) y z (has_left l x z h)

-- ---- rows

module _ (arcs edges : Table) (seen : List Bool) where
  pub listed-none : (list : List ℕ) → ListedTo arcs edges seen list 0
  listed-none list = below_none _

  module _ (list : List ℕ) (i : ℕ) (h : ListedTo arcs edges seen list i) where
    -- an unused row, and one whose source has no mark, needs no place
    pub listed-unused : get_or (get_or arcs i []) 0 0 ≡ 0 → ListedTo arcs edges seen list (i + 1)
    listed-unused z = below_more _ i h (λ u. absurd (u z))

    listed-unmarked : is_marked seen (get_or (get_or arcs i []) 0 0) ≡ false → ListedTo arcs edges seen list (i + 1)
    listed-unmarked e = below_more _ i h (λ u m. absurd (both (sym m ∙ e)))

    -- the arc and its opposite take two places
    pub listed-arc : (x y : ℕ) → x ≡ i + 1 → y ≡ opposite_of arcs edges x → ListedTo arcs edges seen ((list ++ (x ∷ [])) ++ (y ∷ [])) (i + 1)
    listed-arc x y ex ey = rw (ey, ex) (below_more _ i (λ j l u m. (has-two list (i + 1) o (j + 1) (h j l u m).0, has-two list (i + 1) o (opposite_of arcs edges (j + 1)) (h j l u m).1)) (λ u m. (has_left (list ++ ((i + 1) ∷ [])) o (i + 1) (has_last list (i + 1)), has_last (list ++ ((i + 1) ∷ [])) o)))
      where
        o : ℕ
        o = opposite_of arcs edges (i + 1)

  -- a run of rows without a mark
  pub listed-run : (list : List ℕ) (i r : ℕ) → i ≤ r → NoMarks arcs seen i r → ListedTo arcs edges seen list i → ListedTo arcs edges seen list r
  listed-run list i r l n = over-run (λ (j : ℕ). ListedTo arcs edges seen list j) i r l (λ j a b h. listed-unmarked list j h (n j a b))

  -- as the code writes them
  pub listed-written : (list list' : List ℕ) (n i x y : ℕ) → n + 2 ≤ length list → list' ≡ set (set list n x) (n + 1) y → x ≡ i + 1 → y ≡ opposite_of arcs edges x → ListedTo arcs edges seen (take n list) i → ListedTo arcs edges seen (take (n + 2) list') (i + 1)
  listed-written list list' n i x y l e ex ey h = subst (λ (z : List ℕ). ListedTo arcs edges seen z (i + 1)) (sym (ap (take (n + 2)) e ∙ two-written list n x y l)) (listed-arc (take n list) i h x y ex ey)
