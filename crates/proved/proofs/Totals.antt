-- Counts over a whole sound mesh: each arc that holds a face is counted at its one face, and each arc is one of two that its edge names.
use Prim.Native.Nat.{ℕ, zero, suc, ◌+◌, ◌-◌, ◌*◌, ◌≤◌, ◌<◌, zero-le, suc-le-suc}
use native.Mathlib.Nat.{not-suc-le-zero}
use native.Mathlib.Omega.{arith}
use native.Mathlib.Decide.{ℕ_discrete}
use mathlib.Core.Path.{◌≡◌, refl, ap, sym, subst, ◌∙◌}
use mathlib.Core.Bool.{Bool, true, false, not, ◌&&◌, ◌||◌, cond}
use mathlib.Core.List.{List, [], ◌∷◌}
use lib.ListN.{length, get_or}
use lib.Dec.{T, not_T, eqb, leb, eqb→eq, eqb_refl, leb→le}
use lib.Ieee.Fits.{and_l, and_r, and_i}
use borrow.Author.Tests.{eqb-false, eq-eqb, ne_eqb, le-leb, eqb-true}
use Rattle.rules.specs.Table.{Table, count, every, there, used, sum_below}
use Rattle.rules.specs.Mesh.{Mesh, face, edge, edge_arc, edge_other}
use Rattle.rules.specs.Sound.{Sound, face_exists, edge_joins, unless_none}
use Rattle.rules.proofs.Scan.{every-passes}
use Rattle.rules.proofs.Counts.{bit, count-cons}
use Rattle.rules.proofs.Sums.{or_cases, same_test, sum-ext, sum-add, sum-zero, sum-hit, count-sum}
use Rattle.proved.specs.Demand.{holds, holds_some, Holds, holders, all_holders, over_faces, edge_count}
use Rattle.proved.proofs.Rows.{T_true, T_false, true-T, same-T, so-if, there-row, in_table, used-at, link_row}
use Rattle.proved.proofs.Ring.{row-holds}

-- ---- sums

pub sum-le : (f g : ℕ → ℕ) (n : ℕ) → ((k : ℕ) → k < n → f k ≤ g k) → sum_below f n ≤ sum_below g n
unfolding sum_below
sum-le f g zero h = zero-le
sum-le f g (suc n) h = omega (arith, sum-le f g n (λ k l. h k (omega arith)), h n (omega arith))

-- one of the numbers is at most their sum
pub sum_one : (f : ℕ → ℕ) (n k : ℕ) → k < n → f k ≤ sum_below f n
unfolding sum_below
sum_one f zero k l = absurd (not-suc-le-zero l)
sum_one f (suc n) k l = go (ℕ_discrete k n) (sum_one f n k)
  where
    go : Dec (k ≡ n) → (k < n → f k ≤ sum_below f n) → f k ≤ sum_below f n + f n
    go (yes e) ih = omega (arith, ap f e)
    go (no ne) ih = omega (arith, ih (omega arith))

pub sum-double : (f : ℕ → ℕ) (n : ℕ) → sum_below (λ k. 2 * f k) n ≡ 2 * sum_below f n
unfolding sum_below
sum-double f zero = refl
sum-double f (suc n) = omega (arith, sum-double f n)

-- rows first or columns first
pub sum-swap : (f : ℕ → ℕ → ℕ) (n m : ℕ) → sum_below (λ k. sum_below (f k) m) n ≡ sum_below (λ i. sum_below (λ k. f k i) n) m
unfolding sum_below
sum-swap f zero m = sym (sum-zero (λ i. 0) m (λ k l. refl))
sum-swap f (suc n) m = ap (λ (z : ℕ). z + sum_below (f n) m) (sum-swap f n m) ∙ sym (sum-add (λ i. sum_below (λ k. f k i) n) (f n) m)

-- at most one link up to n is l
pub sum-hit-le : (l n : ℕ) → sum_below (λ k. bit (eqb l (k + 1))) n ≤ 1
unfolding sum_below
sum-hit-le l zero = zero-le
sum-hit-le l (suc n) = go (ℕ_discrete l (n + 1)) (sum-hit-le l n)
  where
    go : Dec (l ≡ n + 1) → sum_below (λ k. bit (eqb l (k + 1))) n ≤ 1 → sum_below (λ k. bit (eqb l (k + 1))) n + bit (eqb l (n + 1)) ≤ 1
    go (yes e) ih =
        let none = sum-zero (λ k. bit (eqb l (k + 1))) n (λ k q. ap bit (ne_eqb l (k + 1) (λ z. omega arith))) in
        omega (arith, none, ap bit (eq-eqb l (n + 1) e))
    go (no ne) ih = omega (arith, ih, ap bit (ne_eqb l (n + 1) ne))

pub bit_le : (a b : Bool) → (T a → T b) → bit a ≤ bit b
bit_le true true h = omega arith
bit_le true false h = absurd (h tt)
bit_le false true h = omega arith
bit_le false false h = omega arith

pub bit-or-le : (a b : Bool) → bit (a || b) ≤ bit a + bit b
bit-or-le true true = omega arith
bit-or-le true false = omega arith
bit-or-le false true = omega arith
bit-or-le false false = omega arith

-- what passes one test passes the other: no fewer pass the other
pub count-mono {ℓ} : {A : Type ℓ} (p q : A → Bool) (xs : List A) → ((x : A) → T (p x) → T (q x)) → count p xs ≤ count q xs
unfolding count
count-mono p q [] h = zero-le
count-mono p q (x ∷ xs) h = omega (arith, count-cons p x xs, count-cons q x xs, count-mono p q xs h, bit_le (p x) (q x) (h x))

-- ---- over all faces

eqb_swap : (a b : ℕ) → eqb a b ≡ eqb b a
eqb_swap a b = same_test (eqb a b) (eqb b a) (λ t. same-T b a (sym (eqb→eq a b t))) (λ t. same-T a b (sym (eqb→eq b a t)))

-- each arc is counted once, at its face
at_one : (n f : ℕ) → f ≤ n → sum_below (λ i. bit (eqb f (i + 1))) n ≡ bit (not (eqb f 0))
at_one n zero l = sum-zero (λ i. bit (eqb 0 (i + 1))) n (λ k q. ap bit (ne_eqb 0 (k + 1) (λ z. omega arith)))
at_one n (suc f) l =
    sum-ext (λ i. bit (eqb (suc f) (i + 1))) (λ i. bit (eqb (i + 1) (suc f))) n (λ k q. ap bit (eqb_swap (suc f) (k + 1)))
    ∙ sum-hit (suc f) n (suc-le-suc zero-le) l
    ∙ sym (ap (λ (b : Bool). bit (not b)) (ne_eqb (suc f) 0 (λ z. omega arith)))

at_row : (n : ℕ) (b : Bool) (f : ℕ) → T (not b || leb f n) → sum_below (λ i. bit (b && eqb f (i + 1))) n ≡ bit (b && not (eqb f 0))
at_row n true f h = at_one n f (leb→le f n h)
at_row n false f h = sum-zero (λ i. 0) n (λ k l. refl)

abbrev face_up_to : ℕ → List ℕ → Bool
face_up_to n r = not (used r) || leb (get_or r 4 0) n

pub count-by-face : (n : ℕ) (rs : Table) → T (every (face_up_to n) rs) → sum_below (λ i. count (holds (i + 1)) rs) n ≡ count holds_some rs
unfolding every count
count-by-face n [] h = sum-zero (λ i. 0) n (λ k l. refl)
count-by-face n (r ∷ rs) h =
    let ih = count-by-face n rs (and_r (face_up_to n r) (every (face_up_to n) rs) h) in
    let one = sum-ext (λ i. count (holds (i + 1)) (r ∷ rs)) (λ i. count (holds (i + 1)) rs + bit (holds (i + 1) r)) n (λ k l. count-cons (holds (k + 1)) r rs) in
    let two = sum-add (λ i. count (holds (i + 1)) rs) (λ i. bit (holds (i + 1) r)) n in
    omega (arith, one, two, ih, at_row n (used r) (get_or r 4 0) (and_l (face_up_to n r) (every (face_up_to n) rs) h), count-cons holds_some r rs)

module _ (m : Mesh) (s : Sound m) where
  -- an arc's face, unless none, is a used row
  pub face-there : (f x : ℕ) → Holds m f x → (f ≡ 0 → ⊥) → T (there m.faces f)
  unfolding face_exists
  face-there f x h ne =
      let t = used-at (λ y. unless_none (face m y) (there m.faces (face m y))) m.arcs s.face-exists x h.exists in
      subst (λ (z : ℕ). T (there m.faces z)) h.its-face (or_cases (eqb (face m x) 0) (there m.faces (face m x)) t (λ z. absurd (ne (sym h.its-face ∙ eqb→eq (face m x) 0 z))) (λ z. z))

  face-low : (k : ℕ) → k < length m.arcs → T (face_up_to (length m.faces) (get_or m.arcs k []))
  face-low k l = so-if (used r) (leb f (length m.faces)) (λ u. go (eqb f 0) refl u)
    where
      r : List ℕ
      r = get_or m.arcs k []

      f : ℕ
      f = get_or r 4 0

      go : (b : Bool) → eqb f 0 ≡ b → T (used r) → T (leb f (length m.faces))
      go true e u = true-T (le-leb f (length m.faces) (omega (arith, eqb-true f 0 e)))
      go false e u =
          let h = row-holds m f k (and_i (used r) (eqb f f) u (eqb_refl f)) in
          true-T (le-leb f (length m.faces) (in_table m.faces f (face-there f (k + 1) h (eqb-false f 0 e))).1)

  -- no arc holds an unused row
  unheld : (i : ℕ) → there m.faces (i + 1) ≡ false → holders m (i + 1) ≡ 0
  unheld i u =
      count-sum (holds (i + 1)) m.arcs []
      ∙ sum-zero (λ k. bit (holds (i + 1) (get_or m.arcs k []))) (length m.arcs) (λ k l. ap bit (T_false (holds (i + 1) (get_or m.arcs k [])) (not_T (holds (i + 1) (get_or m.arcs k [])) (clash k))))
    where
      clash : (k : ℕ) → T (holds (i + 1) (get_or m.arcs k [])) → ⊥
      clash k t = subst T u (face-there (i + 1) (k + 1) (row-holds m (i + 1) k t) (λ e. omega arith))

  -- over all faces these counts add up to the number of arcs that hold a face
  pub adds-up : over_faces m (holders m) ≡ all_holders m
  adds-up =
      sum-ext (λ i. cond (there m.faces (i + 1)) (holders m (i + 1)) 0) (λ i. holders m (i + 1)) (length m.faces) (λ i l. go i (there m.faces (i + 1)) refl)
      ∙ count-by-face (length m.faces) m.arcs (true-T (every-passes (face_up_to (length m.faces)) m.arcs [] (λ k l. T_true _ (face-low k l))))
    where
      go : (i : ℕ) (b : Bool) → there m.faces (i + 1) ≡ b → cond b (holders m (i + 1)) 0 ≡ holders m (i + 1)
      go i true e = refl
      go i false e = sym (unheld i e)

  -- ---- over all edges

  -- the edge with the link e names the arc with the link x
  abbrev names : ℕ → ℕ → Bool
  names e x = there m.edges e && (eqb (edge_arc m e) x || eqb (edge_other m e) x)

  -- each arc is named by its edge
  named : (k : ℕ) → T (used (get_or m.arcs k [])) → (i : ℕ) × (i < length m.edges) × T (names (i + 1) (k + 1))
  unfolding edge_joins
  named k u =
      let x = k + 1 in
      let e = edge m x in
      let h = used-at (λ y. names (edge m y) y) m.arcs s.edge-joins x (subst T (sym (there-row m.arcs k)) u) in
      let b = in_table m.edges e (and_l (there m.edges e) (eqb (edge_arc m e) x || eqb (edge_other m e) x) h) in
      (e - 1, omega arith, subst (λ (o : ℕ). T (names o x)) (sym (link_row e b.0)) h)

  -- an edge in use names at most two, an unused row none
  names-two : (i : ℕ) → sum_below (λ k. bit (names (i + 1) (k + 1))) (length m.arcs) ≤ 2 * bit (used (get_or m.edges i []))
  names-two i = rw (← there-row m.edges i) (go (there m.edges (i + 1)) (edge_arc m (i + 1)) (edge_other m (i + 1)) (length m.arcs))
    where
      go : (b : Bool) (x y n : ℕ) → sum_below (λ k. bit (b && (eqb x (k + 1) || eqb y (k + 1)))) n ≤ 2 * bit b
      go false x y n = omega (arith, sum-zero (λ k. 0) n (λ k l. refl))
      go true x y n =
          let split = sum-le (λ k. bit (eqb x (k + 1) || eqb y (k + 1))) (λ k. bit (eqb x (k + 1)) + bit (eqb y (k + 1))) n (λ k l. bit-or-le (eqb x (k + 1)) (eqb y (k + 1))) in
          omega (arith, split, sum-add (λ k. bit (eqb x (k + 1))) (λ k. bit (eqb y (k + 1))) n, sum-hit-le x n, sum-hit-le y n)

  -- so there are at most twice as many arcs as edges in use
  pub arcs-at-most : count used m.arcs ≤ 2 * edge_count m
  arcs-at-most =
      let n = length m.arcs in
      let c = length m.edges in
      let u : ℕ → ℕ = λ k. bit (used (get_or m.arcs k [])) in
      let w : ℕ → ℕ = λ i. bit (used (get_or m.edges i [])) in
      let rows = sum-le u (λ k. sum_below (λ i. bit (names (i + 1) (k + 1))) c) n (λ k l. each k (used (get_or m.arcs k [])) refl) in
      let columns = sum-le (λ i. sum_below (λ k. bit (names (i + 1) (k + 1))) n) (λ i. 2 * w i) c (λ i l. names-two i) in
      omega (arith, count-sum used m.arcs [], rows, sum-swap (λ k i. bit (names (i + 1) (k + 1))) n c, columns, sum-double w c, count-sum used m.edges [])
    where
      each : (k : ℕ) (b : Bool) → used (get_or m.arcs k []) ≡ b → bit b ≤ sum_below (λ i. bit (names (i + 1) (k + 1))) (length m.edges)
      each k false e = zero-le
      each k true e =
          let w = named k (true-T e) in
          omega (arith, sum_one (λ i. bit (names (i + 1) (k + 1))) (length m.edges) w.0 w.1, ap bit (T_true (names (w.0 + 1) (k + 1)) w.2))

  pub at-most-twice : all_holders m ≤ 2 * edge_count m
  at-most-twice =
      omega (arith, arcs-at-most, count-mono holds_some used m.arcs (λ r t. and_l (used r) (not (eqb (get_or r 4 0) 0)) t))
