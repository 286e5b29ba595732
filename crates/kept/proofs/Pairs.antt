-- The edges that a perimeter needs, pair by pair: none for a pair that has its arc, at most one for any other; so where all pairs but two have
-- theirs, as much as these two need.
use Prim.Native.Nat.{ℕ, zero, suc, ◌+◌, ◌≤◌, ◌<◌, zero-le}
use native.Mathlib.Omega.{arith}
use native.Mathlib.Decide.{ℕ_discrete}
use mathlib.Core.Path.{◌≡◌, ap}
use mathlib.Core.Bool.{Bool, true, false, cond}
use mathlib.Core.List.{List}
use lib.ListN.{length}
use lib.Dec.{eqb}
use borrow.Author.Tests.{ne_eqb}
use Rattle.rules.specs.Table.{sum_below}
use Rattle.rules.specs.Mesh.{Mesh, find_arc}
use Rattle.rules.specs.Insert.{arc_at}
use Rattle.rules.specs.Call.{pairs_without}
use Rattle.rules.proofs.Sums.{sum-zero}
use Rattle.kept.specs.Perimeter.{corner, following}
use Rattle.kept.proofs.Find.{Between, arc-some}
use Rattle.kept.proofs.EdgesIn.{need_at}

-- ---- sums of which all but two are none

sum-one-only : (f : ℕ → ℕ) (x n : ℕ) → ((i : ℕ) → i < n → (i ≡ x → ⊥) → f i ≡ 0) → sum_below f n ≤ f x
unfolding sum_below
sum-one-only f x zero h = zero-le
sum-one-only f x (suc n) h = go (ℕ_discrete n x) (sum-one-only f x n (λ i l. h i (omega arith)))
  where
    go : Dec (n ≡ x) → sum_below f n ≤ f x → sum_below f n + f n ≤ f x
    go (yes e) ih = omega (arith, sum-zero f n (λ i l. h i (omega arith) (λ q. omega arith)), ap f e)
    go (no ne) ih = omega (arith, ih, h n (omega arith) ne)

sum-two : (f : ℕ → ℕ) (x y n : ℕ) → ((i : ℕ) → i < n → (i ≡ x → ⊥) → (i ≡ y → ⊥) → f i ≡ 0) → sum_below f n ≤ f x + f y
unfolding sum_below
sum-two f x y zero h = zero-le
sum-two f x y (suc n) h = go (ℕ_discrete n x) (ℕ_discrete n y) (sum-two f x y n (λ i l. h i (omega arith)))
  where
    go : Dec (n ≡ x) → Dec (n ≡ y) → sum_below f n ≤ f x + f y → sum_below f n + f n ≤ f x + f y
    go (yes e) d ih = omega (arith, sum-one-only f y n (λ i l. h i (omega arith) (λ q. omega arith)), ap f e)
    go (no ne) (yes e) ih = omega (arith, sum-one-only f x n (λ i l q. h i (omega arith) q (λ z. omega arith)), ap f e)
    go (no ne) (no nf) ih = omega (arith, ih, h n (omega arith) ne nf)

-- ---- pairs

pub at_most_one : (m : Mesh) (per : List ℕ) (i : ℕ) → need_at m per i ≤ 1
at_most_one m per i = go (eqb (arc_at m per i) 0)
  where
    go : (b : Bool) → cond b 1 0 ≤ 1
    go true = omega arith
    go false = omega arith

pub has-arc : (m : Mesh) (per : List ℕ) (i : ℕ) → length m.arcs ≤ 16384 → (x : ℕ) → Between m.arcs (corner per i) (following per i) x → need_at m per i ≡ 0
unfolding arc_at
has-arc m per i small x b = rw (ne_eqb (find_arc m (corner per i) (following per i)) 0 (arc-some m.arcs (corner per i) (following per i) small x b))

pub two-needed : (m : Mesh) (per : List ℕ) (a b : ℕ) → ((i : ℕ) → i < length per → (i ≡ a → ⊥) → (i ≡ b → ⊥) → need_at m per i ≡ 0) → pairs_without m per ≤ need_at m per a + need_at m per b
unfolding pairs_without
two-needed m per a b h = sum-two (need_at m per) a b (length per) h

pub pairs-at-most : (m : Mesh) (per : List ℕ) → pairs_without m per ≤ length per
unfolding pairs_without sum_below
pairs-at-most m per = go (length per)
  where
    go : (n : ℕ) → sum_below (need_at m per) n ≤ n
    go zero = zero-le
    go (suc n) = omega (arith, go n, at_most_one m per n)
