-- The ring of a new face, for any accepted insert: next from its arc comes back after as many arcs as the perimeter is long, these are all
-- that hold it, and previous runs them backwards.
use Prim.Native.Nat.{ℕ, zero, suc, ◌+◌, ◌-◌, ◌<◌}
use native.Mathlib.Omega.{arith}
use native.Mathlib.Nat.{not-suc-le-zero}
use native.Mathlib.Decide.{ℕ_discrete}
use mathlib.Core.Path.{◌≡◌, refl, ap, sym, subst, ◌∙◌}
use mathlib.Core.Bool.{not}
use mathlib.Core.List.{List, [], ◌∷◌}
use mathlib.Core.Logic.{◌⊎◌, inl, inr}
use lib.ListN.{length, get_or}
use lib.Dec.{T, eqb, eqb→eq, not_T}
use lib.Ieee.Fits.{and_i}
use Rattle.rules.specs.Table.{Table, cell, there, has, distinct, after}
use Rattle.rules.specs.Mesh.{Mesh, source, next, previous, face, face_arc}
use Rattle.rules.specs.Insert.{arc_at}
use Rattle.rules.proofs.Counts.{bit}
use Rattle.rules.proofs.Sums.{same_test, sum-ext, sum-list, count-sum, or_cases, or_l, or_r}
use Rattle.proved.specs.Demand.{holds, Holds, holders, onward}
use Rattle.proved.specs.Facts.{RingFacts, IsArc}
use Rattle.proved.proofs.Rows.{same-T, in_table}
use Rattle.proved.proofs.Ring.{row-holds, holds_row}
use Rattle.proved.proofs.Around.{times_none, times_more}
use Rattle.kept.specs.Frame.{AllButRings}
use Rattle.kept.specs.Perimeter.{Perimeter, corner, Inserted}
use Rattle.kept.proofs.Round.{after_on, after_last}
use Rattle.kept.proofs.Interior.{Joined, pair-arc, one-pair}

-- ---- the values of g at the numbers below k

module _ (g : ℕ → ℕ) where
  -- y is one of them, or none of them
  pub among : (k y : ℕ) → ((i : ℕ) × (i < k) × (y ≡ g i)) ⊎ ((i : ℕ) → i < k → y ≡ g i → ⊥)
  among zero y = inr (λ i l e. not-suc-le-zero l)
  among (suc k) y = go (ℕ_discrete y (g k)) (among k y)
    where
      go : Dec (y ≡ g k) → ((i : ℕ) × (i < k) × (y ≡ g i)) ⊎ ((i : ℕ) → i < k → y ≡ g i → ⊥) → ((i : ℕ) × (i < suc k) × (y ≡ g i)) ⊎ ((i : ℕ) → i < suc k → y ≡ g i → ⊥)
      go (yes e) r = inl (k, omega arith, e)
      go (no n) (inl w) = inl (w.0, omega (arith, w.1), w.2)
      go (no n) (inr f) = inr (λ i l e. last i l e (ℕ_discrete i k))
        where
          last : (i : ℕ) → i < suc k → y ≡ g i → Dec (i ≡ k) → ⊥
          last i l e (yes q) = n (e ∙ ap g q)
          last i l e (no q) = f i (omega arith) e

  -- as a list
  values : ℕ → List ℕ
  values zero = []
  values (suc k) = g k ∷ values k

  values_length : (k : ℕ) → length (values k) ≡ k
  unfolding values
  values_length zero = refl
  values_length (suc k) = ap suc (values_length k)

  values-has : (k y : ℕ) → T (has (values k) y) → (i : ℕ) × (i < k) × (y ≡ g i)
  unfolding values has
  values-has zero y h = absurd h
  values-has (suc k) y h = or_cases (eqb y (g k)) (has (values k) y) h (λ e. (k, omega arith, eqb→eq y (g k) e)) (λ r. later (values-has k y r))
    where
      later : (i : ℕ) × (i < k) × (y ≡ g i) → (i : ℕ) × (i < suc k) × (y ≡ g i)
      later w = (w.0, omega (arith, w.1), w.2)

  has-values : (k i : ℕ) → i < k → T (has (values k) (g i))
  unfolding values has
  has-values zero i l = absurd (not-suc-le-zero l)
  has-values (suc k) i l = go (ℕ_discrete i k) (has-values k i)
    where
      go : Dec (i ≡ k) → (i < k → T (has (values k) (g i))) → T (has (values (suc k)) (g i))
      go (yes e) ih = or_l (eqb (g i) (g k)) _ (same-T (g i) (g k) (ap g e))
      go (no n) ih = or_r (eqb (g i) (g k)) _ (ih (omega arith))

  values-differ : (k : ℕ) → ((i j : ℕ) → i < k → j < k → g i ≡ g j → i ≡ j) → T (distinct (values k))
  unfolding values distinct
  values-differ zero h = tt
  values-differ (suc k) h =
      and_i (not (has (values k) (g k))) (distinct (values k)) (not_T (has (values k) (g k)) (λ t. clash (values-has k (g k) t))) (values-differ k (λ i j a b e. h i j (omega arith) (omega arith) e))
    where
      clash : (i : ℕ) × (i < k) × (g k ≡ g i) → ⊥
      clash w = let z = h k w.0 (omega arith) (omega (arith, w.1)) w.2 in omega (arith, w.1)

  -- if they differ and are the arcs that hold f, then k arcs hold f
  pub holders-are : (m : Mesh) (f k : ℕ) → ((i j : ℕ) → i < k → j < k → g i ≡ g j → i ≡ j) → ((i : ℕ) → i < k → Holds m f (g i)) → ((y : ℕ) → Holds m f y → (i : ℕ) × (i < k) × (y ≡ g i)) → holders m f ≡ k
  holders-are m f k d to from =
      count-sum (holds f) m.arcs []
      ∙ sum-ext (λ i. bit (holds f (get_or m.arcs i []))) (λ i. bit (has (values k) (i + 1))) (length m.arcs)
      (λ i l. ap bit (same_test (holds f (get_or m.arcs i [])) (has (values k) (i + 1)) (λ t. is-in i (from (i + 1) (row-holds m f i t))) (λ t. holds_row m f i (held (i + 1) (values-has k (i + 1) t)))))
      ∙ sum-list (values k) (length m.arcs) (values-differ k d) (λ x t. in_table m.arcs x (held x (values-has k x t)).exists)
      ∙ values_length k
    where
      is-in : (i : ℕ) → (j : ℕ) × (j < k) × (i + 1 ≡ g j) → T (has (values k) (i + 1))
      is-in i w = subst (λ (z : ℕ). T (has (values k) z)) (sym w.2) (has-values k w.0 w.1)

      held : (x : ℕ) → (j : ℕ) × (j < k) × (x ≡ g j) → Holds m f x
      held x w = subst (Holds m f) (sym w.2) (to w.0 w.1)

-- ---- the new ring

module _ (m : Mesh) (s : AllButRings m) (per : List ℕ) (p : Perimeter m per) (j : Joined m per) (f : ℕ) (t : Table) (w : Inserted m per f t) (unheld : (y : ℕ) → IsArc m y → face m y ≡ f → ⊥) where
  abbrev on : ℕ → ℕ
  on i = arc_at m per i

  arc-there : (x : ℕ) → IsArc m x → T (there t x)
  arc-there x u = subst (λ (z : ℕ). T (not (eqb z 0))) (sym (w.ends.source_stays x)) u

  module _ (n : Mesh) (arcs-are : n.arcs ≡ t) (first : face_arc n f ≡ arc_at m per 0) where
    cell-is : (x c : ℕ) → cell n.arcs x c ≡ cell t x c
    cell-is x c = ap (λ (u : Table). cell u x c) arcs-are

    on-holds : (i : ℕ) → i < length per → Holds n f (on i)
    on-holds i l =
        record { exists = rw arcs-are (arc-there (on i) (pair-arc m s per p j i l).exists); its-face = cell-is (on i) 4 ∙ w.face-on i l }

    -- the arcs that hold it are the perimeter's
    holder-on : (y : ℕ) → Holds n f y → (i : ℕ) × (i < length per) × (y ≡ on i)
    holder-on y h = go (among on (length per) y)
      where
        go : ((i : ℕ) × (i < length per) × (y ≡ on i)) ⊎ ((i : ℕ) → i < length per → y ≡ on i → ⊥) → (i : ℕ) × (i < length per) × (y ≡ on i)
        go (inl q) = q
        go (inr o) =
            let u : T (there t y) = rw arcs-are at h.exists in
            absurd (unheld y (subst (λ (z : ℕ). T (not (eqb z 0))) (w.ends.source_stays y) u) (sym (w.faces-stay y o) ∙ sym (cell-is y 4) ∙ h.its-face))

    as_many : holders n f ≡ length per
    as_many = holders-are on n f (length per) (one-pair m s per p j) on-holds holder-on

    -- k steps on is the arc of pair k
    step_is : (k : ℕ) → k < length per → onward n f k ≡ on k
    step_is zero l = times_none (next n) (face_arc n f) ∙ first
    step_is (suc k) l =
        let e : k + 1 ≡ suc k = omega arith in
        times_more (next n) k (face_arc n f)
        ∙ ap (next n) (step_is k (omega arith))
        ∙ cell-is (on k) 2
        ∙ w.next-on k (omega arith)
        ∙ ap on (after_on (length per) k (λ q. omega arith) ∙ e)

    back : onward n f (length per) ≡ face_arc n f
    back =
        let k : ℕ = length per - 1 in
        let l : k < length per = omega (arith, p.at-least-3) in
        let e : length per ≡ suc k = omega (arith, p.at-least-3) in
        ap (onward n f) e
        ∙ times_more (next n) k (face_arc n f)
        ∙ ap (next n) (step_is k l)
        ∙ cell-is (on k) 2
        ∙ w.next-on k l
        ∙ ap on (after_last (length per) k (omega arith))
        ∙ sym first

    low : (k : ℕ) → k < holders n f → k < length per
    low k l = rw as_many at l

    pub new-ring : RingFacts n f
    new-ring =
        record {
          returns = ap (onward n f) as_many ∙ back;
          not-before = λ k a l e. let q = one-pair m s per p j k 0 (low k l) (omega (arith, p.at-least-3)) (sym (step_is k (low k l)) ∙ e ∙ first) in omega arith;
          at-least-3 = rw as_many p.at-least-3;
          at-most-64 = rw as_many p.at-most-64;
          sources-differ = λ i k a b e. p.differ i k (low i a) (low k b) (sym (leaves i (low i a)) ∙ e ∙ leaves k (low k b));
          each_holds = λ k l. subst (Holds n f) (sym (step_is k (low k l))) (on-holds k (low k l));
          each-met = λ y h. met y (holder-on y h);
          runs-back = λ k l. runs k (low k l);
        }
      where
        leaves : (k : ℕ) → k < length per → source n (onward n f k) ≡ corner per k
        leaves k l = ap (source n) (step_is k l) ∙ cell-is (on k) 0 ∙ w.ends.source_stays (on k) ∙ (pair-arc m s per p j k l).leaves

        met : (y : ℕ) → (i : ℕ) × (i < length per) × (y ≡ on i) → (k : ℕ) × (k < holders n f) × (onward n f k ≡ y)
        met y q = (q.0, rw as_many q.1, step_is q.0 q.1 ∙ sym q.2)

        runs : (k : ℕ) → k < length per → previous n (next n (onward n f k)) ≡ onward n f k
        runs k l =
            ap (previous n) (ap (next n) (step_is k l) ∙ cell-is (on k) 2 ∙ w.next-on k l)
            ∙ cell-is (on (after (length per) k)) 3
            ∙ w.previous-on k l
            ∙ sym (step_is k l)
