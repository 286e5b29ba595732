-- The exterior of a face insert, for any perimeter whose pairs all have arcs and any lists: it changes no cell but next and previous, and
-- neither on the perimeter's own arcs. So after the whole insert these are linked in a ring and hold the face, and every other arc keeps its
-- ends, its edge and its face.
use Prim.Native.Nat.{ℕ, ◌≤◌, ◌<◌}
use native.Mathlib.Omega.{arith}
use native.Mathlib.Decide.{ℕ_discrete}
use mathlib.Core.Path.{◌≡◌, refl, ap, sym, ◌∙◌, fun_ext}
use mathlib.Core.Bool.{Bool, true, false, cond}
use mathlib.Core.List.{List, [], ◌∷◌, map}
use mathlib.Core.Logic.{◌⊎◌, inl, inr}
use lib.ListN.{length, get_or}
use lib.Dec.{eqb}
use borrow.Author.Tests.{ne_eqb, eq-eqb, eqb-true}
use Rattle.rules.specs.Table.{Table, cell, up_to, after, or_else}
use Rattle.rules.specs.Mesh.{Mesh, mesh, source, dest, opposite_of, opposite}
use Rattle.rules.specs.Link.{connect}
use Rattle.rules.specs.Insert.{arc_at, faceless_in, exterior_at, exterior}
use Rattle.kept.specs.Frame.{AllButRings, connect_in, SameEnds}
use Rattle.kept.specs.Perimeter.{Perimeter, corner, following, Inside, outer, after_outer, before_outer, turned, Inserted, Outside}
use Rattle.kept.proofs.Cells.{put-rows}
use Rattle.kept.proofs.Links.{connect-is, connect-cell, connect-other, ends-onto, arcs-loop}
use Rattle.kept.proofs.Round.{after-low, after-twice, before, before-low, after-before}
use Rattle.kept.proofs.Opposite.{ends-opposite, Opposite, opposite-is}
use Rattle.kept.proofs.Interior.{Joined, pair-arc, pair_found}

-- ---- the first arc of a list that has no face, and a choice

pub faceless-none : (t : Table) (l : List ℕ) → (faceless_in t l ≡ 0 → ⊥) → cell t (faceless_in t l) 4 ≡ 0
unfolding faceless_in
faceless-none t [] n = absurd (n refl)
faceless-none t (x ∷ xs) n = go (eqb (cell t x 4) 0) refl n (faceless-none t xs)
  where
    go : (b : Bool) → eqb (cell t x 4) 0 ≡ b → (cond b x (faceless_in t xs) ≡ 0 → ⊥) → ((faceless_in t xs ≡ 0 → ⊥) → cell t (faceless_in t xs) 4 ≡ 0) → cell t (cond b x (faceless_in t xs)) 4 ≡ 0
    go true e q ih = eqb-true (cell t x 4) 0 e
    go false e q ih = ih q

pub else-cases : (x other : ℕ) → ((x ≡ 0 → ⊥) × (or_else x other ≡ x)) ⊎ (or_else x other ≡ other)
else-cases x other = go (ℕ_discrete x 0)
  where
    go : Dec (x ≡ 0) → ((x ≡ 0 → ⊥) × (or_else x other ≡ x)) ⊎ (or_else x other ≡ other)
    go (yes e) = inr (rw (eq-eqb x 0 e))
    go (no n) = inl (n, rw (ne_eqb x 0 n))

module _ (m : Mesh) (s : AllButRings m) (per : List ℕ) (p : Perimeter m per) (j : Joined m per) where
  -- ---- the arcs opposite to the perimeter's

  pub outer-is : (i : ℕ) → i < length per → Opposite m (arc_at m per i) (outer m per i)
  outer-is i l = opposite-is m s (arc_at m per i) (pair-arc m s per p j i l).exists

  pub outer-leaves : (i : ℕ) → i < length per → source m (outer m per i) ≡ following per i
  outer-leaves i l = (outer-is i l).leaves ∙ (pair-arc m s per p j i l).arrives

  pub outer-arrives : (i : ℕ) → i < length per → dest m (outer m per i) ≡ corner per i
  outer-arrives i l = (outer-is i l).arrives ∙ (pair-arc m s per p j i l).leaves

  pub one-outer : (i k : ℕ) → i < length per → k < length per → outer m per i ≡ outer m per k → i ≡ k
  one-outer i k a b e = p.differ i k a b (sym (outer-arrives i a) ∙ ap (dest m) e ∙ outer-arrives k b)

  -- none of them is on the perimeter itself
  pub pair-not-outer : (k i : ℕ) → k < length per → i < length per → arc_at m per k ≡ outer m per i → ⊥
  pair-not-outer k i a b e =
      let x = pair-arc m s per p j k a in
      let there = p.differ k (after (length per) i) a (after-low (length per) i b) (sym x.leaves ∙ ap (source m) e ∙ outer-leaves i b) in
      let back = p.differ (after (length per) k) i (after-low (length per) k a) b (sym x.arrives ∙ ap (dest m) e ∙ outer-arrives i b) in
      after-twice (length per) i p.at-least-3 b (ap (after (length per)) (sym there) ∙ back)

  -- ---- the exterior of one pair, on one table

  module _ (faces : Table) (counters : List ℕ) (lists : List (List ℕ)) where
    abbrev in_mesh : Table → Mesh
    in_mesh t = mesh m.vertices m.positions t m.edges faces counters

    pub exterior-turns : (i : ℕ) (t : Table) → SameEnds m t → exterior_at per lists i (in_mesh t) ≡ in_mesh (turned m per lists i t)
    unfolding exterior_at turned after_outer before_outer
    exterior-turns i t w =
        ap (form (opposite_of t m.edges)) (pair_found m s per p j (in_mesh t) t w i)
        ∙ ap (λ (o : ℕ → ℕ). form o (arc_at m per i)) (fun_ext (ends-opposite m t w))
        ∙ last (eqb (cell t (outer m per i) 4) 0)
      where
        form : (ℕ → ℕ) → ℕ → Mesh
        form o x =
            cond (eqb (cell t (o x) 4) 0) (connect (connect (in_mesh t) (o x) (or_else (faceless_in t (get_or lists i [])) (o (cell t x 3)))) (or_else (faceless_in t (map o (get_or lists (after (length per) i) []))) (o (cell t x 2))) (o x)) (in_mesh t)

        nx : ℕ
        nx = or_else (faceless_in t (get_or lists i [])) (opposite m (cell t (arc_at m per i) 3))

        pv : ℕ
        pv = or_else (faceless_in t (map (opposite m) (get_or lists (after (length per) i) []))) (opposite m (cell t (arc_at m per i) 2))

        last : (b : Bool) → cond b (connect (connect (in_mesh t) (outer m per i) nx) pv (outer m per i)) (in_mesh t) ≡ in_mesh (cond b (connect_in (connect_in t (outer m per i) nx) pv (outer m per i)) t)
        last true = ap (λ (a : Mesh). connect a pv (outer m per i)) (connect-is (in_mesh t) t (outer m per i) nx) ∙ connect-is (in_mesh t) (connect_in t (outer m per i) nx) pv (outer m per i)
        last false = refl

  -- ---- what it does not reach

  module _ (f : ℕ) (some : 1 ≤ f) (t₀ : Table) (h : Inside m per f t₀) (lists : List (List ℕ)) where
    module _ (t : Table) (w : Outside m per t₀ t) (i : ℕ) (l : i < length per) where
      -- an arc without a face is not on the perimeter
      not-faceless : (k : ℕ) → k < length per → (y : ℕ) → cell t y 4 ≡ 0 → arc_at m per k ≡ y → ⊥
      not-faceless k q y z e =
          let a = w.ring-stays k 4 q in
          let b = h.face-on k q in
          let d : cell t (arc_at m per k) 4 ≡ 0 = ap (λ (u : ℕ). cell t u 4) e ∙ z in
          omega arith

      pub previous-is : cell t (arc_at m per i) 3 ≡ arc_at m per (before (length per) i)
      previous-is =
          let n = length per in
          w.ring-stays i 3 l ∙ ap (λ (k : ℕ). cell t₀ (arc_at m per k) 3) (sym (after-before n i l)) ∙ h.previous-on (before n i) (before-low n i l)

      pub next-is : cell t (arc_at m per i) 2 ≡ arc_at m per (after (length per) i)
      next-is = w.ring-stays i 2 l ∙ h.next-on i l

      after-not-pair : (k : ℕ) → k < length per → arc_at m per k ≡ after_outer m per lists i t → ⊥
      unfolding after_outer
      after-not-pair k q e = go (else-cases (faceless_in t (get_or lists i [])) (opposite m (cell t (arc_at m per i) 3)))
        where
          go : ((faceless_in t (get_or lists i []) ≡ 0 → ⊥) × (or_else (faceless_in t (get_or lists i [])) (opposite m (cell t (arc_at m per i) 3)) ≡ faceless_in t (get_or lists i []))) ⊎ (or_else (faceless_in t (get_or lists i [])) (opposite m (cell t (arc_at m per i) 3)) ≡ opposite m (cell t (arc_at m per i) 3)) → ⊥
          go (inl v) = not-faceless k q (faceless_in t (get_or lists i [])) (faceless-none t (get_or lists i []) v.0) (e ∙ v.1)
          go (inr v) = pair-not-outer k (before (length per) i) q (before-low (length per) i l) (e ∙ v ∙ ap (opposite m) previous-is)

      before-not-pair : (k : ℕ) → k < length per → arc_at m per k ≡ before_outer m per lists i t → ⊥
      unfolding before_outer
      before-not-pair k q e = go (else-cases (faceless_in t ins) (opposite m (cell t (arc_at m per i) 2)))
        where
          ins : List ℕ
          ins = map (opposite m) (get_or lists (after (length per) i) [])

          go : ((faceless_in t ins ≡ 0 → ⊥) × (or_else (faceless_in t ins) (opposite m (cell t (arc_at m per i) 2)) ≡ faceless_in t ins)) ⊎ (or_else (faceless_in t ins) (opposite m (cell t (arc_at m per i) 2)) ≡ opposite m (cell t (arc_at m per i) 2)) → ⊥
          go (inl v) = not-faceless k q (faceless_in t ins) (faceless-none t ins v.0) (e ∙ v.1)
          go (inr v) = pair-not-outer k (after (length per) i) q (after-low (length per) i l) (e ∙ v ∙ ap (opposite m) next-is)

      pub outside-one : Outside m per t₀ (turned m per lists i t)
      unfolding turned
      outside-one = go (eqb (cell t (outer m per i) 4) 0)
        where
          o : ℕ
          o = outer m per i

          nx : ℕ
          nx = after_outer m per lists i t

          pv : ℕ
          pv = before_outer m per lists i t

          v : Table
          v = connect_in t o nx

          u : Table
          u = connect_in v pv o

          cells : (y c : ℕ) → (c ≡ 2 → ⊥) → (c ≡ 3 → ⊥) → cell u y c ≡ cell t y c
          cells y c a b = connect-cell v pv o y c a b ∙ connect-cell t o nx y c a b

          lengths : length u ≡ length t
          lengths = put-rows _ o 3 pv ∙ put-rows v pv 2 o ∙ put-rows _ nx 3 o ∙ put-rows t o 2 nx

          go : (b : Bool) → Outside m per t₀ (cond b u t)
          go true =
              record {
                ends = ends-onto m u t w.ends lengths (λ y c a b d. cells y c a b);
                cells_stay = λ y c a b. cells y c a b ∙ w.cells_stay y c a b;
                ring-stays = λ k c q. connect-other v pv o (arc_at m per k) c (before-not-pair k q) (pair-not-outer k i q l) ∙ connect-other t o nx (arc_at m per k) c (pair-not-outer k i q l) (after-not-pair k q) ∙ w.ring-stays k c q;
              }
          go false = w

    -- so the ring stands
    pub inserted : (t : Table) → Outside m per t₀ t → Inserted m per f t
    inserted t o =
        record {
          ends = o.ends;
          next-on = λ i l. o.ring-stays i 2 l ∙ h.next-on i l;
          previous-on = λ i l. o.ring-stays (after (length per) i) 3 (after-low (length per) i l) ∙ h.previous-on i l;
          face-on = λ i l. o.ring-stays i 4 l ∙ h.face-on i l;
          faces-stay = λ y n. o.cells_stay y 4 (λ e. omega arith) (λ e. omega arith) ∙ h.others-stay y 4 n;
        }

    -- the exterior, in the mesh with any faces and counters
    pub outside : (faces : Table) (counters : List ℕ) → (t : Table) × (exterior per lists (mesh m.vertices m.positions t₀ m.edges faces counters) ≡ mesh m.vertices m.positions t m.edges faces counters) × Inserted m per f t
    unfolding exterior
    outside faces counters =
        go (arcs-loop (in_mesh faces counters lists t₀) (exterior_at per lists) (λ k t. Outside m per t₀ t) (length per) (record { ends = h.linked.ends; cells_stay = λ y c a b. refl; ring-stays = λ k c q. refl }) (λ i t l w. (turned m per lists i t, exterior-turns faces counters lists i t w.ends, outside-one t w i l)))
      where
        go : (t : Table) × (up_to (exterior_at per lists) (length per) (in_mesh faces counters lists t₀) ≡ in_mesh faces counters lists t) × Outside m per t₀ t → (t : Table) × (up_to (exterior_at per lists) (length per) (in_mesh faces counters lists t₀) ≡ in_mesh faces counters lists t) × Inserted m per f t
        go w = (w.0, w.1, inserted w.0 w.2)
