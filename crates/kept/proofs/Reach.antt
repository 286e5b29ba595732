-- How far the exterior of any accepted insert reaches: the arcs stay linked, and next and previous change only where an arc without a face is
-- one of the two, and neither on an arc that has no end on the perimeter.
use Prim.Native.Nat.{ℕ, ◌≤◌, ◌<◌}
use native.Mathlib.Omega.{arith}
use mathlib.Core.Path.{◌≡◌, refl, ap, sym, subst, ◌∙◌}
use mathlib.Core.Bool.{Bool, true, false, cond}
use mathlib.Core.List.{List, [], map}
use mathlib.Core.Logic.{◌⊎◌, inl, inr}
use lib.ListN.{length, get_or}
use lib.Dec.{T, eqb}
use borrow.Author.Tests.{eqb-true}
use Rattle.rules.specs.Table.{Table, cell, has, after, or_else}
use Rattle.rules.specs.Mesh.{Mesh, mesh, source, dest, opposite}
use Rattle.rules.specs.Insert.{arc_at, faceless_in, exterior_at, exterior}
use Rattle.proved.specs.Facts.{IsArc}
use Rattle.kept.specs.Frame.{AllButRings, connect_in, Linked}
use Rattle.kept.specs.Perimeter.{Perimeter, corner, Inside, outer, after_outer, before_outer, turned, Outside, ListsLeave, Reached}
use Rattle.kept.proofs.Links.{connect-other, connect-next-either, connect-previous-either, linked-connect, arcs-loop}
use Rattle.kept.proofs.Round.{after-low, before, before-low, after-before}
use Rattle.kept.proofs.EdgesIn.{on-place}
use Rattle.kept.proofs.Opposite.{opposite-is}
use Rattle.kept.proofs.Interior.{Joined}
use Rattle.kept.proofs.Lists.{map-has, faceless-has}
use Rattle.kept.proofs.Exterior.{else-cases, outer-is, outer-leaves, outer-arrives, exterior-turns, previous-is, next-is, outside-one}

module _ (m : Mesh) (s : AllButRings m) (per : List ℕ) (p : Perimeter m per) (j : Joined m per) (f : ℕ) (some : 1 ≤ f) (t₀ : Table) (h : Inside m per f t₀) (lists : List (List ℕ)) (leave : ListsLeave m per lists) where
  module _ (i : ℕ) (l : i < length per) (t : Table) (w : Reached m per t₀ t) where
    abbrev o : ℕ
    o = outer m per i

    abbrev nx : ℕ
    nx = after_outer m per lists i t

    abbrev pv : ℕ
    pv = before_outer m per lists i t

    is-outer : IsArc m o
    is-outer = (outer-is m s per p j i l).exists

    -- what comes to follow the opposite arc leaves where it ends
    after-leaves : IsArc m nx × (source m nx ≡ dest m o)
    unfolding after_outer
    after-leaves = go (else-cases (faceless_in t list) other)
      where
        list : List ℕ
        list = get_or lists i []

        other : ℕ
        other = opposite m (cell t (arc_at m per i) 3)

        go : ((faceless_in t list ≡ 0 → ⊥) × (or_else (faceless_in t list) other ≡ faceless_in t list)) ⊎ (or_else (faceless_in t list) other ≡ other) → IsArc m (or_else (faceless_in t list) other) × (source m (or_else (faceless_in t list) other) ≡ dest m o)
        go (inl v) =
            let a = leave i l (faceless_in t list) (faceless-has t list v.0) in
            rw v.1 (a.0, a.1 ∙ sym (outer-arrives m s per p j i l))
        go (inr v) =
            let k = before (length per) i in
            let b = before-low (length per) i l in
            let e : other ≡ outer m per k = ap (opposite m) (previous-is m s per p j f some t₀ h lists t w.out i l) in
            subst (λ (z : ℕ). IsArc m z × (source m z ≡ dest m o)) (sym (v ∙ e)) ((outer-is m s per p j k b).exists, outer-leaves m s per p j k b ∙ ap (corner per) (after-before (length per) i l) ∙ sym (outer-arrives m s per p j i l))

    -- and what comes to precede it arrives where it leaves
    before-arrives : IsArc m pv × (source m o ≡ dest m pv)
    unfolding before_outer
    before-arrives = go (else-cases (faceless_in t list) other)
      where
        list : List ℕ
        list = map (opposite m) (get_or lists (after (length per) i) [])

        other : ℕ
        other = opposite m (cell t (arc_at m per i) 2)

        al : after (length per) i < length per
        al = after-low (length per) i l

        from : (z : ℕ) → (y : ℕ) × T (has (get_or lists (after (length per) i) []) y) × (z ≡ opposite m y) → IsArc m z × (source m o ≡ dest m z)
        from z v =
            let a = leave (after (length per) i) al v.0 v.1 in
            let b = opposite-is m s v.0 a.0 in
            subst (λ (y : ℕ). IsArc m y × (source m o ≡ dest m y)) (sym v.2) (b.exists, outer-leaves m s per p j i l ∙ sym a.1 ∙ sym b.arrives)

        go : ((faceless_in t list ≡ 0 → ⊥) × (or_else (faceless_in t list) other ≡ faceless_in t list)) ⊎ (or_else (faceless_in t list) other ≡ other) → IsArc m (or_else (faceless_in t list) other) × (source m o ≡ dest m (or_else (faceless_in t list) other))
        go (inl v) = rw v.1 (from (faceless_in t list) (map-has (opposite m) (get_or lists (after (length per) i) []) (faceless_in t list) (faceless-has t list v.0)))
        go (inr v) =
            let e : other ≡ outer m per (after (length per) i) = ap (opposite m) (next-is m s per p j f some t₀ h lists t w.out i l) in
            subst (λ (z : ℕ). IsArc m z × (source m o ≡ dest m z)) (sym (v ∙ e)) ((outer-is m s per p j (after (length per) i) al).exists, outer-leaves m s per p j i l ∙ sym (outer-arrives m s per p j (after (length per) i) al))

    reach-one : Reached m per t₀ (turned m per lists i t)
    unfolding turned
    reach-one = go (eqb (cell t o 4) 0) refl (outside-one m s per p j f some t₀ h lists t w.out i l)
      where
        v : Table
        v = connect_in t o nx

        u : Table
        u = connect_in v pv o

        lv : Linked m v
        lv = linked-connect m t w.linked o nx is-outer after-leaves.0 after-leaves.1

        -- next of y, where the opposite arc has no face
        nexts : cell t₀ o 4 ≡ 0 → (y : ℕ) → (cell u y 2 ≡ cell t₀ y 2) ⊎ ((cell t₀ y 4 ≡ 0) ⊎ (cell t₀ (cell u y 2) 4 ≡ 0))
        nexts z y = last (connect-next-either v pv o y) (connect-next-either t o nx y) (w.next-either y)
          where
            last : ((y ≡ pv) × (cell u y 2 ≡ o)) ⊎ (cell u y 2 ≡ cell v y 2) → ((y ≡ o) × (cell v y 2 ≡ nx)) ⊎ (cell v y 2 ≡ cell t y 2) → (cell t y 2 ≡ cell t₀ y 2) ⊎ ((cell t₀ y 4 ≡ 0) ⊎ (cell t₀ (cell t y 2) 4 ≡ 0)) → (cell u y 2 ≡ cell t₀ y 2) ⊎ ((cell t₀ y 4 ≡ 0) ⊎ (cell t₀ (cell u y 2) 4 ≡ 0))
            last (inl a) b c = inr (inr (ap (λ (x : ℕ). cell t₀ x 4) a.1 ∙ z))
            last (inr a) (inl b) c = inr (inl (ap (λ (x : ℕ). cell t₀ x 4) b.0 ∙ z))
            last (inr a) (inr b) (inl c) = inl (a ∙ b ∙ c)
            last (inr a) (inr b) (inr (inl c)) = inr (inl c)
            last (inr a) (inr b) (inr (inr c)) = inr (inr (ap (λ (x : ℕ). cell t₀ x 4) (a ∙ b) ∙ c))

        previouses : cell t₀ o 4 ≡ 0 → (y : ℕ) → (cell u y 3 ≡ cell t₀ y 3) ⊎ ((cell t₀ y 4 ≡ 0) ⊎ (cell t₀ (cell u y 3) 4 ≡ 0))
        previouses z y = last (connect-previous-either v pv o y) (connect-previous-either t o nx y) (w.previous-either y)
          where
            last : ((y ≡ o) × (cell u y 3 ≡ pv)) ⊎ (cell u y 3 ≡ cell v y 3) → ((y ≡ nx) × (cell v y 3 ≡ o)) ⊎ (cell v y 3 ≡ cell t y 3) → (cell t y 3 ≡ cell t₀ y 3) ⊎ ((cell t₀ y 4 ≡ 0) ⊎ (cell t₀ (cell t y 3) 4 ≡ 0)) → (cell u y 3 ≡ cell t₀ y 3) ⊎ ((cell t₀ y 4 ≡ 0) ⊎ (cell t₀ (cell u y 3) 4 ≡ 0))
            last (inl a) b c = inr (inl (ap (λ (x : ℕ). cell t₀ x 4) a.0 ∙ z))
            last (inr a) (inl b) c = inr (inr (ap (λ (x : ℕ). cell t₀ x 4) (a ∙ b.1) ∙ z))
            last (inr a) (inr b) (inl c) = inl (a ∙ b ∙ c)
            last (inr a) (inr b) (inr (inl c)) = inr (inl c)
            last (inr a) (inr b) (inr (inr c)) = inr (inr (ap (λ (x : ℕ). cell t₀ x 4) (a ∙ b) ∙ c))

        -- the rows written have an end on the perimeter
        aways : (y c : ℕ) → (T (has per (source m y)) → ⊥) → (T (has per (dest m y)) → ⊥) → cell u y c ≡ cell t₀ y c
        aways y c a b = connect-other v pv o y c not-before not-outer ∙ connect-other t o nx y c not-outer not_after ∙ w.away y c a b
          where
            al : after (length per) i < length per
            al = after-low (length per) i l

            not-outer : y ≡ o → ⊥
            not-outer e = a (on-place per (after (length per) i) al (ap (source m) e ∙ outer-leaves m s per p j i l))

            not_after : y ≡ nx → ⊥
            not_after e = a (on-place per i l (ap (source m) e ∙ after-leaves.1 ∙ outer-arrives m s per p j i l))

            not-before : y ≡ pv → ⊥
            not-before e = b (on-place per (after (length per) i) al (ap (dest m) e ∙ sym before-arrives.1 ∙ outer-leaves m s per p j i l))

        go : (b : Bool) → eqb (cell t o 4) 0 ≡ b → Outside m per t₀ (cond b u t) → Reached m per t₀ (cond b u t)
        go true e x =
            let z : cell t₀ o 4 ≡ 0 = sym (w.out.cells_stay o 4 (λ q. omega arith) (λ q. omega arith)) ∙ eqb-true (cell t o 4) 0 e in
            record { out = x; linked = linked-connect m v lv pv o before-arrives.0 is-outer before-arrives.1; next-either = nexts z; previous-either = previouses z; away = aways }
        go false e x = w

  -- the whole exterior, in the mesh with any faces and counters
  pub reach : (faces : Table) (counters : List ℕ) → (t : Table) × (exterior per lists (mesh m.vertices m.positions t₀ m.edges faces counters) ≡ mesh m.vertices m.positions t m.edges faces counters) × Reached m per t₀ t
  unfolding exterior
  reach faces counters =
      arcs-loop (mesh m.vertices m.positions t₀ m.edges faces counters) (exterior_at per lists) (λ k t. Reached m per t₀ t) (length per)
      (record { out = record { ends = h.linked.ends; cells_stay = λ y c a b. refl; ring-stays = λ k c q. refl }; linked = h.linked; next-either = λ y. inl refl; previous-either = λ y. inl refl; away = λ y c a b. refl })
      (λ i t l w. (turned m per lists i t, exterior-turns m s per p j faces counters lists i t w.out.ends, reach-one i l t w))
