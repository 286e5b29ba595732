-- The border of a face insert whose lists are empty and whose arcs' opposites have no face: these are linked in a ring the other way round,
-- and no other row changes.
use Prim.Native.Nat.{ℕ, suc, ◌≤◌, ◌<◌}
use native.Mathlib.Omega.{arith}
use native.Mathlib.Decide.{ℕ_discrete}
use mathlib.Core.Path.{◌≡◌, refl, ap, sym, ◌∙◌}
use mathlib.Core.List.{List, []}
use lib.ListN.{length, get_or}
use borrow.Author.Tests.{eq-eqb}
use Rattle.rules.specs.Table.{Table, cell, up_to, after}
use Rattle.rules.specs.Mesh.{Mesh, mesh, opposite}
use Rattle.rules.specs.Insert.{faceless_in, exterior_at, exterior}
use Rattle.proved.specs.Facts.{IsArc}
use Rattle.kept.specs.Frame.{AllButRings, connect_in, Linked}
use Rattle.kept.specs.Perimeter.{Perimeter, corner, Blank, Inside, outer, after_outer, before_outer, turned, Outside, Border}
use Rattle.kept.proofs.Links.{connect-next-other, connect-next-here, connect-previous-other, connect-previous-here, connect-other, linked-connect, arc-wide, arcs-loop}
use Rattle.kept.proofs.Round.{after-low, after_one, before, before-low, after-before, before-after}
use Rattle.kept.proofs.Interior.{Joined}
use Rattle.kept.proofs.Exterior.{outer-is, outer-leaves, outer-arrives, one-outer, pair-not-outer, exterior-turns, previous-is, next-is, outside-one}

-- ---- the border, where the perimeter's arcs and their opposites are new and the lists are empty

module _ (m : Mesh) (s : AllButRings m) (per : List ℕ) (p : Perimeter m per) (j : Joined m per) (blank : (i : ℕ) → i < length per → Blank m (outer m per i)) (lists : List (List ℕ)) (empty : (i : ℕ) → i < length per → get_or lists i [] ≡ []) (f : ℕ) (some : 1 ≤ f) (t₀ : Table) (h : Inside m per f t₀) where
  record BorderUpTo (k : ℕ) (t : Table) : Type 0 where
    out : Outside m per t₀ t
    linked : Linked m t
    next-round : (i : ℕ) → i < k → i < length per → cell t (outer m per (after (length per) i)) 2 ≡ outer m per i
    previous-round : (i : ℕ) → i < k → i < length per → cell t (outer m per i) 3 ≡ outer m per (after (length per) i)
    others-stay : (y c : ℕ) → ((i : ℕ) → i < length per → y ≡ outer m per i → ⊥) → cell t y c ≡ cell t₀ y c

  module _ (k : ℕ) (l : k < length per) (t : Table) (w : BorderUpTo k t) where
    -- what follows the opposite of pair k, and what precedes it
    after_is : after_outer m per lists k t ≡ outer m per (before (length per) k)
    unfolding after_outer faceless_in
    after_is = rw (empty k l) (ap (opposite m) (previous-is m s per p j f some t₀ h lists t w.out k l))

    before-is : before_outer m per lists k t ≡ outer m per (after (length per) k)
    unfolding before_outer faceless_in
    before-is = rw (empty (after (length per) k) (after-low (length per) k l)) (ap (opposite m) (next-is m s per p j f some t₀ h lists t w.out k l))

    no-face : cell t (outer m per k) 4 ≡ 0
    no-face =
        w.out.cells_stay (outer m per k) 4 (λ e. omega arith) (λ e. omega arith)
        ∙ h.others-stay (outer m per k) 4 (λ i q e. pair-not-outer m s per p j i k q l (sym e))
        ∙ (blank k l).no-face

    turned-is : turned m per lists k t ≡ connect_in (connect_in t (outer m per k) (outer m per (before (length per) k))) (outer m per (after (length per) k)) (outer m per k)
    unfolding turned
    turned-is = rw (eq-eqb (cell t (outer m per k) 4) 0 no-face, after_is, before-is)

    border-one : BorderUpTo (suc k) (turned m per lists k t)
    border-one =
        record {
          out = outside-one m s per p j f some t₀ h lists t w.out k l;
          linked = rw turned-is lu;
          next-round = λ i a b. rw turned-is (nexts i a b (ℕ_discrete i k));
          previous-round = λ i a b. rw turned-is (previouses i a b (ℕ_discrete i k));
          others-stay = λ y c z. rw turned-is (connect-other v q o y c (z (after n k) al) (z k l) ∙ connect-other t o r y c (z k l) (z (before n k) bl) ∙ w.others-stay y c z);
        }
      where
        n : ℕ
        n = length per

        o : ℕ
        o = outer m per k

        r : ℕ
        r = outer m per (before n k)

        q : ℕ
        q = outer m per (after n k)

        al : after n k < n
        al = after-low n k l

        bl : before n k < n
        bl = before-low n k l

        ao : IsArc m o
        ao = (outer-is m s per p j k l).exists

        ar : IsArc m r
        ar = (outer-is m s per p j (before n k) bl).exists

        aq : IsArc m q
        aq = (outer-is m s per p j (after n k) al).exists

        v : Table
        v = connect_in t o r

        lv : Linked m v
        lv = linked-connect m t w.linked o r ao ar (outer-leaves m s per p j (before n k) bl ∙ ap (corner per) (after-before n k l) ∙ sym (outer-arrives m s per p j k l))

        u : Table
        u = connect_in v q o

        lu : Linked m u
        lu = linked-connect m v lv q o aq ao (outer-leaves m s per p j k l ∙ sym (outer-arrives m s per p j (after n k) al))

        nexts : (i : ℕ) → i < suc k → i < n → Dec (i ≡ k) → cell u (outer m per (after n i)) 2 ≡ outer m per i
        nexts i a b (yes e) = rw e (connect-next-here v q o (arc-wide m s v lv.ends q aq))
        nexts i a b (no ne) =
            connect-next-other v q o (outer m per (after n i)) (λ e. ne (after_one n i k b l (one-outer m s per p j (after n i) (after n k) (after-low n i b) al e)))
            ∙ go (ℕ_discrete (after n i) k)
          where
            go : Dec (after n i ≡ k) → cell v (outer m per (after n i)) 2 ≡ outer m per i
            go (yes e) = rw e (connect-next-here t o r (arc-wide m s t w.linked.ends o ao)) ∙ ap (outer m per) (ap (before n) (sym e) ∙ before-after n i b)
            go (no d) = connect-next-other t o r (outer m per (after n i)) (λ e. d (one-outer m s per p j (after n i) k (after-low n i b) l e)) ∙ w.next-round i (omega arith) b

        previouses : (i : ℕ) → i < suc k → i < n → Dec (i ≡ k) → cell u (outer m per i) 3 ≡ outer m per (after n i)
        previouses i a b (yes e) = rw e (connect-previous-here v q o (arc-wide m s v lv.ends o ao))
        previouses i a b (no ne) =
            connect-previous-other v q o (outer m per i) (λ e. ne (one-outer m s per p j i k b l e)) ∙ go (ℕ_discrete i (before n k))
          where
            go : Dec (i ≡ before n k) → cell v (outer m per i) 3 ≡ outer m per (after n i)
            go (yes e) = rw e (connect-previous-here t o r (arc-wide m s t w.linked.ends r ar) ∙ ap (outer m per) (sym (after-before n k l)))
            go (no d) = connect-previous-other t o r (outer m per i) (λ e. d (one-outer m s per p j i (before n k) b bl e)) ∙ w.previous-round i (omega arith) b

  -- what the exterior leaves
  pub record Bordered (t : Table) : Type 0 where
    pub out : Outside m per t₀ t
    pub linked : Linked m t
    pub border : Border m per t
    pub others-stay : (y c : ℕ) → ((i : ℕ) → i < length per → y ≡ outer m per i → ⊥) → cell t y c ≡ cell t₀ y c

  pub bordered : (faces : Table) (counters : List ℕ) → (t : Table) × (exterior per lists (mesh m.vertices m.positions t₀ m.edges faces counters) ≡ mesh m.vertices m.positions t m.edges faces counters) × Bordered t
  unfolding exterior
  bordered faces counters =
      go (arcs-loop (in_mesh t₀) (exterior_at per lists) BorderUpTo (length per) start (λ i t l w. (turned m per lists i t, exterior-turns m s per p j faces counters lists i t w.out.ends, border-one i l t w)))
    where
      in_mesh : Table → Mesh
      in_mesh t = mesh m.vertices m.positions t m.edges faces counters

      start : BorderUpTo 0 t₀
      start =
          record { out = record { ends = h.linked.ends; cells_stay = λ y c a b. refl; ring-stays = λ k c q. refl }; linked = h.linked; next-round = λ i a l. let z : ⊥ = omega arith in absurd z; previous-round = λ i a l. let z : ⊥ = omega arith in absurd z; others-stay = λ y c z. refl }

      go : (t : Table) × (up_to (exterior_at per lists) (length per) (in_mesh t₀) ≡ in_mesh t) × BorderUpTo (length per) t → (t : Table) × (up_to (exterior_at per lists) (length per) (in_mesh t₀) ≡ in_mesh t) × Bordered t
      go w =
          let o = w.2 in
          (w.0, w.1, record { out = o.out; linked = o.linked; border = record { next-round = λ i l. o.next-round i l l; previous-round = λ i l. o.previous-round i l l }; others-stay = o.others-stay })
