-- The interior of a face insert, for any perimeter whose pairs all have arcs: these are linked in a ring and hold the face, and no other row
-- changes.
use Prim.Native.Nat.{ℕ, suc, ◌<◌}
use native.Mathlib.Omega.{arith}
use native.Mathlib.Decide.{ℕ_discrete}
use mathlib.Core.Path.{◌≡◌, refl, ap, sym, ◌∙◌}
use mathlib.Core.List.{List}
use lib.ListN.{length}
use Rattle.rules.specs.Table.{Table, cell, put, up_to, after}
use Rattle.rules.specs.Mesh.{Mesh, mesh, with_arcs, source, dest}
use Rattle.rules.specs.Link.{connect, set_face}
use Rattle.rules.specs.Insert.{arc_at, interior}
use Rattle.proved.specs.Facts.{IsArc}
use Rattle.kept.specs.Frame.{AllButRings, connect_in, SameEnds, Linked}
use Rattle.kept.specs.Perimeter.{Perimeter, corner, following, Inside}
use Rattle.kept.proofs.Cells.{put-other-row, put-other-cell, put-here}
use Rattle.kept.proofs.Links.{connect-is, set_face-is, connect-cell, connect-next-other, connect-next-here, connect-previous-other, connect-previous-here, connect-other, linked-same, linked-face, linked-connect, arc-wide, arcs-loop}
use Rattle.kept.proofs.Round.{after-low, after_one}
use Rattle.kept.proofs.Find.{Between, arc-back, arc-some}
use Rattle.kept.proofs.Opposite.{ends-between}

-- a perimeter whose pairs all have arcs
abbrev pub Joined : Mesh → List ℕ → Type 0
Joined m per = (i : ℕ) → i < length per → (x : ℕ) × Between m.arcs (corner per i) (following per i) x

module _ (m : Mesh) (s : AllButRings m) (per : List ℕ) (p : Perimeter m per) (j : Joined m per) where
  -- the arc of each pair joins it, and no two pairs have one arc
  pub pair-arc : (i : ℕ) → i < length per → Between m.arcs (corner per i) (following per i) (arc_at m per i)
  unfolding arc_at
  pair-arc i l =
      let w = j i l in
      arc-back m.arcs (corner per i) (following per i) (arc-some m.arcs (corner per i) (following per i) (omega (arith, s.sizes.arc-rows, s.sizes.edge-rows)) w.0 w.1)

  pub one-pair : (i k : ℕ) → i < length per → k < length per → arc_at m per i ≡ arc_at m per k → i ≡ k
  one-pair i k a b e = p.differ i k a b (sym (pair-arc i a).leaves ∙ ap (source m) e ∙ (pair-arc k b).leaves)

  -- the next pair's arc leaves where a pair's arc ends
  pub pairs-meet : (i : ℕ) → i < length per → source m (arc_at m per (after (length per) i)) ≡ dest m (arc_at m per i)
  pairs-meet i l = (pair-arc (after (length per) i) (after-low (length per) i l)).leaves ∙ sym (pair-arc i l).arrives

  -- and it is found so however the arcs are linked
  pub pair_found : (b : Mesh) (t : Table) → SameEnds m t → (i : ℕ) → arc_at (with_arcs b t) per i ≡ arc_at m per i
  unfolding arc_at
  pair_found b t w i = ends-between m t w (corner per i) (following per i)

  module _ (f : ℕ) where
    -- after the first k pairs
    record InsideUpTo (k : ℕ) (t : Table) : Type 0 where
      linked : Linked m t
      next-on : (i : ℕ) → i < k → i < length per → cell t (arc_at m per i) 2 ≡ arc_at m per (after (length per) i)
      previous-on : (i : ℕ) → i < k → i < length per → cell t (arc_at m per (after (length per) i)) 3 ≡ arc_at m per i
      face-on : (i : ℕ) → i < k → i < length per → cell t (arc_at m per i) 4 ≡ f
      others-stay : (y c : ℕ) → ((i : ℕ) → i < length per → y ≡ arc_at m per i → ⊥) → cell t y c ≡ cell m.arcs y c

    inside_one : (k : ℕ) → k < length per → (t : Table) → InsideUpTo k t → InsideUpTo (suc k) (put (connect_in t (arc_at m per k) (arc_at m per (after (length per) k))) (arc_at m per k) 4 f)
    inside_one k l t w =
        record {
          linked = linked-face m v lv x f ax;
          next-on = λ i a b. put-other-cell v x 4 f (arc_at m per i) 2 (λ e. omega arith) ∙ nexts i a b (ℕ_discrete i k);
          previous-on = λ i a b. put-other-cell v x 4 f (arc_at m per (after (length per) i)) 3 (λ e. omega arith) ∙ previouses i a b (ℕ_discrete i k);
          face-on = λ i a b. faces i a b (ℕ_discrete i k);
          others-stay = λ z c o. put-other-row v x 4 f z c (o k l) ∙ connect-other t x y z c (o k l) (o (after (length per) k) al) ∙ w.others-stay z c o;
        }
      where
        x : ℕ
        x = arc_at m per k

        y : ℕ
        y = arc_at m per (after (length per) k)

        al : after (length per) k < length per
        al = after-low (length per) k l

        ax : IsArc m x
        ax = (pair-arc k l).exists

        ay : IsArc m y
        ay = (pair-arc (after (length per) k) al).exists

        v : Table
        v = connect_in t x y

        lv : Linked m v
        lv = linked-connect m t w.linked x y ax ay (pairs-meet k l)

        nexts : (i : ℕ) → i < suc k → i < length per → Dec (i ≡ k) → cell v (arc_at m per i) 2 ≡ arc_at m per (after (length per) i)
        nexts i a b (yes e) = rw e (connect-next-here t x y (arc-wide m s t w.linked.ends x ax))
        nexts i a b (no n) = connect-next-other t x y (arc_at m per i) (λ e. n (one-pair i k b l e)) ∙ w.next-on i (omega arith) b

        previouses : (i : ℕ) → i < suc k → i < length per → Dec (i ≡ k) → cell v (arc_at m per (after (length per) i)) 3 ≡ arc_at m per i
        previouses i a b (yes e) = rw e (connect-previous-here t x y (arc-wide m s t w.linked.ends y ay))
        previouses i a b (no n) =
            connect-previous-other t x y (arc_at m per (after (length per) i)) (λ e. n (after_one (length per) i k b l (one-pair (after (length per) i) (after (length per) k) (after-low (length per) i b) al e)))
            ∙ w.previous-on i (omega arith) b

        faces : (i : ℕ) → i < suc k → i < length per → Dec (i ≡ k) → cell (put v x 4 f) (arc_at m per i) 4 ≡ f
        faces i a b (yes e) = rw e (put-here v x 4 f 5 (arc-wide m s v lv.ends x ax) (omega arith))
        faces i a b (no n) =
            put-other-row v x 4 f (arc_at m per i) 4 (λ e. n (one-pair i k b l e)) ∙ connect-cell t x y (arc_at m per i) 4 (λ e. omega arith) (λ e. omega arith) ∙ w.face-on i (omega arith) b

    -- the interior, in the mesh with any faces and counters
    pub inside : (faces : Table) (counters : List ℕ) → (t : Table) × (interior per f (mesh m.vertices m.positions m.arcs m.edges faces counters) ≡ mesh m.vertices m.positions t m.edges faces counters) × Inside m per f t
    unfolding interior
    inside faces counters =
        go (arcs-loop b (λ i a. set_face (connect a (arc_at a per i) (arc_at a per (after (length per) i))) (arc_at a per i) f) InsideUpTo (length per) start (λ i t l w. (put (connect_in t (arc_at m per i) (arc_at m per (after (length per) i))) (arc_at m per i) 4 f, path i t w.linked.ends, inside_one i l t w)))
      where
        b : Mesh
        b = mesh m.vertices m.positions m.arcs m.edges faces counters

        start : InsideUpTo 0 m.arcs
        start =
            record { linked = linked-same m s; next-on = λ i a l. let z : ⊥ = omega arith in absurd z; previous-on = λ i a l. let z : ⊥ = omega arith in absurd z; face-on = λ i a l. let z : ⊥ = omega arith in absurd z; others-stay = λ y c o. refl }

        path : (i : ℕ) (t : Table) → SameEnds m t → set_face (connect (with_arcs b t) (arc_at (with_arcs b t) per i) (arc_at (with_arcs b t) per (after (length per) i))) (arc_at (with_arcs b t) per i) f ≡ with_arcs b (put (connect_in t (arc_at m per i) (arc_at m per (after (length per) i))) (arc_at m per i) 4 f)
        path i t w =
            rw (pair_found b t w i, pair_found b t w (after (length per) i))
            (ap (λ (a : Mesh). set_face a (arc_at m per i) f) (connect-is b t (arc_at m per i) (arc_at m per (after (length per) i))) ∙ set_face-is b (connect_in t (arc_at m per i) (arc_at m per (after (length per) i))) (arc_at m per i) f)

        go : (t : Table) × (up_to (λ i a. set_face (connect a (arc_at a per i) (arc_at a per (after (length per) i))) (arc_at a per i) f) (length per) b ≡ with_arcs b t) × InsideUpTo (length per) t → (t : Table) × (up_to (λ i a. set_face (connect a (arc_at a per i) (arc_at a per (after (length per) i))) (arc_at a per i) f) (length per) b ≡ with_arcs b t) × Inside m per f t
        go w =
            (w.0, w.1, record { linked = w.2.linked; next-on = λ i l. w.2.next-on i l l; previous-on = λ i l. w.2.previous-on i l l; face-on = λ i l. w.2.face-on i l l; others-stay = w.2.others-stay })
