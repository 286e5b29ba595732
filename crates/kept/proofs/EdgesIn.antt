-- The edges of a face insert, for any perimeter: every pair has its arc afterwards, nothing that was there changes but leading arcs on the
-- perimeter, every clause of Sound is kept, and the need is enough: each new edge finds its row and its key.
use Prim.Native.Nat.{ℕ, zero, suc, ◌+◌, ◌*◌, ◌≤◌, ◌<◌}
use native.Mathlib.Omega.{arith}
use native.Mathlib.Decide.{ℕ_discrete}
use mathlib.Core.Path.{◌≡◌, refl, ap, sym, subst, ◌∙◌}
use mathlib.Core.Bool.{not, cond}
use mathlib.Core.List.{List}
use mathlib.Core.Logic.{◌⊎◌, inl, inr}
use lib.ListN.{length, get_or}
use lib.Dec.{T, eqb}
use borrow.Author.Tests.{ne_eqb, eq-eqb}
use Rattle.rules.specs.Table.{there, Table, cell, count, unused, sum_below, up_to, after, has}
use Rattle.rules.specs.Mesh.{Mesh, source, dest, edge, edge_arc, edge_other, find_arc, key_limit, edge_kind, next_key}
use Rattle.rules.specs.Link.{new_edge, get_or_insert_edge}
use Rattle.rules.specs.Insert.{arc_at, edges_in}
use Rattle.rules.specs.Call.{pairs_without}
use Rattle.proved.specs.Facts.{IsVertex, IsArc, IsEdge, IsFace}
use Rattle.proved.proofs.Rows.{differ-T, in_table}
use Rattle.proved.proofs.Around.{place-has}
use Rattle.kept.specs.Frame.{AllButRings, RingStays, ThreeCounters, RoomForEdge, MadeEdge}
use Rattle.kept.specs.Perimeter.{Perimeter, corner, following, NewArc, Grown}
use Rattle.kept.specs.Said.{edges_up_to}
use Rattle.kept.proofs.Free.{old-cell}
use Rattle.kept.proofs.Rings.{stays-none, stays-onto}
use Rattle.kept.proofs.Round.{after-low, after-differs, after-twice}
use Rattle.kept.proofs.Find.{Between, arc-back, arc-some}
use Rattle.kept.proofs.Edge.{made-edge, made-old-cell, made-old-arc, made-arc-cases, made-ring, edge_kept}

-- ---- a loop over a mesh

pub mesh-loop : (g : ℕ → Mesh → Mesh) (P : ℕ → Mesh → Type 0) (n : ℕ) (m : Mesh) → P 0 m → ((i : ℕ) (a : Mesh) → i < n → P i a → P (suc i) (g i a)) → P n (up_to g n m)
unfolding up_to
mesh-loop g P zero m p h = p
mesh-loop g P (suc n) m p h = h n (up_to g n m) (omega arith) (mesh-loop g P n m p (λ i a l. h i a (omega arith)))

-- the edges of the whole perimeter
pub edges-said : (per : List ℕ) (m : Mesh) → edges_in per m ≡ edges_up_to per (length per) m
unfolding edges_in edges_up_to
edges-said per m = refl

-- a vertex of the perimeter is on it
pub on-place : (per : List ℕ) {v : ℕ} (j : ℕ) → j < length per → v ≡ corner per j → T (has per v)
on-place per j q p = subst (λ (z : ℕ). T (has per z)) (sym p) (place-has per j q)

-- ---- a mesh that grows

pub grown-none : (per : List ℕ) (m : Mesh) → Grown per m m
grown-none per m =
    record { arc-rows = refl; arcs-stay = λ x c u. refl; arcs-new = λ x u n. absurd (n u); edges-stay = λ e c u. refl; vertex-rows = refl; vertex-cells = λ v c n. refl; vertices-stay = λ v c n. refl; positions-stay = refl; faces-stay = refl; vertex-counter = refl; face-counter = refl; counter-rows = refl }

module _ {per : List ℕ} {m a : Mesh} (g : Grown per m a) where
  pub grown-arc : (x : ℕ) → IsArc m x → IsArc a x
  grown-arc x u = subst (λ (z : ℕ). T (not (eqb z 0))) (sym (g.arcs-stay x 0 u)) u

  pub grown-edge : (e : ℕ) → IsEdge m e → IsEdge a e
  grown-edge e u = subst (λ (z : ℕ). T (not (eqb z 0))) (sym (g.edges-stay e 0 u)) u

  pub grown-vertex : (v : ℕ) → IsVertex m v → IsVertex a v
  grown-vertex v u = subst (λ (z : ℕ). T (not (eqb z 0))) (sym (g.vertex-cells v 0 (λ q. omega arith))) u

  -- a new arc has a new edge: one that was there names two arcs that were
  pub grown-new-edge : AllButRings m → AllButRings a → (x : ℕ) → IsArc a x → (IsArc m x → ⊥) → IsEdge m (edge a x) → ⊥
  grown-new-edge s t x u o w = go (t.edge-names x u)
    where
      e : ℕ
      e = edge a x

      go : (edge_arc a e ≡ x) ⊎ (edge_other a e ≡ x) → ⊥
      go (inl q) = o (subst (IsArc m) (sym (g.edges-stay e 1 w) ∙ q) (s.both-arcs e w).first-exists)
      go (inr q) = o (subst (IsArc m) (sym (g.edges-stay e 2 w) ∙ q) (s.both-arcs e w).second-exists)

  -- one edge more
  pub grown-more : {n : Mesh} {x y e : ℕ} (i : ℕ) → i < length per → MadeEdge a n (corner per i) (following per i) x y e → Grown per m n
  grown-more {n} {x} {y} i l w =
      record {
        arc-rows = w.arc-rows ∙ g.arc-rows;
        arcs-stay = λ k c u. made-old-cell w k c (grown-arc k u) ∙ g.arcs-stay k c u;
        arcs-new = λ k u o. new k o (made-arc-cases w k u);
        edges-stay = λ k c u. old-cell w.edge_row k c (grown-edge k u) ∙ g.edges-stay k c u;
        vertex-rows = w.vertex-rows ∙ g.vertex-rows;
        vertex-cells = λ v c q. w.vertex-cells v c q ∙ g.vertex-cells v c q;
        vertices-stay = λ v c q. w.other-vertices v c (λ p. q (on-place per i l p)) (λ p. q (on-place per (after (length per) i) (after-low (length per) i l) p)) ∙ g.vertices-stay v c q;
        positions-stay = w.positions-stay ∙ g.positions-stay;
        faces-stay = w.faces-stay ∙ g.faces-stay;
        vertex-counter = w.vertex-counter ∙ g.vertex-counter;
        face-counter = w.face-counter ∙ g.face-counter;
        counter-rows = w.counter-rows ∙ g.counter-rows;
      }
    where
      new : (k : ℕ) → (IsArc m k → ⊥) → (k ≡ x) ⊎ ((k ≡ y) ⊎ IsArc a k) → NewArc per n k
      new k o (inl p) =
          record {
            blank = record { no-next = ap (λ (z : ℕ). cell n.arcs z 2) p ∙ w.first-row 2; no-previous = ap (λ (z : ℕ). cell n.arcs z 3) p ∙ w.first-row 3; no-face = ap (λ (z : ℕ). cell n.arcs z 4) p ∙ w.first-row 4 };
            pair = record { place = i; on = l; ends = inl (ap (source n) p ∙ w.first-row 0, ap (dest n) p ∙ w.first-row 1) };
          }
      new k o (inr (inl p)) =
          record {
            blank = record { no-next = ap (λ (z : ℕ). cell n.arcs z 2) p ∙ w.second-row 2; no-previous = ap (λ (z : ℕ). cell n.arcs z 3) p ∙ w.second-row 3; no-face = ap (λ (z : ℕ). cell n.arcs z 4) p ∙ w.second-row 4 };
            pair = record { place = i; on = l; ends = inr (ap (source n) p ∙ w.second-row 0, ap (dest n) p ∙ w.second-row 1) };
          }
      new k o (inr (inr u)) =
          let h = g.arcs-new k u o in
          record {
            blank = record { no-next = made-old-cell w k 2 u ∙ h.blank.no-next; no-previous = made-old-cell w k 3 u ∙ h.blank.no-previous; no-face = made-old-cell w k 4 u ∙ h.blank.no-face };
            pair = rw (made-old-cell w k 0 u, made-old-cell w k 1 u) h.pair;
          }

-- ---- the edges

-- the need of a pair: one edge if it has no arc
abbrev pub need_at : Mesh → List ℕ → ℕ → ℕ
need_at m per i = cond (eqb (arc_at m per i) 0) 1 0

-- a sum goes up
pub sum-up : (f : ℕ → ℕ) (k n : ℕ) → k ≤ n → sum_below f k ≤ sum_below f n
unfolding sum_below
sum-up f k zero l = let z : k ≡ 0 = omega arith in rw z (omega arith)
sum-up f k (suc n) l = go (ℕ_discrete k (suc n)) (sum-up f k n)
  where
    go : Dec (k ≡ suc n) → (k ≤ n → sum_below f k ≤ sum_below f n) → sum_below f k ≤ sum_below f n + f n
    go (yes e) ih = rw e (omega arith)
    go (no ne) ih = omega (arith, ih (omega arith))

pub sum-next : (f : ℕ → ℕ) (k : ℕ) → sum_below f (suc k) ≡ sum_below f k + f k
unfolding sum_below
sum-next f k = refl

-- after the first k pairs
pub record EdgesUpTo (m : Mesh) (per : List ℕ) (k : ℕ) (a : Mesh) : Type 0 where
  pub base : AllButRings a
  pub rings-stay : (g : ℕ) → IsFace m g → RingStays m a g
  pub grown : Grown per m a
  pub joined : (i : ℕ) → i < k → (x : ℕ) × Between a.arcs (corner per i) (following per i) x
  -- an arc of a later pair was there before
  pub later : (i : ℕ) → k ≤ i → i < length per → (x : ℕ) → Between a.arcs (corner per i) (following per i) x → IsArc m x
  -- one edge, two arcs and one key for each pair that had no arc
  pub edges-made : count unused a.edges + sum_below (need_at m per) k ≡ count unused m.edges
  pub arcs-made : count unused a.arcs + 2 * sum_below (need_at m per) k ≡ count unused m.arcs
  pub keys-made : next_key a edge_kind ≡ next_key m edge_kind + sum_below (need_at m per) k

-- what the edges of a perimeter need
pub record RoomForEdges (m : Mesh) (per : List ℕ) : Type 0 where
  pub rows : pairs_without m per ≤ count unused m.edges
  pub keys : next_key m edge_kind + pairs_without m per ≤ key_limit
  pub counters : ThreeCounters m

module _ (m : Mesh) (per : List ℕ) (p : Perimeter m per) (r : RoomForEdges m per) where
  module _ (i : ℕ) (l : i < length per) (a : Mesh) (w : EdgesUpTo m per i a) where
    small : length a.arcs ≤ 16384
    small = omega (arith, w.base.sizes.arc-rows, w.base.sizes.edge-rows)

    -- a pair that has no arc now had none before
    had-none : find_arc a (corner per i) (following per i) ≡ 0 → need_at m per i ≡ 1
    unfolding arc_at
    had-none e = go (ℕ_discrete (find_arc m (corner per i) (following per i)) 0)
      where
        go : Dec (find_arc m (corner per i) (following per i) ≡ 0) → ◌≡◌ {A = ℕ} (cond (eqb (find_arc m (corner per i) (following per i)) 0) 1 0) 1
        go (yes q) = rw (eq-eqb (find_arc m (corner per i) (following per i)) 0 q)
        go (no n) =
            let b = arc-back m.arcs (corner per i) (following per i) n in
            let x = find_arc m (corner per i) (following per i) in
            absurd (arc-some a.arcs (corner per i) (following per i) small x (record { exists = grown-arc w.grown x b.exists; leaves = w.grown.arcs-stay x 0 b.exists ∙ b.leaves; arrives = w.grown.arcs-stay x 1 b.exists ∙ b.arrives }) e)

    -- the need is enough: an edge that is to be made finds its row and its key
    pub edge-finds-room : find_arc a (corner per i) (following per i) ≡ 0 → RoomForEdge a (corner per i) (following per i)
    unfolding pairs_without
    edge-finds-room e =
        let one = had-none e in
        let up = sum-up (need_at m per) (suc i) (length per) l in
        let more = sum-next (need_at m per) i in
        record {
          from-vertex = grown-vertex w.grown (corner per i) (p.vertices i l);
          to-vertex = grown-vertex w.grown (following per i) (p.vertices (after (length per) i) (after-low (length per) i l));
          ends-differ = λ q. after-differs (length per) i (omega (arith, p.at-least-3)) l (p.differ i (after (length per) i) l (after-low (length per) i l) q);
          no-arc = λ x u s d. arc-some a.arcs (corner per i) (following per i) small x (record { exists = u; leaves = s; arrives = d }) e;
          a-row = omega (arith, one, up, more, w.edges-made, r.rows);
          a_key = omega (arith, one, up, more, w.keys-made, r.keys);
          counters = omega (arith, r.counters, w.grown.counter-rows);
        }

    -- where the pair has an arc
    edge-there : (find_arc a (corner per i) (following per i) ≡ 0 → ⊥) → EdgesUpTo m per (suc i) a
    unfolding arc_at
    edge-there n =
        let more = sum-next (need_at m per) i in
        record { base = w.base; rings-stay = w.rings-stay; grown = w.grown; joined = λ j q. at j q (ℕ_discrete j i); later = λ j q. w.later j (omega arith); edges-made = omega (arith, more, had, w.edges-made); arcs-made = omega (arith, more, had, w.arcs-made); keys-made = omega (arith, more, had, w.keys-made) }
      where
        b : Between a.arcs (corner per i) (following per i) (find_arc a (corner per i) (following per i))
        b = arc-back a.arcs (corner per i) (following per i) n

        -- it had one before
        had : need_at m per i ≡ 0
        had =
            let x = find_arc a (corner per i) (following per i) in
            let u = w.later i (omega arith) l x b in
            let small₀ : length m.arcs ≤ 16384 = omega (arith, small, w.grown.arc-rows) in
            rw (ne_eqb (find_arc m (corner per i) (following per i)) 0 (arc-some m.arcs (corner per i) (following per i) small₀ x (record { exists = u; leaves = sym (w.grown.arcs-stay x 0 u) ∙ b.leaves; arrives = sym (w.grown.arcs-stay x 1 u) ∙ b.arrives })))

        at : (j : ℕ) → j < suc i → Dec (j ≡ i) → (x : ℕ) × Between a.arcs (corner per j) (following per j) x
        at j q (yes e) = rw e (find_arc a (corner per i) (following per i), arc-back a.arcs (corner per i) (following per i) n)
        at j q (no ne) = w.joined j (omega arith)

    -- where it has none
    edge-made : find_arc a (corner per i) (following per i) ≡ 0 → EdgesUpTo m per (suc i) (new_edge a (corner per i) (following per i))
    edge-made e =
        let o = edge-finds-room e in
        let d = made-edge a w.base (corner per i) (following per i) o in
        let more = sum-next (need_at m per) i in
        let one = had-none e in
        record {
          base = edge_kept d o w.base;
          rings-stay = λ g u. stays-onto (w.rings-stay g u) (made-ring d o w.base g (subst (λ (z : Table). T (there z g)) (sym w.grown.faces-stay) u));
          grown = grown-more w.grown i l d;
          joined = λ j q. at d j q (ℕ_discrete j i);
          later = λ j q v x b. before j q v x b d (made-arc-cases d x b.exists);
          edges-made = omega (arith, more, one, w.edges-made, d.edge_row.fewer);
          arcs-made = omega (arith, more, one, w.arcs-made, d.arcs-fewer);
          keys-made = omega (arith, more, one, w.keys-made, d.edge-counter);
        }
      where
        n : Mesh
        n = new_edge a (corner per i) (following per i)

        corner-some : corner per i ≡ 0 → ⊥
        corner-some z = let t = in_table m.vertices (corner per i) (p.vertices i l) in omega arith

        -- neither new arc joins a later pair
        before : (j : ℕ) → suc i ≤ j → j < length per → (k : ℕ) → Between n.arcs (corner per j) (following per j) k → {x y f : ℕ} → MadeEdge a n (corner per i) (following per i) x y f → (k ≡ x) ⊎ ((k ≡ y) ⊎ IsArc a k) → IsArc m k
        before j q v k b d (inl z) =
            let e = p.differ j i v l (sym b.leaves ∙ ap (source n) z ∙ d.first-row 0) in
            let o : ⊥ = omega arith in
            absurd o
        before j q v k b d (inr (inl z)) =
            let e = p.differ j (after (length per) i) v (after-low (length per) i l) (sym b.leaves ∙ ap (source n) z ∙ d.second-row 0) in
            let g = p.differ (after (length per) j) i (after-low (length per) j v) l (sym b.arrives ∙ ap (dest n) z ∙ d.second-row 1) in
            absurd (after-twice (length per) i p.at-least-3 l (ap (after (length per)) (sym e) ∙ g))
        before j q v k b d (inr (inr u)) =
            w.later j (omega arith) v k (record { exists = u; leaves = sym (made-old-cell d k 0 u) ∙ b.leaves; arrives = sym (made-old-cell d k 1 u) ∙ b.arrives })

        at : {x y f : ℕ} → MadeEdge a n (corner per i) (following per i) x y f → (j : ℕ) → j < suc i → Dec (j ≡ i) → (k : ℕ) × Between n.arcs (corner per j) (following per j) k
        at {x} d j q (yes z) = (x, record { exists = rw (d.first-row 0) (differ-T (corner per i) 0 corner-some); leaves = d.first-row 0 ∙ ap (corner per) (sym z); arrives = d.first-row 1 ∙ ap (following per) (sym z) })
        at d j q (no ne) =
            let b = w.joined j (omega arith) in
            (b.0, record { exists = made-old-arc d b.0 b.1.exists; leaves = made-old-cell d b.0 0 b.1.exists ∙ b.1.leaves; arrives = made-old-cell d b.0 1 b.1.exists ∙ b.1.arrives })

    one-edge : EdgesUpTo m per (suc i) (get_or_insert_edge a (corner per i) (following per i))
    unfolding get_or_insert_edge
    one-edge = go (ℕ_discrete (find_arc a (corner per i) (following per i)) 0)
      where
        go : Dec (find_arc a (corner per i) (following per i) ≡ 0) → EdgesUpTo m per (suc i) (cond (eqb (find_arc a (corner per i) (following per i)) 0) (new_edge a (corner per i) (following per i)) a)
        go (yes e) = rw (eq-eqb (find_arc a (corner per i) (following per i)) 0 e) (edge-made e)
        go (no n) = rw (ne_eqb (find_arc a (corner per i) (following per i)) 0 n) (edge-there n)

  -- the first k pairs
  pub edges-up-to : AllButRings m → (k : ℕ) → k ≤ length per → EdgesUpTo m per k (edges_up_to per k m)
  unfolding edges_up_to sum_below
  edges-up-to s k h =
      mesh-loop (λ i a. get_or_insert_edge a (get_or per i 0) (get_or per (after (length per) i) 0)) (EdgesUpTo m per) k m
      (record { base = s; rings-stay = λ g u. stays-none m g; grown = grown-none per m; joined = λ i l. let z : ⊥ = omega arith in absurd z; later = λ i l v x b. b.exists; edges-made = omega arith; arcs-made = omega arith; keys-made = omega arith })
      (λ i a l w. one-edge i (omega arith) a w)

  -- each pair that has no arc when its turn comes finds the row and the key for one
  pub each-edge-finds-room : AllButRings m → (i : ℕ) → i < length per → find_arc (edges_up_to per i m) (corner per i) (following per i) ≡ 0 → RoomForEdge (edges_up_to per i m) (corner per i) (following per i)
  each-edge-finds-room s i l e = edge-finds-room i l (edges_up_to per i m) (edges-up-to s i (omega arith)) e

  pub edges-in : AllButRings m → EdgesUpTo m per (length per) (edges_in per m)
  edges-in s = rw (edges-said per m) (edges-up-to s (length per) (omega arith))
