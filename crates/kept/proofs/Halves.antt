-- A half of a ring as a perimeter: its vertices are there, every pair but the last has its arc, and the last runs from the half's end to its
-- start.
use Prim.Native.Nat.{ℕ, suc, ◌+◌, ◌-◌, ◌<◌}
use native.Mathlib.Omega.{arith}
use native.Mathlib.Decide.{ℕ_discrete, dec_lt}
use mathlib.Core.Path.{◌≡◌, ap, sym, subst, ◌∙◌}
use mathlib.Core.List.{List}
use lib.ListN.{length, get_or, length-map}
use lib.Dec.{T}
use borrow.Author.Tests.{ne_eqb}
use Rattle.rules.specs.Table.{after, has, sum_below}
use Rattle.rules.specs.Mesh.{Mesh, ring_limit, source, dest, next, face_arc, find_arc}
use Rattle.rules.specs.Link.{ring, ring_vertices}
use Rattle.rules.specs.Insert.{arc_at}
use Rattle.rules.specs.Edit.{stretch}
use Rattle.rules.specs.Call.{pairs_without}
use Rattle.rules.proofs.Sums.{sum-zero}
use Rattle.proved.specs.Demand.{holders, onward}
use Rattle.proved.specs.Facts.{SoundFacts, RingFacts, IsVertex, IsFace}
use Rattle.proved.proofs.Rows.{in_table}
use Rattle.proved.proofs.Around.{times_none, times_more, walk_at, has-place, place-has}
use Rattle.proved.proofs.Ring.{ring-counts, ring-from}
use Rattle.kept.specs.Perimeter.{corner, following}
use Rattle.kept.specs.Reaches.{KeepsEnds}
use Rattle.kept.proofs.Round.{after_on, after_last, after-low}
use Rattle.kept.proofs.Find.{Between, arc-some}
use Rattle.kept.proofs.EdgesIn.{need_at, sum-next}
use Rattle.kept.proofs.Lists.{map_at}
use Rattle.kept.proofs.Remove.{ring-place-holds}
use Rattle.kept.proofs.Stretch.{wrap, wrap-low, wrap-high, wrap-next, stretch-at, Ends, stretch-ends}

module _ (m : Mesh) (s : SoundFacts m) (f : ℕ) (u : IsFace m f) where
  abbrev on : ℕ → ℕ
  on k = get_or (ring m f) k 0

  abbrev n : ℕ
  n = length (ring m f)

  r : RingFacts m f
  r = s.rings f u

  as_long : holders m f ≡ n
  as_long = ring-counts m f (ring-from m f r)

  place_at : (k : ℕ) → k < n → on k ≡ onward m f k
  unfolding ring
  place_at k l = walk_at (next m) (face_arc m f) ring_limit (face_arc m f) k l

  -- next of an arc of the ring is the one after it
  ring-next : (k : ℕ) → k < n → next m (on k) ≡ on (after n k)
  ring-next k l = ap (next m) (place_at k l) ∙ sym (times_more (next m) k (face_arc m f)) ∙ go (ℕ_discrete (k + 1) n)
    where
      go : Dec (k + 1 ≡ n) → onward m f (suc k) ≡ on (after n k)
      go (yes e) =
          let z : suc k ≡ holders m f = omega (arith, as_long) in
          ap (onward m f) z ∙ r.returns ∙ sym (ap on (after_last n k e) ∙ place_at 0 (omega arith) ∙ times_none (next m) (face_arc m f))
      go (no ne) =
          let z : k + 1 ≡ suc k = omega arith in
          sym (ap on (after_on n k ne ∙ z) ∙ place_at (suc k) (omega arith))

  -- the ring's vertices
  abbrev vs : List ℕ
  vs = ring_vertices m f

  pub vertices-length : length vs ≡ n
  unfolding ring_vertices
  vertices-length = length-map (ring m f) (dest m)

  vertex-at : (k : ℕ) → k < n → get_or vs k 0 ≡ dest m (on k)
  unfolding ring_vertices
  vertex-at k l = map_at (dest m) (ring m f) k 0 0 l

  pub ring-vertex : (k : ℕ) → k < length vs → IsVertex m (get_or vs k 0)
  ring-vertex k l =
      let q : k < n = rw vertices-length at l in
      rw (vertex-at k q) (s.ends-exist (on k) (ring-place-holds m f r k q).exists).1

  -- an arc leaves where the one before it arrives
  pub ring-follows : (k : ℕ) → k < n → source m (on (after n k)) ≡ dest m (on k)
  ring-follows k q =
      let h = ring-place-holds m f r k q in
      let b = in_table m.arcs (on (after n k)) (ring-place-holds m f r (after n k) (after-low n k q)).exists in
      let e = ring-next k q in
      ap (source m) (sym e) ∙ (s.next-leaves (on k) h.exists (λ z. omega (arith, b.0))).1

  -- each is joined to the one after it
  pub ring-pair : (k : ℕ) → k < length vs → Between m.arcs (get_or vs k 0) (get_or vs (after (length vs) k) 0) (on (after n k))
  ring-pair k l =
      let q : k < n = rw vertices-length at l in
      record {
        exists = (ring-place-holds m f r (after n k) (after-low n k q)).exists;
        leaves = ring-follows k q ∙ sym (vertex-at k q);
        arrives = sym (ap (λ (z : ℕ). get_or vs (after z k) 0) vertices-length ∙ vertex-at (after n k) (after-low n k q));
      }

  -- ---- a half

  module _ (i j : ℕ) (a : i < length vs) (b : j < length vs) where
    abbrev pub half' : List ℕ
    half' = stretch vs i j

    ends : Ends vs i j a b
    ends = stretch-ends vs i j a b

    at : (k : ℕ) → k < length half' → corner half' k ≡ get_or vs (wrap (length vs) (i + k)) 0
    at k l = stretch-at vs i j a b k l

    wrapped : (k : ℕ) → k < length half' → wrap (length vs) (i + k) < length vs
    wrapped k l = low (i + k) (omega (arith, ends.not-longer))
      where
        low : (x : ℕ) → x < length vs + length vs → wrap (length vs) x < length vs
        low x q = go (dec_lt x (length vs))
          where
            go : Dec (x < length vs) → wrap (length vs) x < length vs
            go (yes c) = omega (arith, wrap-low (length vs) x c)
            go (no c) = omega (arith, wrap-high (length vs) x (omega arith))

    pub half-vertex : (k : ℕ) → k < length half' → IsVertex m (corner half' k)
    half-vertex k l = rw (at k l) (ring-vertex (wrap (length vs) (i + k)) (wrapped k l))

    -- and are the ring's
    pub half-on : (v : ℕ) → T (has half' v) → T (has vs v)
    half-on v h =
        let p = has-place half' v h in
        subst (λ (z : ℕ). T (has vs z)) (sym (at p.0 p.1) ∙ p.2) (place-has vs (wrap (length vs) (i + p.0)) (wrapped p.0 p.1))

    -- every pair but the last has its arc
    pub half-pair : (k : ℕ) → k + 1 < length half' → (x : ℕ) × Between m.arcs (corner half' k) (following half' k) x
    half-pair k l =
        let p : ℕ = wrap (length vs) (i + k) in
        let q : k < length half' = omega arith in
        let low = wrapped k q in
        let z : i + (k + 1) ≡ i + k + 1 = omega arith in
        let here = at k q in
        let next' : following half' k ≡ get_or vs (after (length vs) p) 0 = ap (corner half') (after_on (length half') k (λ e. omega arith)) ∙ at (k + 1) l ∙ ap (λ (y : ℕ). get_or vs y 0) (ap (wrap (length vs)) z ∙ wrap-next (length vs) (i + k) (omega (arith, ends.not-longer))) in
        (on (after n p), rw (here, next') (ring-pair p low))

    -- the last runs from its end to its start
    pub half-end : corner half' (length half' - 1) ≡ get_or vs j 0
    half-end = at (length half' - 1) (omega (arith, ends.some)) ∙ ap (λ (z : ℕ). get_or vs z 0) ends.last

    pub half-start : following half' (length half' - 1) ≡ get_or vs i 0
    half-start =
        let z : i + 0 ≡ i = omega arith in
        ap (corner half') (after_last (length half') (length half' - 1) (omega (arith, ends.some)))
        ∙ at 0 ends.some
        ∙ ap (λ (y : ℕ). get_or vs y 0) (ap (wrap (length vs)) z ∙ wrap-low (length vs) i a)

    -- so in a mesh that keeps these arcs it needs at most one edge
    pub half-need : (n' : Mesh) → KeepsEnds m n' → pairs_without n' half' ≡ need_at n' half' (length half' - 1)
    unfolding pairs_without arc_at
    half-need n' w =
        let l : ℕ = length half' - 1 in
        let e : length half' ≡ suc l = omega (arith, ends.some) in
        ap (sum_below (need_at n' half')) e ∙ only-last (need_at n' half') l (λ k q. none k (omega arith))
      where
        none : (k : ℕ) → k + 1 < length half' → need_at n' half' k ≡ 0
        none k q =
            let b = half-pair k q in
            let here : Between n'.arcs (corner half' k) (following half' k) b.0 = record { exists = w.arcs b.0 b.1.exists; leaves = w.sources b.0 b.1.exists ∙ b.1.leaves; arrives = w.dests b.0 b.1.exists ∙ b.1.arrives } in
            rw (ne_eqb (find_arc n' (corner half' k) (following half' k)) 0 (arc-some n'.arcs (corner half' k) (following half' k) (omega (arith, w.arc-rows, s.sizes.arc-rows, s.sizes.edge-rows)) b.0 here))

        only-last : (g : ℕ → ℕ) (l : ℕ) → ((k : ℕ) → k < l → g k ≡ 0) → sum_below g (suc l) ≡ g l
        only-last g l h = sum-next g l ∙ omega (arith, sum-zero g l h)
