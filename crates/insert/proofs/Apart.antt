-- The edge of one pair is made in unused rows, so it makes and hides no arc of a pair that joins other vertices: the arcs found before the edges
-- tell of every pair that no pair before has met. And rows that are used stay so.
use Prim.Native.Nat.{ℕ, ◌+◌, ◌-◌, ◌<◌}
use native.Mathlib.Decide.{ℕ_discrete}
use mathlib.Core.Path.{◌≡◌, refl, ap, sym, subst, ◌∙◌}
use mathlib.Core.Bool.{Bool, false, cond, ◌&&◌}
use mathlib.Core.List.{List, [], ◌∷◌}
use lib.ListN.{length, get_or, set, take, length-set}
use lib.Seq.{get_or-take}
use lib.Dec.{eqb}
use borrow.Author.Tests.{eq-eqb, ne_eqb, eqb-true}
use Rattle.rules.specs.declared.Links.{Links}
use Rattle.rules.specs.Table.{Table, put_row, first_row, link_into, free_row, after}
use Rattle.rules.specs.Mesh.{Mesh, joins, arc_between, list_of}
use Rattle.rules.specs.Link.{new_arc, new_edge, get_or_insert_edge}
use Rattle.rules.proofs.Scan.{joins-no-source}
use Rattle.edges.specs.declared.free.Lowest.{Lowest}
use Rattle.edges.specs.Free.{UsedBefore}
use Rattle.edges.proofs.Searches.{used-free, free-unused, used-arcs, used-edges}
use Rattle.pairs.specs.Pairs.{pair_arc, arcs_of, same_two, meets, met_before}
use Rattle.pairs.proofs.Listed.{pair-listed}
use Rattle.pairs.proofs.Below.{some-fewer, some-last, or_left, or_right}
use Rattle.insert.specs.Perimeter.{edge_in, IsPair}
use Rattle.insert.proofs.FoundOnce.{first-set}

-- ---- other arcs

-- a row put into the lowest unused one: arcs that it does not join stay
module _ (t : Table) (c d : ℕ) (r : List ℕ) (apart : joins c d r ≡ false) where
  row_apart : arc_between (put_row t (free_row t) r) c d ≡ arc_between t c d
  unfolding put_row arc_between
  row_apart = go (ℕ_discrete c 0) (ℕ_discrete (free_row t) 0)
    where
      go : Dec (c ≡ 0) → Dec (free_row t ≡ 0) → cond (eqb c 0) 0 (link_into (cond (eqb (free_row t) 0) t (set t (free_row t - 1) r)) (first_row (joins c d) (cond (eqb (free_row t) 0) t (set t (free_row t - 1) r)))) ≡ cond (eqb c 0) 0 (link_into t (first_row (joins c d) t))
      go (yes z) f = rw (eq-eqb c 0 z)
      go (no nz) (yes f) = rw (eq-eqb (free_row t) 0 f)
      go (no nz) (no nf) =
          let old : joins c d (get_or t (free_row t - 1) []) ≡ false = joins-no-source c d (get_or t (free_row t - 1) []) (λ e. nz (sym e ∙ eqb-true _ 0 (free-unused t nf))) in
          let same : first_row (joins c d) (set t (free_row t - 1) r) ≡ first_row (joins c d) t = first-set (joins c d) t (free_row t - 1) r (apart ∙ sym old) in
          rw (ne_eqb (free_row t) 0 nf, length-set t (free_row t - 1) r, same)

pub arc-apart : (m : Mesh) (a b e c d : ℕ) → (eqb a c && eqb b d) ≡ false → arc_between (new_arc m a b e).arcs c d ≡ arc_between m.arcs c d
unfolding new_arc
arc-apart m a b e c d h = row_apart m.arcs c d (a ∷ b ∷ 0 ∷ 0 ∷ 0 ∷ e ∷ []) h

edge-apart : (m : Mesh) (a b c d : ℕ) → same_two a b c d ≡ false → arc_between (new_edge m a b).arcs c d ≡ arc_between m.arcs c d
unfolding new_edge same_two
edge-apart m a b c d h =
    let e = free_row m.edges in
    arc-apart (new_arc m a b e) b a e c d (or_right (eqb a c && eqb b d) (eqb b c && eqb a d) h) ∙ arc-apart m a b e c d (or_left (eqb a c && eqb b d) (eqb b c && eqb a d) h)

-- ---- an edge is there, or is made

module _ (m : Mesh) (a b : ℕ) where
  edge-there : (arc_between m.arcs a b ≡ 0 → ⊥) → m ≡ get_or_insert_edge m a b
  unfolding get_or_insert_edge
  edge-there h = rw (ne_eqb (arc_between m.arcs a b) 0 h)

  edge-made : arc_between m.arcs a b ≡ 0 → new_edge m a b ≡ get_or_insert_edge m a b
  unfolding get_or_insert_edge
  edge-made h = rw (eq-eqb (arc_between m.arcs a b) 0 h)

  -- what holds of the mesh as it is, and with the edge, holds either way
  either : (P : Mesh → Type 0) → P m → P (new_edge m a b) → P (get_or_insert_edge m a b)
  either P here made = go (ℕ_discrete (arc_between m.arcs a b) 0)
    where
      go : Dec (arc_between m.arcs a b ≡ 0) → P (get_or_insert_edge m a b)
      go (yes z) = subst P (edge-made z) made
      go (no nz) = subst P (edge-there nz) here

  pub insert-apart : (c d : ℕ) → same_two a b c d ≡ false → arc_between (get_or_insert_edge m a b).arcs c d ≡ arc_between m.arcs c d
  insert-apart c d h = either (λ n. arc_between n.arcs c d ≡ arc_between m.arcs c d) refl (edge-apart m a b c d h)

-- ---- the edge of pair i, from a to b: one law for each way out of the code. x is the pair's arc

module _ (m : Mesh) (per : List ℕ) (i : ℕ) {n j a b : ℕ} (en : n ≡ length per) (ej : j ≡ after n i) (ea : a ≡ get_or per i 0) (eb : b ≡ get_or per j 0) where
  to_is : b ≡ get_or per (after (length per) i) 0
  to_is = eb ∙ ap (λ (k : ℕ). get_or per k 0) (ej ∙ ap (λ (k : ℕ). after k i) en)

  same-edge : get_or_insert_edge m a b ≡ edge_in per i m
  same-edge = rw (ea, to_is)

  pub pair-searched : {o : Mesh} → o ≡ get_or_insert_edge m a b → o ≡ edge_in per i m
  pair-searched e = e ∙ same-edge

  module _ {x : ℕ} (ex : x ≡ pair_arc m.arcs per i) where
    pub found : x ≡ arc_between m.arcs a b
    unfolding pair_arc
    found = ex ∙ rw (← ea, ← to_is)

    pub pair-there : (x ≡ 0 → ⊥) → m ≡ edge_in per i m
    pair-there h = edge-there m a b (λ z. h (found ∙ z)) ∙ same-edge

    pub pair_made : {o : Mesh} → x ≡ 0 → o ≡ new_edge m a b → o ≡ edge_in per i m
    pair_made z e = e ∙ edge-made m a b (sym found ∙ z) ∙ same-edge

-- ---- where unused rows may be looked for

abbrev pub MayStart : Mesh → Lowest → Type 0
MayStart m from = UsedBefore m.arcs from.arc × UsedBefore m.edges from.edge

pub may-still : (m o : Mesh) (a b : ℕ) (from : Lowest) → o ≡ get_or_insert_edge m a b → MayStart m from → MayStart o from
may-still m o a b from e h =
    subst (λ (n : Mesh). MayStart n from) (sym e) (either m a b (λ n. MayStart n from) h (used-arcs m a b from.arc h.0, used-edges m a b from.edge h.1))

pub may-next : (m o : Mesh) (a b f : ℕ) (r : Lowest) → o ≡ new_edge m a b → r ≡ record { arc = free_row m.arcs; edge = free_row m.edges; face = f } → MayStart o r
may-next m o a b f r e er =
    subst (λ (n : Mesh). MayStart n r) (sym e) (subst (MayStart (new_edge m a b)) (sym er) (used-arcs m a b (free_row m.arcs) (used-free m.arcs), used-edges m a b (free_row m.edges) (used-free m.edges)))

-- ---- the arcs found before the edges

-- they tell of the pairs whose vertices no pair before i joins
abbrev pub Telling : Table → List ℕ → List ℕ → ℕ → Type 0
Telling arcs per xs i = (k : ℕ) → met_before per i k ≡ false → get_or xs k 0 ≡ pair_arc arcs per k

pub tells_first : (arcs : Table) (per : List ℕ) (xs : Links) → list_of xs ≡ arcs_of arcs per → Telling arcs per (list_of xs) 0
tells_first arcs per xs e k q = ap (λ (l : List ℕ). get_or l k 0) e ∙ pair-listed arcs per k

pub tells_more : (m o : Mesh) (per xs : List ℕ) (i : ℕ) → o ≡ edge_in per i m → Telling m.arcs per xs i → Telling o.arcs per xs (i + 1)
unfolding met_before meets pair_arc
tells_more m o per xs i e h k q =
    let p : ℕ → Bool = meets per (get_or per k 0) (get_or per (after (length per) k) 0) in
    h k (some-fewer p i q)
    ∙ sym (insert-apart m (get_or per i 0) (get_or per (after (length per) i) 0) (get_or per k 0) (get_or per (after (length per) k) 0) (some-last p i q))
    ∙ ap (λ (n : Mesh). arc_between n.arcs (get_or per k 0) (get_or per (after (length per) k) 0)) (sym e)

-- ---- a pair by the array that the perimeter stands in

pub is-pair : (at : List ℕ) (n i j a b : ℕ) (met : Bool) → length (take n at) ≡ n → i < n → j ≡ after n i → j < n → a ≡ get_or at i 0 → b ≡ get_or at j 0 → met ≡ met_before (take n at) i i → IsPair (take n at) i a b met
is-pair at n i j a b met all on ej next ea eb em = record {
  from = ea ∙ sym (get_or-take n at i 0 on);
  to = eb ∙ sym (get_or-take n at j 0 next) ∙ ap (λ (k : ℕ). get_or (take n at) k 0) (ej ∙ ap (λ (k : ℕ). after k i) (sym all));
  before = em;
}
