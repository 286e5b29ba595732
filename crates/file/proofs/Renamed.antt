-- A mesh whose rows are another's in other places: links of each kind are mapped one to one between used rows, and cells are carried over.
-- If the one is sound, so is the other, clause by clause.
use Prim.Native.Nat.{ℕ, zero, suc, ◌+◌, ◌≤◌, ◌<◌}
use native.Mathlib.Omega.{arith}
use native.Mathlib.Decide.{dec_lt}
use mathlib.Core.Path.{◌≡◌, refl, ap, sym, subst, ◌∙◌}
use mathlib.Core.Logic.{◌⊎◌, inl, inr, ⊎_elim}
use mathlib.Core.Bool.{Bool, true, false}
use mathlib.Core.List.{List, []}
use lib.ListN.{length, get_or}
use lib.Dec.{T}
use lib.Ieee.{binary64, to_bits}
use Rattle.rules.specs.Table.{Table, there, has, distinct}
use Rattle.rules.specs.Mesh.{Mesh, ring_limit, source, dest, next, previous, face, edge, leading, edge_arc, edge_other, face_arc, key_at, next_key}
use Rattle.rules.specs.Point.{exponent_field}
use Rattle.rules.specs.Link.{ring}
use Rattle.rules.proofs.Counts.{bit}
use Rattle.rules.proofs.Sums.{same_test, sum-ext, distinct-map, sum-list, count-sum}
use Rattle.proved.specs.Demand.{holds, Holds, holders, onward}
use Rattle.proved.specs.Facts.{IsVertex, IsArc, IsEdge, IsFace, Sizes, KeysDiffer, KeysBelow, BothArcs, RingFacts, UnusedZero, coordinate, SoundFacts}
use Rattle.proved.proofs.Rows.{in_table}
use Rattle.proved.proofs.Around.{times_none, times_more, walk_at, walk-closes, has-place, place-has, places-differ}
use Rattle.proved.proofs.Ring.{row-holds, holds_row}

-- ---- one kind

-- used links of one table are mapped one to one to those of another
pub record OneToOne (t u : Table) (to : ℕ → ℕ) : Type 0 where
  pub kept : (x : ℕ) → T (there t x) → T (there u (to x))
  pub from : (l : ℕ) → T (there u l) → (x : ℕ) × T (there t x) × (to x ≡ l)
  pub once : (x y : ℕ) → T (there t x) → T (there t y) → to x ≡ to y → x ≡ y

-- a link, possibly none, is carried over
abbrev pub Carried : (ℕ → ℕ) → ℕ → ℕ → Type 0
Carried to x l = (x ≡ 0 → l ≡ 0) × ((x ≡ 0 → ⊥) → l ≡ to x)

-- ---- all kinds

pub record Renamed (m n : Mesh) : Type 0 where
  pub vertex_to : ℕ → ℕ
  pub arc_to : ℕ → ℕ
  pub edge_to : ℕ → ℕ
  pub face_to : ℕ → ℕ
  pub vertices : OneToOne m.vertices n.vertices vertex_to
  pub arcs : OneToOne m.arcs n.arcs arc_to
  pub edges : OneToOne m.edges n.edges edge_to
  pub faces : OneToOne m.faces n.faces face_to
  pub counters : n.counters ≡ m.counters
  pub vertex-keys : (v : ℕ) → IsVertex m v → key_at n.vertices (vertex_to v) ≡ key_at m.vertices v
  pub edge-keys : (e : ℕ) → IsEdge m e → key_at n.edges (edge_to e) ≡ key_at m.edges e
  pub face-keys : (f : ℕ) → IsFace m f → key_at n.faces (face_to f) ≡ key_at m.faces f
  pub coordinates : (v c : ℕ) → IsVertex m v → c < 3 → coordinate n (vertex_to v) c ≡ coordinate m v c
  pub leads : (v : ℕ) → IsVertex m v → Carried arc_to (leading m v) (leading n (vertex_to v))
  pub sources : (x : ℕ) → IsArc m x → source n (arc_to x) ≡ vertex_to (source m x)
  pub dests : (x : ℕ) → IsArc m x → dest n (arc_to x) ≡ vertex_to (dest m x)
  pub nexts : (x : ℕ) → IsArc m x → Carried arc_to (next m x) (next n (arc_to x))
  pub previouses : (x : ℕ) → IsArc m x → Carried arc_to (previous m x) (previous n (arc_to x))
  pub arc-faces : (x : ℕ) → IsArc m x → Carried face_to (face m x) (face n (arc_to x))
  pub arc-edges : (x : ℕ) → IsArc m x → edge n (arc_to x) ≡ edge_to (edge m x)
  pub edge-arcs : (e : ℕ) → IsEdge m e → edge_arc n (edge_to e) ≡ arc_to (edge_arc m e)
  pub edge-others : (e : ℕ) → IsEdge m e → edge_other n (edge_to e) ≡ arc_to (edge_other m e)
  pub face-arcs : (f : ℕ) → IsFace m f → face_arc n (face_to f) ≡ arc_to (face_arc m f)

-- further rows of the other mesh are zero, and its tables are of sizes that agree
pub record RestZero (n : Mesh) : Type 0 where
  pub sizes : Sizes n
  pub vertices-zero : UnusedZero n.vertices
  pub arcs-zero : UnusedZero n.arcs
  pub edges-zero : UnusedZero n.edges
  pub faces-zero : UnusedZero n.faces
  pub positions-zero : (v c : ℕ) → 1 ≤ v → v ≤ length n.positions → (IsVertex n v → ⊥) → c < 3 → to_bits binary64 (coordinate n v c) ≡ 0

-- what holds at each link that is mapped to holds at every used link
through : {t u : Table} {to : ℕ → ℕ} (P : ℕ → Type 0) → OneToOne t u to → ((x : ℕ) → T (there t x) → P (to x)) → (l : ℕ) → T (there u l) → P l
through P O h l a = let x = O.from l a in subst P x.2 (h x.0 x.1)

-- ---- keys

keys-still-differ : (t u : Table) (to : ℕ → ℕ) → OneToOne t u to → ((x : ℕ) → T (there t x) → key_at u (to x) ≡ key_at t x) → KeysDiffer t → KeysDiffer u
keys-still-differ t u to O keys differ l k a b e =
    let x = O.from l a in
    let y = O.from k b in
    let same : key_at t x.0 ≡ key_at t y.0 =
    sym (keys x.0 x.1) ∙ ap (key_at u) x.2 ∙ e ∙ sym (ap (key_at u) y.2) ∙ keys y.0 y.1 in
    sym x.2 ∙ ap to (differ x.0 y.0 x.1 y.1 same) ∙ y.2

keys-still-below : (t u : Table) (to : ℕ → ℕ) (k j : ℕ) → OneToOne t u to → ((x : ℕ) → T (there t x) → key_at u (to x) ≡ key_at t x) → j ≡ k
    → KeysBelow t k → KeysBelow u j
keys-still-below t u to k j O keys e below =
    through (λ l. key_at u l < j) O (λ x a. omega (arith, keys x a, below x a))

-- ---- one ring

module _ (m n : Mesh) (S : SoundFacts m) (R : Renamed m n) where
  some-arc : (x : ℕ) → IsArc m x → x ≡ 0 → ⊥
  some-arc x u e = omega (arith, (in_table m.arcs x u).0)

  some-face : (f : ℕ) → IsFace m f → f ≡ 0 → ⊥
  some-face f u e = omega (arith, (in_table m.faces f u).0)

  -- a link that is carried over to something was something
  carried_some : (to : ℕ → ℕ) (x l : ℕ) → Carried to x l → (l ≡ 0 → ⊥) → x ≡ 0 → ⊥
  carried_some to x l c ne e = ne (c.0 e)

  module _ (f : ℕ) (u : IsFace m f) where
    g : ℕ
    g = R.face_to f

    r : RingFacts m f
    r = S.rings f u

    on-arc : (k : ℕ) → k ≤ holders m f → IsArc m (onward m f k)
    on-arc k l = go (dec_lt k (holders m f))
      where
        go : Dec (k < holders m f) → IsArc m (onward m f k)
        go (yes q) = (r.each_holds k q).exists
        go (no q) =
            let e : k ≡ holders m f = omega arith in
            let back : onward m f k ≡ onward m f 0 = ap (onward m f) e ∙ r.returns ∙ sym (times_none (next m) (face_arc m f)) in
            subst (λ (z : ℕ). IsArc m z) (sym back) (r.each_holds 0 (omega (arith, r.at-least-3))).exists

    -- the other ring runs along
    along : (k : ℕ) → k ≤ holders m f → onward n g k ≡ R.arc_to (onward m f k)
    unfolding g
    along zero l = times_none (next n) (face_arc n (R.face_to f)) ∙ R.face-arcs f u ∙ ap R.arc_to (sym (times_none (next m) (face_arc m f)))
    along (suc k) l =
        let x : ℕ = onward m f k in
        let a : IsArc m x = on-arc k (omega arith) in
        let b : IsArc m (next m x) = subst (λ (z : ℕ). IsArc m z) (times_more (next m) k (face_arc m f)) (on-arc (suc k) l) in
        times_more (next n) k (face_arc n (R.face_to f))
        ∙ ap (next n) (along k (omega arith))
        ∙ (R.nexts x a).1 (some-arc (next m x) b)
        ∙ ap R.arc_to (sym (times_more (next m) k (face_arc m f)))

    returns-too : onward n g (holders m f) ≡ face_arc n g
    unfolding g
    returns-too = along (holders m f) (omega arith) ∙ ap R.arc_to r.returns ∙ sym (R.face-arcs f u)

    not-before-too : (k : ℕ) → 1 ≤ k → k < holders m f → onward n g k ≡ face_arc n g → ⊥
    unfolding g
    not-before-too k a l e =
        let z : R.arc_to (onward m f k) ≡ R.arc_to (onward m f 0) =
        sym (along k (omega arith)) ∙ e ∙ R.face-arcs f u ∙ ap R.arc_to (sym (times_none (next m) (face_arc m f))) in
        r.not-before k a l (R.arcs.once (onward m f k) (onward m f 0) (on-arc k (omega arith)) (on-arc 0 (omega arith)) z ∙ times_none (next m) (face_arc m f))

    holds-too : (k : ℕ) → k < holders m f → Holds n g (onward n g k)
    unfolding g
    holds-too k l =
        let x : ℕ = onward m f k in
        let a : IsArc m x = on-arc k (omega arith) in
        let e = along k (omega arith) in
        let its : face m x ≡ f = (r.each_holds k l).its-face in
        record {
          exists = subst (λ (z : ℕ). IsArc n z) (sym e) (R.arcs.kept x a);
          its-face = ap (face n) e ∙ (R.arc-faces x a).1 (λ z. some-face f u (sym its ∙ z)) ∙ ap R.face_to its;
        }

    met-too : (y : ℕ) → Holds n g y → (k : ℕ) × (k < holders m f) × (onward n g k ≡ y)
    unfolding g
    met-too y h =
        let x = R.arcs.from y h.exists in
        let at : face n (R.arc_to x.0) ≡ R.face_to f = ap (face n) x.2 ∙ h.its-face in
        let low = (in_table n.faces (R.face_to f) (R.faces.kept f u)).0 in
        let some : face m x.0 ≡ 0 → ⊥ = λ e. omega (arith, at, low, (R.arc-faces x.0 x.1).0 e) in
        let same : face m x.0 ≡ f =
        R.faces.once (face m x.0) f (S.face-exists x.0 x.1 some) u (sym ((R.arc-faces x.0 x.1).1 some) ∙ at) in
        let w = r.each-met x.0 (record { exists = x.1; its-face = same }) in
        let l = w.1 in
        (w.0, l, along w.0 (omega arith) ∙ ap R.arc_to w.2 ∙ x.2)

    sources-too : (j k : ℕ) → j < holders m f → k < holders m f → source n (onward n g j) ≡ source n (onward n g k) → j ≡ k
    sources-too j k a b e =
        let x : ℕ = onward m f j in
        let y : ℕ = onward m f k in
        let p : IsArc m x = on-arc j (omega arith) in
        let q : IsArc m y = on-arc k (omega arith) in
        let z : R.vertex_to (source m x) ≡ R.vertex_to (source m y) =
        sym (ap (source n) (along j (omega arith)) ∙ R.sources x p) ∙ e ∙ ap (source n) (along k (omega arith)) ∙ R.sources y q in
        r.sources-differ j k a b (R.vertices.once (source m x) (source m y) (S.ends-exist x p).0 (S.ends-exist y q).0 z)

    back-too : (k : ℕ) → k < holders m f → previous n (next n (onward n g k)) ≡ onward n g k
    back-too k l =
        let x : ℕ = onward m f k in
        let a : IsArc m x = on-arc k (omega arith) in
        let b : IsArc m (next m x) = subst (λ (z : ℕ). IsArc m z) (times_more (next m) k (face_arc m f)) (on-arc (suc k) l) in
        let e = along k (omega arith) in
        let back : previous m (next m x) ≡ x = r.runs-back k l in
        ap (λ (z : ℕ). previous n (next n z)) e
        ∙ ap (previous n) ((R.nexts x a).1 (some-arc (next m x) b))
        ∙ (R.previouses (next m x) b).1 (λ z. some-arc x a (sym back ∙ z))
        ∙ ap R.arc_to back
        ∙ sym e

    -- as many arcs hold the one face as the other
    long : length (ring n g) ≡ holders m f
    unfolding ring
    long =
        (walk-closes (next n) (face_arc n g) (holders m f) ring_limit (face_arc n g) (omega (arith, r.at-least-3)) r.at-most-64
        (record { some-on = λ k l. (in_table n.arcs (onward n g k) (holds-too k l).exists).0; back_at = returns-too; none_before = not-before-too })
        ).1

    ring-place : (k : ℕ) → k < length (ring n g) → get_or (ring n g) k 0 ≡ onward n g k
    unfolding ring
    ring-place k l = walk_at (next n) (face_arc n g) ring_limit (face_arc n g) k l

    same-holders : holders n g ≡ holders m f
    same-holders =
        let count : ℕ = length n.arcs in
        let l : List ℕ = ring n g in
        let same = sum-ext (λ k. bit (holds g (get_or n.arcs k []))) (λ k. bit (has l (k + 1))) count
        (λ k q. ap bit (same_test (holds g (get_or n.arcs k [])) (has l (k + 1))
        (λ t. on (k + 1) (row-holds n g k t)) (λ t. holds_row n g k (off (k + 1) t)))) in
        count-sum (holds g) n.arcs [] ∙ same ∙ sum-list l count apart (λ x i. in_table n.arcs x (off x i).exists) ∙ long
      where
        on : (x : ℕ) → Holds n g x → T (has (ring n g) x)
        on x h =
            let w = met-too x h in
            let q : w.0 < length (ring n g) = omega (arith, long, w.1) in
            subst (λ (y : ℕ). T (has (ring n g) y)) (ring-place w.0 q ∙ w.2) (place-has (ring n g) w.0 q)

        off : (x : ℕ) → T (has (ring n g) x) → Holds n g x
        off x h =
            let w = has-place (ring n g) x h in
            let q = w.1 in
            subst (λ (y : ℕ). Holds n g y) (sym (ring-place w.0 q) ∙ w.2) (holds-too w.0 (omega (arith, long)))

        apart : T (distinct (ring n g))
        apart =
            distinct-map (source n) (ring n g)
            (places-differ (source n) (ring n g)
            (λ j k a b e. sources-too j k (omega (arith, long)) (omega (arith, long)) (sym (ap (source n) (ring-place j a)) ∙ e ∙ ap (source n) (ring-place k b))))

    ring-too : RingFacts n g
    ring-too =
        record {
          returns = ap (onward n g) same-holders ∙ returns-too;
          not-before = λ k a l. not-before-too k a (omega (arith, same-holders));
          at-least-3 = omega (arith, same-holders, r.at-least-3);
          at-most-64 = omega (arith, same-holders, r.at-most-64);
          sources-differ = λ j k a b. sources-too j k (omega (arith, same-holders)) (omega (arith, same-holders));
          each_holds = λ k l. holds-too k (omega (arith, same-holders));
          each-met = λ x h. let w = met-too x h in let q = w.1 in (w.0, omega (arith, same-holders), w.2);
          runs-back = λ k l. back-too k (omega (arith, same-holders));
        }

  -- ---- the other mesh is sound

  ring-renamed : (f : ℕ) → IsFace m f → RingFacts n (R.face_to f)
  unfolding g
  ring-renamed f u = ring-too f u

  both-renamed : (d : ℕ) → IsEdge m d → BothArcs n (R.edge_to d)
  both-renamed d u =
      let b = S.both-arcs d u in
      let x : ℕ = edge_arc m d in
      let y : ℕ = edge_other m d in
      let p = b.first-exists in
      let q = b.second-exists in
      let ex = R.edge-arcs d u in
      let ey = R.edge-others d u in
      record {
        first-exists = subst (λ (z : ℕ). IsArc n z) (sym ex) (R.arcs.kept x p);
        second-exists = subst (λ (z : ℕ). IsArc n z) (sym ey) (R.arcs.kept y q);
        first_holds = ap (edge n) ex ∙ R.arc-edges x p ∙ ap R.edge_to b.first_holds;
        second_holds = ap (edge n) ey ∙ R.arc-edges y q ∙ ap R.edge_to b.second_holds;
        leaves-where-ends = ap (source n) ex ∙ R.sources x p ∙ ap R.vertex_to b.leaves-where-ends ∙ sym (ap (dest n) ey ∙ R.dests y q);
        ends-where-leaves = ap (dest n) ex ∙ R.dests x p ∙ ap R.vertex_to b.ends-where-leaves ∙ sym (ap (source n) ey ∙ R.sources y q);
      }

  ends-renamed : (x : ℕ) → IsArc m x → source n (R.arc_to x) ≡ dest n (R.arc_to x) → ⊥
  ends-renamed x u e =
      S.ends-differ x u (R.vertices.once (source m x) (dest m x) (S.ends-exist x u).0 (S.ends-exist x u).1 (sym (R.sources x u) ∙ e ∙ R.dests x u))

  exist-renamed : (x : ℕ) → IsArc m x → IsVertex n (source n (R.arc_to x)) × IsVertex n (dest n (R.arc_to x))
  exist-renamed x u = (
    subst (λ (z : ℕ). IsVertex n z) (sym (R.sources x u)) (R.vertices.kept (source m x) (S.ends-exist x u).0),
    subst (λ (z : ℕ). IsVertex n z) (sym (R.dests x u)) (R.vertices.kept (dest m x) (S.ends-exist x u).1),
  )

  pairs-renamed : (x y : ℕ) → IsArc m x → IsArc m y → source n (R.arc_to x) ≡ source n (R.arc_to y) → dest n (R.arc_to x) ≡ dest n (R.arc_to y) → x ≡ y
  pairs-renamed x y u w e d =
      S.pairs-differ x y u w
      (R.vertices.once (source m x) (source m y) (S.ends-exist x u).0 (S.ends-exist y w).0 (sym (R.sources x u) ∙ e ∙ R.sources y w))
      (R.vertices.once (dest m x) (dest m y) (S.ends-exist x u).1 (S.ends-exist y w).1 (sym (R.dests x u) ∙ d ∙ R.dests y w))

  edge-renamed : (x : ℕ) → IsArc m x → IsEdge n (edge n (R.arc_to x))
  edge-renamed x u = subst (λ (z : ℕ). IsEdge n z) (sym (R.arc-edges x u)) (R.edges.kept (edge m x) (S.edge-exists x u))

  names-renamed : (x : ℕ) → IsArc m x → (edge_arc n (edge n (R.arc_to x)) ≡ R.arc_to x) ⊎ (edge_other n (edge n (R.arc_to x)) ≡ R.arc_to x)
  names-renamed x u =
      let w = S.edge-exists x u in
      ⊎_elim
      (λ e. inl (ap (edge_arc n) (R.arc-edges x u) ∙ R.edge-arcs (edge m x) w ∙ ap R.arc_to e))
      (λ e. inr (ap (edge_other n) (R.arc-edges x u) ∙ R.edge-others (edge m x) w ∙ ap R.arc_to e))
      (S.edge-names x u)

  leads-renamed : (v : ℕ) → IsVertex m v → (leading n (R.vertex_to v) ≡ 0 → ⊥)
      → IsArc n (leading n (R.vertex_to v)) × (source n (leading n (R.vertex_to v)) ≡ R.vertex_to v)
  leads-renamed v u ne =
      let c = R.leads v u in
      let some = carried_some R.arc_to (leading m v) (leading n (R.vertex_to v)) c ne in
      let w = S.leads-out v u some in
      let e = c.1 some in
      (subst (λ (z : ℕ). IsArc n z) (sym e) (R.arcs.kept (leading m v) w.0), ap (source n) e ∙ R.sources (leading m v) w.0 ∙ ap R.vertex_to w.1)

  next-renamed : (x : ℕ) → IsArc m x → (next n (R.arc_to x) ≡ 0 → ⊥) → IsArc n (next n (R.arc_to x)) × (source n (next n (R.arc_to x)) ≡ dest n (R.arc_to x))
  next-renamed x u ne =
      let c = R.nexts x u in
      let some = carried_some R.arc_to (next m x) (next n (R.arc_to x)) c ne in
      let w = S.next-leaves x u some in
      let e = c.1 some in (
        subst (λ (z : ℕ). IsArc n z) (sym e) (R.arcs.kept (next m x) w.0),
        ap (source n) e ∙ R.sources (next m x) w.0 ∙ ap R.vertex_to w.1 ∙ sym (R.dests x u),
      )

  previous-renamed : (x : ℕ) → IsArc m x → (previous n (R.arc_to x) ≡ 0 → ⊥) → IsArc n (previous n (R.arc_to x)) × (dest n (previous n (R.arc_to x)) ≡ source n (R.arc_to x))
  previous-renamed x u ne =
      let c = R.previouses x u in
      let some = carried_some R.arc_to (previous m x) (previous n (R.arc_to x)) c ne in
      let w = S.previous-arrives x u some in
      let e = c.1 some in (
        subst (λ (z : ℕ). IsArc n z) (sym e) (R.arcs.kept (previous m x) w.0),
        ap (dest n) e ∙ R.dests (previous m x) w.0 ∙ ap R.vertex_to w.1 ∙ sym (R.sources x u),
      )

  face-renamed : (x : ℕ) → IsArc m x → (face n (R.arc_to x) ≡ 0 → ⊥) → IsFace n (face n (R.arc_to x))
  face-renamed x u ne =
      let c = R.arc-faces x u in
      let some = carried_some R.face_to (face m x) (face n (R.arc_to x)) c ne in
      subst (λ (z : ℕ). IsFace n z) (sym (c.1 some)) (R.faces.kept (face m x) (S.face-exists x u some))

  zero_field : exponent_field 0 ≡ 2047 → ⊥
  unfolding exponent_field
  zero_field e = omega arith

  finite-renamed : RestZero n → (v c : ℕ) → 1 ≤ v → v ≤ length n.positions → c < 3 → exponent_field (to_bits binary64 (coordinate n v c)) ≡ 2047 → ⊥
  finite-renamed Z v c a b l e = go (there n.vertices v) refl
    where
      go : (t : Bool) → there n.vertices v ≡ t → ⊥
      go true q =
          let x = R.vertices.from v (subst T (sym q) tt) in
          let p = in_table m.vertices x.0 x.1 in
          S.all-finite x.0 c p.0 (omega (arith, p.1, S.sizes.position-rows)) l
          (ap (λ z. exponent_field (to_bits binary64 z)) (sym (R.coordinates x.0 c x.1 l) ∙ ap (λ (z : ℕ). coordinate n z c) x.2) ∙ e)
      go false q = zero_field (sym (ap exponent_field (Z.positions-zero v c a b (λ t. subst T q t) l)) ∙ e)

  pub renamed-sound : RestZero n → SoundFacts n
  renamed-sound Z =
      record {
        sizes = Z.sizes;
        vertex-keys-differ = keys-still-differ m.vertices n.vertices R.vertex_to R.vertices R.vertex-keys S.vertex-keys-differ;
        edge-keys-differ = keys-still-differ m.edges n.edges R.edge_to R.edges R.edge-keys S.edge-keys-differ;
        face-keys-differ = keys-still-differ m.faces n.faces R.face_to R.faces R.face-keys S.face-keys-differ;
        vertex-keys-below =
            keys-still-below m.vertices n.vertices R.vertex_to (next_key m 0) (next_key n 0) R.vertices R.vertex-keys (counter 0) S.vertex-keys-below;
        edge-keys-below =
            keys-still-below m.edges n.edges R.edge_to (next_key m 1) (next_key n 1) R.edges R.edge-keys (counter 1) S.edge-keys-below;
        face-keys-below =
            keys-still-below m.faces n.faces R.face_to (next_key m 2) (next_key n 2) R.faces R.face-keys (counter 2) S.face-keys-below;
        both-arcs = through (BothArcs n) R.edges both-renamed;
        ends-differ = through (λ x. source n x ≡ dest n x → ⊥) R.arcs ends-renamed;
        ends-exist = through (λ x. IsVertex n (source n x) × IsVertex n (dest n x)) R.arcs exist-renamed;
        pairs-differ = pairs;
        edge-exists = through (λ x. IsEdge n (edge n x)) R.arcs edge-renamed;
        edge-names = through (λ x. (edge_arc n (edge n x) ≡ x) ⊎ (edge_other n (edge n x) ≡ x)) R.arcs names-renamed;
        leads-out = through (λ v. (leading n v ≡ 0 → ⊥) → IsArc n (leading n v) × (source n (leading n v) ≡ v)) R.vertices leads-renamed;
        next-leaves = through (λ x. (next n x ≡ 0 → ⊥) → IsArc n (next n x) × (source n (next n x) ≡ dest n x)) R.arcs next-renamed;
        previous-arrives =
            through (λ x. (previous n x ≡ 0 → ⊥) → IsArc n (previous n x) × (dest n (previous n x) ≡ source n x)) R.arcs previous-renamed;
        face-exists = through (λ x. (face n x ≡ 0 → ⊥) → IsFace n (face n x)) R.arcs face-renamed;
        rings = through (RingFacts n) R.faces ring-renamed;
        vertices-zero = Z.vertices-zero;
        arcs-zero = Z.arcs-zero;
        edges-zero = Z.edges-zero;
        faces-zero = Z.faces-zero;
        positions-zero = Z.positions-zero;
        all-finite = finite-renamed Z;
      }
    where
      counter : (kind : ℕ) → next_key n kind ≡ next_key m kind
      counter kind = ap (λ (k : List ℕ). get_or k kind 0) R.counters

      pairs : (l k : ℕ) → IsArc n l → IsArc n k → source n l ≡ source n k → dest n l ≡ dest n k → l ≡ k
      pairs l k u w e d =
          let x = R.arcs.from l u in
          let y = R.arcs.from k w in
          let es = ap (source n) x.2 ∙ e ∙ sym (ap (source n) y.2) in
          let ed = ap (dest n) x.2 ∙ d ∙ sym (ap (dest n) y.2) in
          sym x.2 ∙ ap R.arc_to (pairs-renamed x.0 y.0 x.1 y.1 es ed) ∙ y.2
