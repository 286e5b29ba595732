-- "Two sound meshes have equal files exactly when their records and counters are equal": what a sound mesh's file holds fits its bytes, and
-- tells its records.
use Prim.Native.Nat.{ℕ, zero, suc, ◌+◌, ◌-◌, ◌^◌, ◌≤◌, ◌<◌, zero-le, suc-le-suc}
use native.Mathlib.Omega.{arith}
use native.Mathlib.Decide.{ℕ_discrete}
use mathlib.Core.Path.{◌≡◌, refl, ap, sym, ◌∙◌}
use mathlib.Core.Logic.{◌↔◌}
use mathlib.Core.Bool.{Bool, true, false, ◌&&◌, cond}
use mathlib.Core.List.{List, [], ◌∷◌, map}
use lib.ListN.{length, get_or, length-map}
use lib.Dec.{T, eqb, ltb}
use lib.Ieee.{binary64, to_bits, of_bits}
use lib.Ieee.Bits.{of_bits-to_bits, to_bits-lt}
use lib.Ieee.Fits.{and_l, and_r, and_i}
use borrow.Author.Tests.{eq-eqb, ne_eqb}
use Rattle.rules.specs.Table.{Table, every, there, times}
use Rattle.rules.specs.Mesh.{Mesh, source, dest, next, previous, face, edge, leading, edge_arc, face_arc, mark, key_at, next_key}
use Rattle.rules.specs.Point.{position_at, position_of, position}
use Rattle.rules.specs.Records.{VertexRecord, ArcRecord, EdgeRecord, FaceRecord, Records, arc_name, key_name, vertex_record, arc_record, edge_record, face_record, used_from, put_among, in_order, key_before, arc_before, records}
use Rattle.rules.specs.Sound.{sound}
use Rattle.proved.specs.Facts.{IsVertex, IsArc, IsEdge, IsFace, SoundFacts, coordinate}
use Rattle.proved.proofs.Rows.{true-T, link_row, in_table}
use Rattle.proved.proofs.Clauses.{facts}
use Rattle.file.specs.File.{Contents, row_fits, counter_widths, schema, bodies_fit, contents_fit, contents_in, file_text, none_cell, key_cell, vertex_cells, arc_cells, edge_cells, face_cells, contents_of, file_of, body}
use Rattle.file.specs.Promises.{Stored}
use Rattle.file.proofs.Cells.{below-T}
use Rattle.file.proofs.Whole.{contents-back}
use Rattle.file.proofs.ReadWrite.{position-is, cell-fits-at, none-cell, some-cell}

-- ---- the records that cells tell

-- a name, unless its cell says none
unfoldable pub name_unless : ℕ → List ℕ → List ℕ
name_unless k name = cond (eqb k none_cell) [] name

-- a leading arc and a next leave where the record says, a previous arrives there
unfoldable pub vertex_told : List ℕ → VertexRecord
vertex_told r =
    record {
      key = get_or r 0 0;
      position = position (of_bits binary64 (get_or r 1 0)) (of_bits binary64 (get_or r 2 0)) (of_bits binary64 (get_or r 3 0));
      leading = name_unless (get_or r 4 0) (get_or r 0 0 ∷ get_or r 4 0 ∷ []);
    }

unfoldable pub arc_told : List ℕ → ArcRecord
arc_told r =
    record {
      name = get_or r 0 0 ∷ get_or r 1 0 ∷ [];
      next = name_unless (get_or r 2 0) (get_or r 1 0 ∷ get_or r 2 0 ∷ []);
      previous = name_unless (get_or r 3 0) (get_or r 3 0 ∷ get_or r 0 0 ∷ []);
      face = name_unless (get_or r 4 0) (get_or r 4 0 ∷ []);
      edge = get_or r 5 0 ∷ [];
    }

unfoldable pub edge_told : List ℕ → EdgeRecord
edge_told r = record { key = get_or r 0 0; arc = get_or r 1 0 ∷ get_or r 2 0 ∷ [] }

unfoldable pub face_told : List ℕ → FaceRecord
face_told r = record { key = get_or r 0 0; arc = get_or r 1 0 ∷ get_or r 2 0 ∷ []; mark = get_or r 3 0 }

unfoldable pub records_told : Contents → Records
records_told c =
    record {
      vertices = map vertex_told (body c 0);
      arcs = map arc_told (body c 1);
      edges = map edge_told (body c 2);
      faces = map face_told (body c 3);
      counters = c.counters;
    }

-- ---- links in order

-- the links of a table are in use
pub used-used : (t : Table) (l : ℕ) (rows : Table) → T (every (there t) (used_from t l rows))
unfolding used_from every
used-used t l [] = tt
used-used t l (r ∷ rs) = go (there t l) refl (used-used t (l + 1) rs)
  where
    go : (b : Bool) → there t l ≡ b → T (every (there t) (used_from t (l + 1) rs)) → T (every (there t) (cond b (l ∷ used_from t (l + 1) rs) (used_from t (l + 1) rs)))
    go true e h = and_i (there t l) (every (there t) (used_from t (l + 1) rs)) (true-T e) h
    go false e h = h

-- and stay so in order
pub put-passes : (before : ℕ → ℕ → Bool) (p : ℕ → Bool) (x : ℕ) (l : List ℕ) → T (p x) → T (every p l) → T (every p (put_among before x l))
unfolding put_among every
put-passes before p x [] h k = and_i (p x) true h tt
put-passes before p x (y ∷ ys) h k = go (before x y) (put-passes before p x ys h (and_r (p y) (every p ys) k))
  where
    go : (b : Bool) → T (every p (put_among before x ys)) → T (every p (cond b (x ∷ y ∷ ys) (y ∷ put_among before x ys)))
    go true q = and_i (p x) (every p (y ∷ ys)) h k
    go false q = and_i (p y) (every p (put_among before x ys)) (and_l (p y) (every p ys) k) q

pub order-passes : (before : ℕ → ℕ → Bool) (p : ℕ → Bool) (l : List ℕ) → T (every p l) → T (every p (in_order before l))
unfolding in_order every
order-passes before p [] h = tt
order-passes before p (x ∷ xs) h = put-passes before p x (in_order before xs) (and_l (p x) (every p xs) h) (order-passes before p xs (and_r (p x) (every p xs) h))

pub put_count : (before : ℕ → ℕ → Bool) (x : ℕ) (l : List ℕ) → length (put_among before x l) ≡ suc (length l)
unfolding put_among
put_count before x [] = refl
put_count before x (y ∷ ys) = go (before x y) (put_count before x ys)
  where
    go : (b : Bool) → length (put_among before x ys) ≡ suc (length ys) → length (cond b (x ∷ y ∷ ys) (y ∷ put_among before x ys)) ≡ suc (suc (length ys))
    go true e = refl
    go false e = ap suc e

pub order-count : (before : ℕ → ℕ → Bool) (l : List ℕ) → length (in_order before l) ≡ length l
unfolding in_order
order-count before [] = refl
order-count before (x ∷ xs) = put_count before x (in_order before xs) ∙ ap suc (order-count before xs)

pub used-few : (t : Table) (l : ℕ) (rows : Table) → length (used_from t l rows) ≤ length rows
unfolding used_from
used-few t l [] = zero-le
used-few t l (r ∷ rs) = go (there t l) (used-few t (l + 1) rs)
  where
    go : (b : Bool) → length (used_from t (l + 1) rs) ≤ length rs → length (cond b (l ∷ used_from t (l + 1) rs) (used_from t (l + 1) rs)) ≤ suc (length rs)
    go true h = suc-le-suc h
    go false h = omega arith

-- the used links of a table in some order
abbrev pub links_in : (ℕ → ℕ → Bool) → Table → List ℕ
links_in before t = in_order before (used_from t 1 t)

pub links-used : (before : ℕ → ℕ → Bool) (t : Table) → T (every (there t) (links_in before t))
links-used before t = order-passes before (there t) (used_from t 1 t) (used-used t 1 t)

pub links-few : (before : ℕ → ℕ → Bool) (t : Table) → length (links_in before t) ≤ length t
links-few before t = omega (arith, order-count before (used_from t 1 t), used-few t 1 t)

-- what is told of each is what was written
pub told-each {ℓ} : {B : Type ℓ} (p : ℕ → Bool) (tell : List ℕ → B) (cells : B → List ℕ) (of : ℕ → B) (l : List ℕ) → T (every p l)
    → ((x : ℕ) → T (p x) → tell (cells (of x)) ≡ of x) → map tell (map cells (map of l)) ≡ map of l
unfolding every
told-each p tell cells of [] h e = refl
told-each p tell cells of (x ∷ xs) h e =
    rw (e x (and_l (p x) (every p xs) h), told-each p tell cells of xs (and_r (p x) (every p xs) h) e)

pub told-links {ℓ} : {B : Type ℓ} (tell : List ℕ → B) (cells : B → List ℕ) (of : ℕ → B) (before : ℕ → ℕ → Bool) (t : Table)
    → ((x : ℕ) → T (there t x) → tell (cells (of x)) ≡ of x) → map tell (map cells (map of (links_in before t))) ≡ map of (links_in before t)
told-links tell cells of before t e = told-each (there t) tell cells of (links_in before t) (links-used before t) e

pub fits_each {ℓ} : {B : Type ℓ} (p : ℕ → Bool) (q : List ℕ → Bool) (cells : B → List ℕ) (of : ℕ → B) (l : List ℕ) → T (every p l)
    → ((x : ℕ) → T (p x) → T (q (cells (of x)))) → T (every q (map cells (map of l)))
unfolding every
fits_each p q cells of [] h e = tt
fits_each p q cells of (x ∷ xs) h e =
    and_i (q (cells (of x))) (every q (map cells (map of xs))) (e x (and_l (p x) (every p xs) h)) (fits_each p q cells of xs (and_r (p x) (every p xs) h) e)

-- a body of so few records, each of which fits, joins bodies that fit
pub body-joins : {B : Type 0} (ws : List ℕ) (wss : List (List ℕ)) (bs : List Table) (cells : B → List ℕ) (of : ℕ → B) (before : ℕ → ℕ → Bool) (t : Table)
    → length t ≤ 16384 → ((x : ℕ) → T (there t x) → T (row_fits ws (cells (of x)))) → T (bodies_fit wss bs)
    → T (bodies_fit (ws ∷ wss) (map cells (map of (links_in before t)) ∷ bs))
unfolding bodies_fit
body-joins ws wss bs cells of before t h fit rest =
    let rows : Table = map cells (map of (links_in before t)) in
    let few : length rows < 256 ^ 4 = omega (arith, length-map (map of (links_in before t)) cells, length-map (links_in before t) of, links-few before t) in
    and_i (ltb (length rows) (256 ^ 4)) (every (row_fits ws) rows && bodies_fit wss bs) (below-T (length rows) (256 ^ 4) few)
    (and_i (every (row_fits ws) rows) (bodies_fit wss bs) (fits_each (there t) (row_fits ws) cells of (links_in before t) (links-used before t) fit) rest)

pub none-fit : T (bodies_fit [] [])
unfolding bodies_fit
none-fit = tt

-- ---- a sound mesh's records

-- the name by a key, or none
no_key : (t : Table) → key_name t 0 ≡ []
unfolding key_name
no_key t = refl

key-name : (t : Table) (l : ℕ) → (l ≡ 0 → ⊥) → key_name t l ≡ key_at t l ∷ []
unfolding key_name
key-name t l h = rw (ne_eqb l 0 h)

unless-is-none : (k : ℕ) (name : List ℕ) → k ≡ none_cell → name_unless k name ≡ []
unfolding name_unless
unless-is-none k name e = rw (eq-eqb k none_cell e)

unless-is-some : (k : ℕ) (name : List ℕ) → (k ≡ none_cell → ⊥) → name_unless k name ≡ name
unfolding name_unless
unless-is-some k name e = rw (ne_eqb k none_cell e)

module _ (m : Mesh) (S : SoundFacts m) (H : Stored m) where
  pub counter-fits : (kind : ℕ) → kind < 3 → next_key m kind < 256 ^ 4
  counter-fits kind l = go kind l (cell-fits-at counter_widths m.counters kind H.counters l)
    where
      go : (k : ℕ) → k < 3 → get_or m.counters k 0 < 256 ^ get_or counter_widths k 0 → get_or m.counters k 0 < 256 ^ 4
      go zero q h = h
      go (suc zero) q h = h
      go (suc (suc zero)) q h = h
      go (suc (suc (suc k))) q h = absurd (let z : ⊥ = omega arith in z)

  -- keys fit a u32, and none of them is none
  pub vertex-low : (v : ℕ) → IsVertex m v → key_at m.vertices v < none_cell
  vertex-low v u = omega (arith, S.vertex-keys-below v u, counter-fits 0 (omega arith))

  pub edge-low : (e : ℕ) → IsEdge m e → key_at m.edges e < none_cell
  edge-low e u = omega (arith, S.edge-keys-below e u, counter-fits 1 (omega arith))

  pub face-low : (f : ℕ) → IsFace m f → key_at m.faces f < none_cell
  face-low f u = omega (arith, S.face-keys-below f u, counter-fits 2 (omega arith))

  -- an arc's name
  pub arc-some : (x : ℕ) → IsArc m x → x ≡ 0 → ⊥
  arc-some x u e = omega (arith, (in_table m.arcs x u).0)

  arc-keys : (x : ℕ) → IsArc m x → arc_name m x ≡ key_at m.vertices (source m x) ∷ key_at m.vertices (dest m x) ∷ []
  unfolding arc_name
  arc-keys x u = rw (ne_eqb x 0 (arc-some x u))

  pub starts-at : (x : ℕ) → IsArc m x → key_cell (arc_name m x) 0 ≡ key_at m.vertices (source m x)
  unfolding key_cell
  starts-at x u = ap (λ (w : List ℕ). get_or w 0 none_cell) (arc-keys x u)

  pub ends_at : (x : ℕ) → IsArc m x → key_cell (arc_name m x) 1 ≡ key_at m.vertices (dest m x)
  unfolding key_cell
  ends_at x u = ap (λ (w : List ℕ). get_or w 1 none_cell) (arc-keys x u)

  pub no-arc : (i : ℕ) → key_cell (arc_name m 0) i ≡ none_cell
  unfolding key_cell arc_name
  no-arc zero = refl
  no-arc (suc i) = refl

  no_name : arc_name m 0 ≡ []
  unfolding arc_name
  no_name = refl

  arc-told : (x : ℕ) → IsArc m x → key_cell (arc_name m x) 0 ∷ key_cell (arc_name m x) 1 ∷ [] ≡ arc_name m x
  arc-told x u = rw (starts-at x u, ends_at x u) (sym (arc-keys x u))

  -- the name of an arc or none, from its destination or its source
  forward : (x s : ℕ) → ((x ≡ 0 → ⊥) → IsArc m x × (key_at m.vertices (source m x) ≡ s))
      → name_unless (key_cell (arc_name m x) 1) (s ∷ key_cell (arc_name m x) 1 ∷ []) ≡ arc_name m x
  forward x s h = go (ℕ_discrete x 0)
    where
      go : Dec (x ≡ 0) → name_unless (key_cell (arc_name m x) 1) (s ∷ key_cell (arc_name m x) 1 ∷ []) ≡ arc_name m x
      go (yes e) = rw e (unless-is-none (key_cell (arc_name m 0) 1) (s ∷ key_cell (arc_name m 0) 1 ∷ []) (no-arc 1) ∙ sym no_name)
      go (no ne) =
          let u = (h ne).0 in
          let low = vertex-low (dest m x) (S.ends-exist x u).1 in
          unless-is-some (key_cell (arc_name m x) 1) (s ∷ key_cell (arc_name m x) 1 ∷ []) (λ e. omega (arith, ends_at x u, low))
          ∙ ap (λ (z : ℕ). s ∷ z ∷ []) (ends_at x u)
          ∙ ap (λ (z : ℕ). z ∷ key_at m.vertices (dest m x) ∷ []) (sym (h ne).1)
          ∙ sym (arc-keys x u)

  backward : (x d : ℕ) → ((x ≡ 0 → ⊥) → IsArc m x × (key_at m.vertices (dest m x) ≡ d))
      → name_unless (key_cell (arc_name m x) 0) (key_cell (arc_name m x) 0 ∷ d ∷ []) ≡ arc_name m x
  backward x d h = go (ℕ_discrete x 0)
    where
      go : Dec (x ≡ 0) → name_unless (key_cell (arc_name m x) 0) (key_cell (arc_name m x) 0 ∷ d ∷ []) ≡ arc_name m x
      go (yes e) = rw e (unless-is-none (key_cell (arc_name m 0) 0) (key_cell (arc_name m 0) 0 ∷ d ∷ []) (no-arc 0) ∙ sym no_name)
      go (no ne) =
          let u = (h ne).0 in
          let low = vertex-low (source m x) (S.ends-exist x u).0 in
          unless-is-some (key_cell (arc_name m x) 0) (key_cell (arc_name m x) 0 ∷ d ∷ []) (λ e. omega (arith, starts-at x u, low))
          ∙ ap (λ (z : ℕ). z ∷ d ∷ []) (starts-at x u)
          ∙ ap (λ (z : ℕ). key_at m.vertices (source m x) ∷ z ∷ []) (sym (h ne).1)
          ∙ sym (arc-keys x u)

  -- a vertex's coordinates
  pub has-position : (v : ℕ) → IsVertex m v → v ≤ length m.positions
  has-position v u = omega (arith, (in_table m.vertices v u).1, S.sizes.position-rows)

  pub position_here : (v : ℕ) → IsVertex m v → position_at m.positions v ≡ position_of (get_or m.positions (v - 1) [])
  position_here v u =
      let low = (in_table m.vertices v u).0 in
      ap (λ (z : ℕ). position_at m.positions z) (sym (link_row v low))
      ∙ position-is m.positions (v - 1) (omega (arith, has-position v u))

  pub bits_fit : (v c : ℕ) → IsVertex m v → c < 3 → to_bits binary64 (coordinate m v c) < 256 ^ 8
  bits_fit v c u l = to_bits-lt binary64 (coordinate m v c) (H.coordinates v c (in_table m.vertices v u).0 (has-position v u) l)

  pub bits-tell : (v c : ℕ) → IsVertex m v → c < 3 → of_bits binary64 (to_bits binary64 (coordinate m v c)) ≡ coordinate m v c
  bits-tell v c u l = of_bits-to_bits binary64 (coordinate m v c) (H.coordinates v c (in_table m.vertices v u).0 (has-position v u) l)

  -- ---- told

  vertex-told : (v : ℕ) → IsVertex m v → vertex_told (vertex_cells (vertex_record m v)) ≡ vertex_record m v
  unfolding vertex_told vertex_cells vertex_record
  vertex-told v u =
      rw (lead, position_here v u, bits-tell v 0 u (omega arith), bits-tell v 1 u (omega arith), bits-tell v 2 u (omega arith))
    where
      lead : name_unless (key_cell (arc_name m (leading m v)) 1) (key_at m.vertices v ∷ key_cell (arc_name m (leading m v)) 1 ∷ []) ≡ arc_name m (leading m v)
      lead =
          forward (leading m v) (key_at m.vertices v)
          (λ ne. let w = S.leads-out v u ne in (w.0, ap (λ (z : ℕ). key_at m.vertices z) w.1))

  arc-record-told : (x : ℕ) → IsArc m x → arc_told (arc_cells (arc_record m x)) ≡ arc_record m x
  unfolding arc_told arc_cells arc_record
  arc-record-told x u = rw (arc-told x u, after, before, held, its-edge)
    where
      after : name_unless (key_cell (arc_name m (next m x)) 1) (key_cell (arc_name m x) 1 ∷ key_cell (arc_name m (next m x)) 1 ∷ []) ≡ arc_name m (next m x)
      after =
          forward (next m x) (key_cell (arc_name m x) 1)
          (λ ne. let w = S.next-leaves x u ne in (w.0, ap (λ (z : ℕ). key_at m.vertices z) w.1 ∙ sym (ends_at x u)))

      before : name_unless (key_cell (arc_name m (previous m x)) 0) (key_cell (arc_name m (previous m x)) 0 ∷ key_cell (arc_name m x) 0 ∷ []) ≡ arc_name m (previous m x)
      before =
          backward (previous m x) (key_cell (arc_name m x) 0)
          (λ ne. let w = S.previous-arrives x u ne in (w.0, ap (λ (z : ℕ). key_at m.vertices z) w.1 ∙ sym (starts-at x u)))

      held : name_unless (key_cell (key_name m.faces (face m x)) 0) (key_cell (key_name m.faces (face m x)) 0 ∷ []) ≡ key_name m.faces (face m x)
      held = go (ℕ_discrete (face m x) 0)
        where
          k : ℕ → ℕ
          k f = key_cell (key_name m.faces f) 0

          go : Dec (face m x ≡ 0) → name_unless (k (face m x)) (k (face m x) ∷ []) ≡ key_name m.faces (face m x)
          go (yes e) = rw e (unless-is-none (k 0) (k 0 ∷ []) (none-cell m.faces) ∙ sym (no_key m.faces))
          go (no ne) =
              let low = face-low (face m x) (S.face-exists x u ne) in
              let key = some-cell m.faces (face m x) ne in
              unless-is-some (k (face m x)) (k (face m x) ∷ []) (λ e. omega (arith, key, low))
              ∙ ap (λ (z : ℕ). z ∷ []) key
              ∙ sym (key-name m.faces (face m x) ne)

      its-edge : key_cell (key_name m.edges (edge m x)) 0 ∷ [] ≡ key_name m.edges (edge m x)
      its-edge =
          let some : edge m x ≡ 0 → ⊥ = λ e. omega (arith, (in_table m.edges (edge m x) (S.edge-exists x u)).0) in
          ap (λ (z : ℕ). z ∷ []) (some-cell m.edges (edge m x) some) ∙ sym (key-name m.edges (edge m x) some)

  edge-told : (e : ℕ) → IsEdge m e → edge_told (edge_cells (edge_record m e)) ≡ edge_record m e
  unfolding edge_told edge_cells edge_record
  edge-told e u = rw (arc-told (edge_arc m e) (S.both-arcs e u).first-exists)

  pub face-arc : (f : ℕ) → IsFace m f → IsArc m (face_arc m f)
  unfolding times
  face-arc f u = let ring = S.rings f u in (ring.each_holds 0 (omega (arith, ring.at-least-3))).exists

  face-told : (f : ℕ) → IsFace m f → face_told (face_cells (face_record m f)) ≡ face_record m f
  unfolding face_told face_cells face_record
  face-told f u = rw (arc-told (face_arc m f) (face-arc f u))

  -- the file's contents tell the records
  pub records-told : records_told (contents_of (records m)) ≡ records m
  unfolding records_told contents_of records body
  records-told =
      rw (
        told-links vertex_told vertex_cells (vertex_record m) (key_before m.vertices) m.vertices vertex-told,
        told-links arc_told arc_cells (arc_record m) (arc_before m) m.arcs arc-record-told,
        told-links edge_told edge_cells (edge_record m) (key_before m.edges) m.edges edge-told,
        told-links face_told face_cells (face_record m) (key_before m.faces) m.faces face-told,
      )

  -- ---- fitting

  low_fits : (k : ℕ) → k < none_cell → T (ltb k (256 ^ 4))
  low_fits k h = below-T k (256 ^ 4) (omega arith)

  arc-cell-fits : (x i : ℕ) → i < 2 → ((x ≡ 0 → ⊥) → IsArc m x) → T (ltb (key_cell (arc_name m x) i) (256 ^ 4))
  arc-cell-fits x i l h = go i l (ℕ_discrete x 0)
    where
      go : (j : ℕ) → j < 2 → Dec (x ≡ 0) → T (ltb (key_cell (arc_name m x) j) (256 ^ 4))
      go j q (yes e) = below-T (key_cell (arc_name m x) j) (256 ^ 4) (omega (arith, ap (λ (z : ℕ). key_cell (arc_name m z) j) e ∙ no-arc j))
      go zero q (no ne) = low_fits (key_cell (arc_name m x) 0) (omega (arith, starts-at x (h ne), vertex-low (source m x) (S.ends-exist x (h ne)).0))
      go (suc zero) q (no ne) = low_fits (key_cell (arc_name m x) 1) (omega (arith, ends_at x (h ne), vertex-low (dest m x) (S.ends-exist x (h ne)).1))
      go (suc (suc j)) q (no ne) = absurd (let z : ⊥ = omega arith in z)

  vertex-fits : (v : ℕ) → IsVertex m v → T (row_fits (4 ∷ 8 ∷ 8 ∷ 8 ∷ 4 ∷ []) (vertex_cells (vertex_record m v)))
  unfolding vertex_cells vertex_record row_fits
  vertex-fits v u =
      and_i (ltb (key_at m.vertices v) (256 ^ 4)) _ (low_fits (key_at m.vertices v) (vertex-low v u))
      (rw (position_here v u)
      (and_i (ltb (to_bits binary64 (coordinate m v 0)) (256 ^ 8)) _ (below-T (to_bits binary64 (coordinate m v 0)) (256 ^ 8) (bits_fit v 0 u (omega arith)))
      (and_i (ltb (to_bits binary64 (coordinate m v 1)) (256 ^ 8)) _ (below-T (to_bits binary64 (coordinate m v 1)) (256 ^ 8) (bits_fit v 1 u (omega arith)))
      (and_i (ltb (to_bits binary64 (coordinate m v 2)) (256 ^ 8)) _ (below-T (to_bits binary64 (coordinate m v 2)) (256 ^ 8) (bits_fit v 2 u (omega arith)))
      (and_i (ltb (key_cell (arc_name m (leading m v)) 1) (256 ^ 4)) true (arc-cell-fits (leading m v) 1 (omega arith) (λ ne. (S.leads-out v u ne).0)) tt)))))

  arc-fits : (x : ℕ) → IsArc m x → T (row_fits (4 ∷ 4 ∷ 4 ∷ 4 ∷ 4 ∷ 4 ∷ []) (arc_cells (arc_record m x)))
  unfolding arc_cells arc_record row_fits
  arc-fits x u =
      and_i (ltb (key_cell (arc_name m x) 0) (256 ^ 4)) _ (arc-cell-fits x 0 (omega arith) (λ ne. u))
      (and_i (ltb (key_cell (arc_name m x) 1) (256 ^ 4)) _ (arc-cell-fits x 1 (omega arith) (λ ne. u))
      (and_i (ltb (key_cell (arc_name m (next m x)) 1) (256 ^ 4)) _ (arc-cell-fits (next m x) 1 (omega arith) (λ ne. (S.next-leaves x u ne).0))
      (and_i (ltb (key_cell (arc_name m (previous m x)) 0) (256 ^ 4)) _ (arc-cell-fits (previous m x) 0 (omega arith) (λ ne. (S.previous-arrives x u ne).0))
      (and_i (ltb (key_cell (key_name m.faces (face m x)) 0) (256 ^ 4)) _ held
      (and_i (ltb (key_cell (key_name m.edges (edge m x)) 0) (256 ^ 4)) true its-edge tt)))))
    where
      held : T (ltb (key_cell (key_name m.faces (face m x)) 0) (256 ^ 4))
      held = go (ℕ_discrete (face m x) 0)
        where
          go : Dec (face m x ≡ 0) → T (ltb (key_cell (key_name m.faces (face m x)) 0) (256 ^ 4))
          go (yes e) = below-T (key_cell (key_name m.faces (face m x)) 0) (256 ^ 4) (omega (arith, ap (λ (z : ℕ). key_cell (key_name m.faces z) 0) e ∙ none-cell m.faces))
          go (no ne) = low_fits (key_cell (key_name m.faces (face m x)) 0) (omega (arith, some-cell m.faces (face m x) ne, face-low (face m x) (S.face-exists x u ne)))

      its-edge : T (ltb (key_cell (key_name m.edges (edge m x)) 0) (256 ^ 4))
      its-edge =
          let some : edge m x ≡ 0 → ⊥ = λ e. omega (arith, (in_table m.edges (edge m x) (S.edge-exists x u)).0) in
          low_fits (key_cell (key_name m.edges (edge m x)) 0) (omega (arith, some-cell m.edges (edge m x) some, edge-low (edge m x) (S.edge-exists x u)))

  edge-fits : (e : ℕ) → IsEdge m e → T (row_fits (4 ∷ 4 ∷ 4 ∷ []) (edge_cells (edge_record m e)))
  unfolding edge_cells edge_record row_fits
  edge-fits e u =
      let x : IsArc m (edge_arc m e) = (S.both-arcs e u).first-exists in
      and_i (ltb (key_at m.edges e) (256 ^ 4)) _ (low_fits (key_at m.edges e) (edge-low e u))
      (and_i (ltb (key_cell (arc_name m (edge_arc m e)) 0) (256 ^ 4)) _ (arc-cell-fits (edge_arc m e) 0 (omega arith) (λ ne. x))
      (and_i (ltb (key_cell (arc_name m (edge_arc m e)) 1) (256 ^ 4)) true (arc-cell-fits (edge_arc m e) 1 (omega arith) (λ ne. x)) tt))

  face-fits : (f : ℕ) → IsFace m f → T (row_fits (4 ∷ 4 ∷ 4 ∷ 4 ∷ []) (face_cells (face_record m f)))
  unfolding face_cells face_record row_fits
  face-fits f u =
      let x : IsArc m (face_arc m f) = face-arc f u in
      and_i (ltb (key_at m.faces f) (256 ^ 4)) _ (low_fits (key_at m.faces f) (face-low f u))
      (and_i (ltb (key_cell (arc_name m (face_arc m f)) 0) (256 ^ 4)) _ (arc-cell-fits (face_arc m f) 0 (omega arith) (λ ne. x))
      (and_i (ltb (key_cell (arc_name m (face_arc m f)) 1) (256 ^ 4)) _ (arc-cell-fits (face_arc m f) 1 (omega arith) (λ ne. x))
      (and_i (ltb (mark m f) (256 ^ 4)) true (below-T (mark m f) (256 ^ 4) (H.marks f)) tt)))

  few-arc-rows : length m.arcs ≤ 16384
  few-arc-rows = omega (arith, S.sizes.arc-rows, S.sizes.edge-rows)

  pub contents-of-fit : T (contents_fit (contents_of (records m)))
  unfolding contents_fit contents_of records
  contents-of-fit =
      and_i (bodies_fit schema (contents_of (records m)).bodies) (row_fits counter_widths m.counters)
      (body-joins _ _ _ vertex_cells (vertex_record m) (key_before m.vertices) m.vertices (omega (arith, S.sizes.vertex-rows)) vertex-fits
      (body-joins _ _ _ arc_cells (arc_record m) (arc_before m) m.arcs few-arc-rows arc-fits
      (body-joins _ _ _ edge_cells (edge_record m) (key_before m.edges) m.edges (omega (arith, S.sizes.edge-rows)) edge-fits
      (body-joins _ _ _ face_cells (face_record m) (key_before m.faces) m.faces (omega (arith, S.sizes.face-rows)) face-fits none-fit))))
      H.counters

-- two sound meshes have equal files exactly when their records and counters are equal
pub files-tell : (m n : Mesh) → T (sound m) → Stored m → T (sound n) → Stored n → (file_of m ≡ file_of n) ↔ (records m ≡ records n)
unfolding file_of
files-tell m n sm hm sn hn = (same, λ e. ap (λ (r : Records). file_text (contents_of r)) e)
  where
    same : file_text (contents_of (records m)) ≡ file_text (contents_of (records n)) → records m ≡ records n
    same e =
        let reads-m = contents-back (contents_of (records m)) (contents-of-fit m (facts m sm) hm) in
        let reads-n = contents-back (contents_of (records n)) (contents-of-fit n (facts n sn) hn) in
        sym (records-told m (facts m sm) hm) ∙ ap records_told (sym reads-m ∙ ap contents_in e ∙ reads-n) ∙ records-told n (facts n sn) hn
