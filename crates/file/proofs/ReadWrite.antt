-- "Each accepted file is what the writer would write": the mesh that reading an accepted file leaves has that file. Row i of each of its
-- tables is record i of its body, keys rise, so the order of rows is the order of records; and each link reads back as the name it came from.
use Prim.Native.Nat.{ℕ, zero, suc, ◌+◌, ◌-◌, ◌^◌, ◌≤◌, ◌<◌}
use native.Mathlib.Nat.{le_of_suc-le-suc, not-suc-le-zero}
use native.Mathlib.Omega.{arith}
use native.Mathlib.Decide.{dec_lt, ℕ_discrete}
use mathlib.Core.Path.{◌≡◌, refl, ap, sym, subst, ◌∙◌}
use mathlib.Core.Bool.{Bool, true, false, not, ◌&&◌, ◌||◌}
use mathlib.Core.List.{List, [], ◌∷◌, map}
use lib.ListN.{length, get_or, drop}
use lib.Dec.{T, eqb, ltb, eqb→eq, ltb→lt, not_T}
use lib.Ieee.{Float, nan, inf, fin, is_nan, binary64, to_bits, of_bits}
use lib.Ieee.Bits.{to_bits-of_bits}
use lib.Ieee.Fits.{and_l, and_r}
use borrow.Author.Tests.{lt-ltb, le-ltb, eq-eqb, ne_eqb}
use Rattle.rules.specs.declared.Position.{Position}
use Rattle.rules.specs.Table.{Table, cell, first_row, every, there, times}
use Rattle.rules.specs.Mesh.{Mesh, Room, source, dest, next, previous, face, edge, leading, edge_arc, face_arc, mark, key_at}
use Rattle.rules.specs.Point.{exponent_field, position_at, position_of}
use Rattle.rules.specs.Records.{arc_name, key_name, vertex_record, arc_record, edge_record, face_record, used_from, in_order, key_before, arc_before, records}
use Rattle.rules.specs.Sound.{sound}
use Rattle.rules.specs.Script.{Text}
use Rattle.rules.proofs.Sums.{all-at}
use Rattle.proved.specs.Facts.{IsVertex, IsArc, IsEdge, IsFace, SoundFacts}
use Rattle.proved.proofs.Rows.{true-T, row-link, every-at}
use Rattle.proved.proofs.Clauses.{facts}
use Rattle.file.specs.File.{Contents, bytes_only, row_fits, schema, bodies_fit, contents_fit, counter_widths, key_cells, contents_in, file_text, length_fits, in_place, rises_by, rising, all_rise, none_cell, key_cell, vertex_cells, arc_cells, edge_cells, face_cells, contents_of, file_of, body, or_nowhere, has_key, has_ends, by_key, by_ends, unless_none, vertex_row, position_row, arc_row, edge_row, face_row, mesh_of, tables_hold, read_number, sizes_serve, read_file}
use Rattle.file.proofs.Whole.{file-back, contents-fit, keys-rise}
use Rattle.file.proofs.Rows.{spells, up_from, used-links, already-in-order, map-up, found-there}
use Rattle.file.proofs.Rowed.{RowsOf, Rowed, rowed, by-key-pos, by-ends-pos, FirstCell, vertex-pos, arc-pos, edge-pos, face-pos, row-used}

-- ---- coordinates

nan_is : (x : Float) → T (is_nan x) → x ≡ nan
unfolding is_nan
nan_is nan h = refl
nan_is (inf s) h = absurd h
nan_is (fin s m e) h = absurd h

nan-field : exponent_field (to_bits binary64 nan) ≡ 2047
unfolding exponent_field to_bits
nan-field = refl

-- 64 bits that are finite are the bits of their coordinate
pub bits_back : (b : ℕ) → b < 256 ^ 8 → (exponent_field (to_bits binary64 (of_bits binary64 b)) ≡ 2047 → ⊥) → to_bits binary64 (of_bits binary64 b) ≡ b
bits_back b h finite =
    to_bits-of_bits binary64 b h
    (not_T (is_nan (of_bits binary64 b)) (λ u. finite (ap (λ (x : Float). exponent_field (to_bits binary64 x)) (nan_is (of_bits binary64 b) u) ∙ nan-field)))

pub position-is : (ps : List (List Float)) (i : ℕ) → i < length ps → position_at ps (i + 1) ≡ position_of (get_or ps i [])
unfolding position_at
position-is ps i h = rw (ne_eqb (i + 1) 0 (λ e. omega arith), row-link i, lt-ltb i (length ps) h)

-- ---- records whose cells fit

pub row-cells : (ws r : List ℕ) → T (row_fits ws r) → length r ≡ length ws
unfolding row_fits
row-cells [] [] h = refl
row-cells [] (c ∷ cs) h = absurd h
row-cells (w ∷ ws) [] h = absurd h
row-cells (w ∷ ws) (c ∷ cs) h = ap suc (row-cells ws cs (and_r (ltb c (256 ^ w)) (row_fits ws cs) h))

pub cell-fits-at : (ws r : List ℕ) (k : ℕ) → T (row_fits ws r) → k < length ws → get_or r k 0 < 256 ^ get_or ws k 0
unfolding row_fits
cell-fits-at [] r k h l = absurd (not-suc-le-zero l)
cell-fits-at (w ∷ ws) [] k h l = absurd h
cell-fits-at (w ∷ ws) (c ∷ cs) zero h l = ltb→lt c (256 ^ w) (and_l (ltb c (256 ^ w)) (row_fits ws cs) h)
cell-fits-at (w ∷ ws) (c ∷ cs) (suc k) h l = cell-fits-at ws cs k (and_r (ltb c (256 ^ w)) (row_fits ws cs) h) (le_of_suc-le-suc l)

pub bodies-count : (wss : List (List ℕ)) (bs : List Table) → T (bodies_fit wss bs) → length bs ≡ length wss
unfolding bodies_fit
bodies-count [] [] h = refl
bodies-count [] (b ∷ bs) h = absurd h
bodies-count (ws ∷ wss) [] h = absurd h
bodies-count (ws ∷ wss) (b ∷ bs) h =
    ap suc (bodies-count wss bs (and_r (every (row_fits ws) b) (bodies_fit wss bs) (and_r (ltb (length b) (256 ^ 4)) (every (row_fits ws) b && bodies_fit wss bs) h)))

pub body-rows-fit : (wss : List (List ℕ)) (bs : List Table) (k : ℕ) → T (bodies_fit wss bs) → k < length wss → T (every (row_fits (get_or wss k [])) (get_or bs k []))
unfolding bodies_fit
body-rows-fit [] bs k h l = absurd (not-suc-le-zero l)
body-rows-fit (ws ∷ wss) [] k h l = absurd h
body-rows-fit (ws ∷ wss) (b ∷ bs) zero h l =
    and_l (every (row_fits ws) b) (bodies_fit wss bs) (and_r (ltb (length b) (256 ^ 4)) (every (row_fits ws) b && bodies_fit wss bs) h)
body-rows-fit (ws ∷ wss) (b ∷ bs) (suc k) h l =
    body-rows-fit wss bs k (and_r (every (row_fits ws) b) (bodies_fit wss bs) (and_r (ltb (length b) (256 ^ 4)) (every (row_fits ws) b && bodies_fit wss bs) h)) (le_of_suc-le-suc l)

pub bodies-rise : (ns : List ℕ) (bs : List Table) (k : ℕ) → T (all_rise ns bs) → k < length ns → T (rising (get_or ns k 0) (get_or bs k []))
unfolding all_rise
bodies-rise [] bs k h l = absurd (not-suc-le-zero l)
bodies-rise (n ∷ ns) bs zero h l = and_l (rising n (get_or bs 0 [])) (all_rise ns (drop 1 bs)) h
bodies-rise (n ∷ ns) [] (suc k) h l = bodies-rise ns [] k (and_r (rising n []) (all_rise ns []) h) (le_of_suc-le-suc l)
bodies-rise (n ∷ ns) (b ∷ bs) (suc k) h l = bodies-rise ns bs k (and_r (rising n b) (all_rise ns bs) h) (le_of_suc-le-suc l)

pub rows-rise : (n : ℕ) (rows : Table) → T (rising n rows) → (i : ℕ) → i + 1 < length rows → T (rises_by n (get_or rows i []) (get_or rows (i + 1) []))
unfolding rising
rows-rise n rows h i l = all-at (λ i. rises_by n (get_or rows i []) (get_or rows (i + 1) [])) (length rows - 1) h i (omega arith)

-- ---- links and names

-- a cell that says none, and one that does not
pub unless-none : (k l : ℕ) → k ≡ none_cell → unless_none k l ≡ 0
unfolding unless_none
unless-none k l e = rw (eq-eqb k none_cell e)

pub unless-some : (k l : ℕ) → (k ≡ none_cell → ⊥) → unless_none k l ≡ l
unfolding unless_none
unless-some k l h = rw (ne_eqb k none_cell h)

-- the cell of a key, or of none
pub none-cell : (t : Table) → key_cell (key_name t 0) 0 ≡ none_cell
unfolding key_name key_cell
none-cell t = refl

pub some-cell : (t : Table) (l : ℕ) → (l ≡ 0 → ⊥) → key_cell (key_name t l) 0 ≡ key_at t l
unfolding key_name key_cell
some-cell t l h = rw (ne_eqb l 0 h)

-- a link that is there reads back as the key it came from
key-named : (t rows : Table) → length t ≤ 16384 → ((i : ℕ) → i < length rows → key_at t (i + 1) ≡ get_or (get_or rows i []) 0 0) → (k : ℕ)
    → T (there t (or_nowhere (first_row (has_key k) rows))) → key_at t (or_nowhere (first_row (has_key k) rows)) ≡ k
key-named t rows few keys k u =
    let f = found-there (has_key k) rows t few u in
    ap (λ (z : ℕ). key_at t z) f.link-is ∙ keys f.place f.within ∙ eqb→eq (get_or (get_or rows f.place []) 0 0) k (true-T f.passes)

-- a table's first rows are in use, and no others
in_use : (rows t : Table) (make : List ℕ → List ℕ) → RowsOf rows make t → FirstCell make
    → used_from t 1 t ≡ up_from 1 (length rows)
in_use rows t make R pos = used-links t 1 (length rows) t R.few each
  where
    link : (i : ℕ) → 1 + i ≡ i + 1
    link i = omega arith

    each : (i : ℕ) → i < length t → there t (1 + i) ≡ ltb i (length rows)
    each i l = ap (λ (z : ℕ). there t z) (link i) ∙ go (dec_lt i (length rows))
      where
        go : Dec (i < length rows) → there t (i + 1) ≡ ltb i (length rows)
        go (yes p) =
            ap not (ne_eqb (cell t (i + 1) 0) 0 (λ e. pos (get_or rows i []) (sym (R.cells i 0 p) ∙ e))) ∙ sym (lt-ltb i (length rows) p)
        go (no p) =
            let q : length rows ≤ i = omega arith in
            ap not (eq-eqb (cell t (i + 1) 0) 0 (R.past i 0 q)) ∙ sym (le-ltb i (length rows) q)

-- the records of such a table in order, as cells, are the records that its rows were made of
rows_back : {B : Type 0} (cells : B → List ℕ) (of : ℕ → B) (before : ℕ → ℕ → Bool) (t rows : Table) (make : List ℕ → List ℕ) → RowsOf rows make t → FirstCell make
    → ((i : ℕ) → i + 1 < length rows → before (1 + i) (1 + i + 1) ≡ true)
    → ((i : ℕ) → i < length rows → cells (of (i + 1)) ≡ get_or rows i [])
    → map cells (map of (in_order before (used_from t 1 t))) ≡ rows
rows_back cells of before t rows make R pos rise back =
    ap (λ (l : List ℕ). map cells (map of (in_order before l))) (in_use rows t make R pos)
    ∙ ap (λ (l : List ℕ). map cells (map of l)) (already-in-order before 1 (length rows) rise)
    ∙ map-up cells of rows 1 (λ i l. ap (λ (z : ℕ). cells (of z)) (link i) ∙ back i l)
  where
    link : (i : ℕ) → 1 + i ≡ i + 1
    link i = omega arith

-- a record before another by its first cell, and by its first two
pub rises-one : (r s : List ℕ) → T (rises_by 1 r s) → ltb (get_or r 0 0) (get_or s 0 0) ≡ true
unfolding rises_by
rises-one r s h = go (ltb (get_or r 0 0) (get_or s 0 0)) (eqb (get_or r 0 0) (get_or s 0 0)) h
  where
    go : (a b : Bool) → T (a || (b && false)) → a ≡ true
    go true b t = refl
    go false true t = absurd t
    go false false t = absurd t

pub rises-two : (r s : List ℕ) → T (rises_by 2 r s)
    → (ltb (get_or r 0 0) (get_or s 0 0) || (eqb (get_or r 0 0) (get_or s 0 0) && ltb (get_or (drop 1 r) 0 0) (get_or (drop 1 s) 0 0))) ≡ true
unfolding rises_by
rises-two r s h =
    go (ltb (get_or r 0 0) (get_or s 0 0)) (eqb (get_or r 0 0) (get_or s 0 0)) (ltb (get_or (drop 1 r) 0 0) (get_or (drop 1 s) 0 0)) (eqb (get_or (drop 1 r) 0 0) (get_or (drop 1 s) 0 0)) h
  where
    go : (a b x y : Bool) → T (a || (b && (x || (y && false)))) → (a || (b && x)) ≡ true
    go true b x y t = refl
    go false false x y t = absurd t
    go false true true y t = refl
    go false true false true t = absurd t
    go false true false false t = absurd t

-- rows with the keys of records that rise are in order
key-order : (t rows : Table) → ((i : ℕ) → i < length rows → key_at t (i + 1) ≡ get_or (get_or rows i []) 0 0) → T (rising 1 rows)
    → (i : ℕ) → i + 1 < length rows → key_before t (1 + i) (1 + i + 1) ≡ true
unfolding key_before
key-order t rows keys h i l =
    let a : 1 + i ≡ i + 1 = omega arith in
    let x = keys i (omega arith) in
    let y = keys (i + 1) l in
    rw (a, x, y) (rises-one (get_or rows i []) (get_or rows (i + 1) []) (rows-rise 1 rows h i l))

module _ (c : Contents) (n : Mesh) (R : Rowed c n) (S : SoundFacts n) where
  few-arcs : length n.arcs ≤ 16384
  few-arcs = omega (arith, S.sizes.arc-rows, S.sizes.edge-rows)

  -- keys of rows
  vertex-key : (i : ℕ) → i < length (body c 0) → key_at n.vertices (i + 1) ≡ get_or (get_or (body c 0) i []) 0 0
  unfolding vertex_row
  vertex-key i l = ap (λ (z : ℕ). z - 1) (R.vertices.cells i 0 l) ∙ row-link (get_or (get_or (body c 0) i []) 0 0)

  edge-key : (i : ℕ) → i < length (body c 2) → key_at n.edges (i + 1) ≡ get_or (get_or (body c 2) i []) 0 0
  unfolding edge_row
  edge-key i l = ap (λ (z : ℕ). z - 1) (R.edges.cells i 0 l) ∙ row-link (get_or (get_or (body c 2) i []) 0 0)

  face-key : (i : ℕ) → i < length (body c 3) → key_at n.faces (i + 1) ≡ get_or (get_or (body c 3) i []) 0 0
  unfolding face_row
  face-key i l = ap (λ (z : ℕ). z - 1) (R.faces.cells i 0 l) ∙ row-link (get_or (get_or (body c 3) i []) 0 0)

  -- each row of a record is in use
  is-vertex : (i : ℕ) → i < length (body c 0) → IsVertex n (i + 1)
  is-vertex i l = row-used (body c 0) n.vertices (vertex_row c) R.vertices (vertex-pos c) i l

  is-arc : (i : ℕ) → i < length (body c 1) → IsArc n (i + 1)
  is-arc i l = row-used (body c 1) n.arcs (arc_row c) R.arcs (arc-pos c) i l

  is-edge : (i : ℕ) → i < length (body c 2) → IsEdge n (i + 1)
  is-edge i l = row-used (body c 2) n.edges (edge_row c) R.edges (edge-pos c) i l

  is-face : (i : ℕ) → i < length (body c 3) → IsFace n (i + 1)
  is-face i l = row-used (body c 3) n.faces (face_row c) R.faces (face-pos c) i l

  -- links that are there
  vertex-named : (k : ℕ) → IsVertex n (by_key c 0 k) → key_at n.vertices (by_key c 0 k) ≡ k
  unfolding by_key
  vertex-named k u = key-named n.vertices (body c 0) (omega (arith, S.sizes.vertex-rows)) vertex-key k u

  edge-named : (k : ℕ) → IsEdge n (by_key c 2 k) → key_at n.edges (by_key c 2 k) ≡ k
  unfolding by_key
  edge-named k u = key-named n.edges (body c 2) (omega (arith, S.sizes.edge-rows)) edge-key k u

  face-named : (k : ℕ) → IsFace n (by_key c 3 k) → key_at n.faces (by_key c 3 k) ≡ k
  unfolding by_key
  face-named k u = key-named n.faces (body c 3) (omega (arith, S.sizes.face-rows)) face-key k u

  -- the keys of an arc's ends
  source-key : (i : ℕ) → i < length (body c 1) → key_at n.vertices (source n (i + 1)) ≡ get_or (get_or (body c 1) i []) 0 0
  unfolding arc_row
  source-key i l =
      let e : source n (i + 1) ≡ by_key c 0 (get_or (get_or (body c 1) i []) 0 0) = R.arcs.cells i 0 l in
      ap (λ (z : ℕ). key_at n.vertices z) e
      ∙ vertex-named (get_or (get_or (body c 1) i []) 0 0) (subst (λ (z : ℕ). IsVertex n z) e (S.ends-exist (i + 1) (is-arc i l)).0)

  dest-key : (i : ℕ) → i < length (body c 1) → key_at n.vertices (dest n (i + 1)) ≡ get_or (get_or (body c 1) i []) 1 0
  unfolding arc_row
  dest-key i l =
      let e : dest n (i + 1) ≡ by_key c 0 (get_or (get_or (body c 1) i []) 1 0) = R.arcs.cells i 1 l in
      ap (λ (z : ℕ). key_at n.vertices z) e
      ∙ vertex-named (get_or (get_or (body c 1) i []) 1 0) (subst (λ (z : ℕ). IsVertex n z) e (S.ends-exist (i + 1) (is-arc i l)).1)

  arc-name : (i : ℕ) → i < length (body c 1) → arc_name n (i + 1) ≡ get_or (get_or (body c 1) i []) 0 0 ∷ get_or (get_or (body c 1) i []) 1 0 ∷ []
  unfolding arc_name
  arc-name i l = rw (ne_eqb (i + 1) 0 (λ e. omega arith), source-key i l, dest-key i l)

  arc-named : (s d : ℕ) → IsArc n (by_ends c s d) → arc_name n (by_ends c s d) ≡ s ∷ d ∷ []
  unfolding by_ends
  arc-named s d u =
      let f = found-there (has_ends s d) (body c 1) n.arcs few-arcs u in
      let r : List ℕ = get_or (body c 1) f.place [] in
      let p : T (has_ends s d r) = true-T f.passes in
      ap (arc_name n) f.link-is
      ∙ arc-name f.place f.within
      ∙ ap (λ (z : ℕ). z ∷ get_or r 1 0 ∷ []) (eqb→eq (get_or r 0 0) s (and_l (eqb (get_or r 0 0) s) (eqb (get_or r 1 0) d) p))
      ∙ ap (λ (z : ℕ). s ∷ z ∷ []) (eqb→eq (get_or r 1 0) d (and_r (eqb (get_or r 0 0) s) (eqb (get_or r 1 0) d) p))

  -- a cell that says an arc or none is written as it was read
  arc-or-none : (k s d i : ℕ) → get_or (s ∷ d ∷ []) i none_cell ≡ k
      → ((unless_none k (by_ends c s d) ≡ 0 → ⊥) → IsArc n (unless_none k (by_ends c s d)))
      → key_cell (arc_name n (unless_none k (by_ends c s d))) i ≡ k
  unfolding key_cell
  arc-or-none k s d i e exists = go (ℕ_discrete k none_cell)
    where
      none : (j : ℕ) → get_or (arc_name n 0) j none_cell ≡ none_cell
      none zero = unfold arc_name in refl
      none (suc j) = unfold arc_name in refl

      go : Dec (k ≡ none_cell) → get_or (arc_name n (unless_none k (by_ends c s d))) i none_cell ≡ k
      go (yes z) = ap (λ (w : ℕ). get_or (arc_name n w) i none_cell) (unless-none k (by_ends c s d) z) ∙ none i ∙ sym z
      go (no nz) =
          let t : unless_none k (by_ends c s d) ≡ by_ends c s d = unless-some k (by_ends c s d) nz in
          let u : IsArc n (by_ends c s d) = subst (λ (z : ℕ). IsArc n z) t (exists (λ q. by-ends-pos c s d (sym t ∙ q))) in
          ap (λ (z : ℕ). get_or (arc_name n z) i none_cell) t ∙ ap (λ (w : List ℕ). get_or w i none_cell) (arc-named s d u) ∙ e

  -- ---- each record's cells

  vertex-back : (i : ℕ) → i < length (body c 0) → T (row_fits (4 ∷ 8 ∷ 8 ∷ 8 ∷ 4 ∷ []) (get_or (body c 0) i []))
      → vertex_cells (vertex_record n (i + 1)) ≡ get_or (body c 0) i []
  unfolding vertex_cells vertex_record
  vertex-back i l fit =
      rw (vertex-key i l, x, y, z, lead) (spells 0 r 0 5 (sym (row-cells (4 ∷ 8 ∷ 8 ∷ 8 ∷ 4 ∷ []) r fit)))
    where
      r : List ℕ
      r = get_or (body c 0) i []

      rows : i < length n.positions
      rows = omega (arith, R.vertices.few, S.sizes.position-rows)

      at : position_at n.positions (i + 1) ≡ position_of (position_row r)
      at = position-is n.positions i rows ∙ ap position_of (R.positions i l)

      finite : (k : ℕ) → k < 3 → exponent_field (to_bits binary64 (get_or (position_row r) k nan)) ≡ 2047 → ⊥
      finite k q e =
          S.all-finite (i + 1) k (omega arith) (omega arith) q
          (ap (λ (j : ℕ). exponent_field (to_bits binary64 (get_or (get_or n.positions j []) k nan))) (row-link i)
          ∙ ap (λ (p : List Float). exponent_field (to_bits binary64 (get_or p k nan))) (R.positions i l)
          ∙ e)

      x : to_bits binary64 (position_at n.positions (i + 1)).x ≡ get_or r 1 0
      x =
          ap (λ (p : Position). to_bits binary64 p.x) at
          ∙ (unfold position_row in bits_back (get_or r 1 0) (cell-fits-at (4 ∷ 8 ∷ 8 ∷ 8 ∷ 4 ∷ []) r 1 fit (omega arith)) (finite 0 (omega arith)))

      y : to_bits binary64 (position_at n.positions (i + 1)).y ≡ get_or r 2 0
      y =
          ap (λ (p : Position). to_bits binary64 p.y) at
          ∙ (unfold position_row in bits_back (get_or r 2 0) (cell-fits-at (4 ∷ 8 ∷ 8 ∷ 8 ∷ 4 ∷ []) r 2 fit (omega arith)) (finite 1 (omega arith)))

      z : to_bits binary64 (position_at n.positions (i + 1)).z ≡ get_or r 3 0
      z =
          ap (λ (p : Position). to_bits binary64 p.z) at
          ∙ (unfold position_row in bits_back (get_or r 3 0) (cell-fits-at (4 ∷ 8 ∷ 8 ∷ 8 ∷ 4 ∷ []) r 3 fit (omega arith)) (finite 2 (omega arith)))

      link : leading n (i + 1) ≡ unless_none (get_or r 4 0) (by_ends c (get_or r 0 0) (get_or r 4 0))
      link = R.vertices.cells i 1 l ∙ (unfold vertex_row in refl)

      lead : key_cell (arc_name n (leading n (i + 1))) 1 ≡ get_or r 4 0
      lead =
          ap (λ (w : ℕ). key_cell (arc_name n w) 1) link
          ∙ arc-or-none (get_or r 4 0) (get_or r 0 0) (get_or r 4 0) 1 refl
          (λ q. subst (λ (w : ℕ). IsArc n w) link (S.leads-out (i + 1) (is-vertex i l) (λ e. q (sym link ∙ e))).0)

  arc-back : (i : ℕ) → i < length (body c 1) → T (row_fits (4 ∷ 4 ∷ 4 ∷ 4 ∷ 4 ∷ 4 ∷ []) (get_or (body c 1) i []))
      → arc_cells (arc_record n (i + 1)) ≡ get_or (body c 1) i []
  unfolding arc_cells arc_record
  arc-back i l fit =
      rw (starts, ends, after, before, held, its-edge) (spells 0 r 0 6 (sym (row-cells (4 ∷ 4 ∷ 4 ∷ 4 ∷ 4 ∷ 4 ∷ []) r fit)))
    where
      r : List ℕ
      r = get_or (body c 1) i []

      starts : key_cell (arc_name n (i + 1)) 0 ≡ get_or r 0 0
      starts = ap (λ (w : List ℕ). key_cell w 0) (arc-name i l) ∙ (unfold key_cell in refl)

      ends : key_cell (arc_name n (i + 1)) 1 ≡ get_or r 1 0
      ends = ap (λ (w : List ℕ). key_cell w 1) (arc-name i l) ∙ (unfold key_cell in refl)

      next-link : next n (i + 1) ≡ unless_none (get_or r 2 0) (by_ends c (get_or r 1 0) (get_or r 2 0))
      next-link = R.arcs.cells i 2 l ∙ (unfold arc_row in refl)

      after : key_cell (arc_name n (next n (i + 1))) 1 ≡ get_or r 2 0
      after =
          ap (λ (w : ℕ). key_cell (arc_name n w) 1) next-link
          ∙ arc-or-none (get_or r 2 0) (get_or r 1 0) (get_or r 2 0) 1 refl
          (λ q. subst (λ (w : ℕ). IsArc n w) next-link (S.next-leaves (i + 1) (is-arc i l) (λ e. q (sym next-link ∙ e))).0)

      previous-link : previous n (i + 1) ≡ unless_none (get_or r 3 0) (by_ends c (get_or r 3 0) (get_or r 0 0))
      previous-link = R.arcs.cells i 3 l ∙ (unfold arc_row in refl)

      before : key_cell (arc_name n (previous n (i + 1))) 0 ≡ get_or r 3 0
      before =
          ap (λ (w : ℕ). key_cell (arc_name n w) 0) previous-link
          ∙ arc-or-none (get_or r 3 0) (get_or r 3 0) (get_or r 0 0) 0 refl
          (λ q. subst (λ (w : ℕ). IsArc n w) previous-link (S.previous-arrives (i + 1) (is-arc i l) (λ e. q (sym previous-link ∙ e))).0)

      face-link : face n (i + 1) ≡ unless_none (get_or r 4 0) (by_key c 3 (get_or r 4 0))
      face-link = R.arcs.cells i 4 l ∙ (unfold arc_row in refl)

      held : key_cell (key_name n.faces (face n (i + 1))) 0 ≡ get_or r 4 0
      held = go (ℕ_discrete (get_or r 4 0) none_cell)
        where
          go : Dec (get_or r 4 0 ≡ none_cell) → key_cell (key_name n.faces (face n (i + 1))) 0 ≡ get_or r 4 0
          go (yes e) =
              let none : face n (i + 1) ≡ 0 = face-link ∙ unless-none (get_or r 4 0) (by_key c 3 (get_or r 4 0)) e in
              ap (λ (w : ℕ). key_cell (key_name n.faces w) 0) none ∙ none-cell n.faces ∙ sym e
          go (no ne) =
              let link : face n (i + 1) ≡ by_key c 3 (get_or r 4 0) = face-link ∙ unless-some (get_or r 4 0) (by_key c 3 (get_or r 4 0)) ne in
              let some : face n (i + 1) ≡ 0 → ⊥ =
              λ q. by-key-pos c 3 (get_or r 4 0) (sym link ∙ q) in
              let u : IsFace n (by_key c 3 (get_or r 4 0)) = subst (λ (w : ℕ). IsFace n w) link (S.face-exists (i + 1) (is-arc i l) some) in
              let key : key_at n.faces (face n (i + 1)) ≡ get_or r 4 0 = ap (λ (w : ℕ). key_at n.faces w) link ∙ face-named (get_or r 4 0) u in
              some-cell n.faces (face n (i + 1)) some ∙ key

      edge-link : edge n (i + 1) ≡ by_key c 2 (get_or r 5 0)
      edge-link = R.arcs.cells i 5 l ∙ (unfold arc_row in refl)

      its-edge : key_cell (key_name n.edges (edge n (i + 1))) 0 ≡ get_or r 5 0
      its-edge =
          let some : edge n (i + 1) ≡ 0 → ⊥ =
          λ q. by-key-pos c 2 (get_or r 5 0) (sym edge-link ∙ q) in
          let u : IsEdge n (by_key c 2 (get_or r 5 0)) = subst (λ (w : ℕ). IsEdge n w) edge-link (S.edge-exists (i + 1) (is-arc i l)) in
          let key : key_at n.edges (edge n (i + 1)) ≡ get_or r 5 0 = ap (λ (w : ℕ). key_at n.edges w) edge-link ∙ edge-named (get_or r 5 0) u in
          some-cell n.edges (edge n (i + 1)) some ∙ key

  edge-back : (i : ℕ) → i < length (body c 2) → T (row_fits (4 ∷ 4 ∷ 4 ∷ []) (get_or (body c 2) i []))
      → edge_cells (edge_record n (i + 1)) ≡ get_or (body c 2) i []
  unfolding edge_cells edge_record
  edge-back i l fit = rw (edge-key i l, starts, ends) (spells 0 r 0 3 (sym (row-cells (4 ∷ 4 ∷ 4 ∷ []) r fit)))
    where
      r : List ℕ
      r = get_or (body c 2) i []

      link : edge_arc n (i + 1) ≡ by_ends c (get_or r 1 0) (get_or r 2 0)
      link = R.edges.cells i 1 l ∙ (unfold edge_row in refl)

      name : arc_name n (edge_arc n (i + 1)) ≡ get_or r 1 0 ∷ get_or r 2 0 ∷ []
      name =
          ap (arc_name n) link
          ∙ arc-named (get_or r 1 0) (get_or r 2 0) (subst (λ (w : ℕ). IsArc n w) link (S.both-arcs (i + 1) (is-edge i l)).first-exists)

      starts : key_cell (arc_name n (edge_arc n (i + 1))) 0 ≡ get_or r 1 0
      starts = ap (λ (w : List ℕ). key_cell w 0) name ∙ (unfold key_cell in refl)

      ends : key_cell (arc_name n (edge_arc n (i + 1))) 1 ≡ get_or r 2 0
      ends = ap (λ (w : List ℕ). key_cell w 1) name ∙ (unfold key_cell in refl)

  face-back : (i : ℕ) → i < length (body c 3) → T (row_fits (4 ∷ 4 ∷ 4 ∷ 4 ∷ []) (get_or (body c 3) i []))
      → face_cells (face_record n (i + 1)) ≡ get_or (body c 3) i []
  unfolding face_cells face_record
  face-back i l fit = rw (face-key i l, starts, ends, marked) (spells 0 r 0 4 (sym (row-cells (4 ∷ 4 ∷ 4 ∷ 4 ∷ []) r fit)))
    where
      r : List ℕ
      r = get_or (body c 3) i []

      link : face_arc n (i + 1) ≡ by_ends c (get_or r 1 0) (get_or r 2 0)
      link = R.faces.cells i 1 l ∙ (unfold face_row in refl)

      exists : IsArc n (face_arc n (i + 1))
      exists =
          let ring = S.rings (i + 1) (is-face i l) in
          unfold times in (ring.each_holds 0 (omega (arith, ring.at-least-3))).exists

      name : arc_name n (face_arc n (i + 1)) ≡ get_or r 1 0 ∷ get_or r 2 0 ∷ []
      name = ap (arc_name n) link ∙ arc-named (get_or r 1 0) (get_or r 2 0) (subst (λ (w : ℕ). IsArc n w) link exists)

      starts : key_cell (arc_name n (face_arc n (i + 1))) 0 ≡ get_or r 1 0
      starts = ap (λ (w : List ℕ). key_cell w 0) name ∙ (unfold key_cell in refl)

      ends : key_cell (arc_name n (face_arc n (i + 1))) 1 ≡ get_or r 2 0
      ends = ap (λ (w : List ℕ). key_cell w 1) name ∙ (unfold key_cell in refl)

      marked : mark n (i + 1) ≡ get_or r 3 0
      marked = R.faces.cells i 2 l ∙ (unfold face_row in refl)

  -- ---- all of them

  arc-order : T (rising 2 (body c 1)) → (i : ℕ) → i + 1 < length (body c 1) → arc_before n (1 + i) (1 + i + 1) ≡ true
  unfolding arc_before key_before
  arc-order h i l =
      let a : 1 + i ≡ i + 1 = omega arith in
      let q : i < length (body c 1) = omega arith in
      let r : List ℕ = get_or (body c 1) i [] in
      let s : List ℕ = get_or (body c 1) (i + 1) [] in
      rw (a, source-key i q, source-key (i + 1) l, dest-key i q, dest-key (i + 1) l)
      (ap (λ (b : Bool). ltb (get_or r 0 0) (get_or s 0 0) || (eqb (get_or r 0 0) (get_or s 0 0) && b)) (second r s) ∙ rises-two r s (rows-rise 2 (body c 1) h i l))
    where
      at_one : (r : List ℕ) → get_or r 1 0 ≡ get_or (drop 1 r) 0 0
      at_one [] = refl
      at_one (x ∷ xs) = refl

      second : (r s : List ℕ) → ltb (get_or r 1 0) (get_or s 1 0) ≡ ltb (get_or (drop 1 r) 0 0) (get_or (drop 1 s) 0 0)
      second r s = rw (at_one r, at_one s)

  -- the records of the mesh, as cells, are the file's
  pub cells-back : T (contents_fit c) → T (all_rise key_cells c.bodies) → contents_of (records n) ≡ c
  unfolding contents_of records
  cells-back fit rise =
      rw (vertices, arcs, edges, faces, R.counters) (ap (λ (bs : List Table). record { bodies = bs; counters = c.counters }) four)
    where
      fits : T (bodies_fit schema c.bodies)
      fits = unfold contents_fit in and_l (bodies_fit schema c.bodies) (row_fits counter_widths c.counters) fit

      four : body c 0 ∷ body c 1 ∷ body c 2 ∷ body c 3 ∷ [] ≡ c.bodies
      four = unfold body in spells [] c.bodies 0 4 (sym (bodies-count schema c.bodies fits))

      body-fit : (k : ℕ) → k < 4 → T (every (row_fits (get_or schema k [])) (body c k))
      body-fit k l = unfold body in body-rows-fit schema c.bodies k fits l

      body-rise : (k : ℕ) → k < 4 → T (rising (get_or key_cells k 0) (body c k))
      body-rise k l = unfold body in bodies-rise key_cells c.bodies k rise l

      each-fit : (k : ℕ) → k < 4 → (i : ℕ) → i < length (body c k) → T (row_fits (get_or schema k []) (get_or (body c k) i []))
      each-fit k q i l = every-at (row_fits (get_or schema k [])) (body c k) [] (body-fit k q) i l

      vertices : map vertex_cells (map (vertex_record n) (in_order (key_before n.vertices) (used_from n.vertices 1 n.vertices))) ≡ body c 0
      vertices =
          rows_back vertex_cells (vertex_record n) (key_before n.vertices) n.vertices (body c 0) (vertex_row c) R.vertices (vertex-pos c)
          (key-order n.vertices (body c 0) vertex-key (body-rise 0 (omega arith)))
          (λ i l. vertex-back i l (each-fit 0 (omega arith) i l))

      arcs : map arc_cells (map (arc_record n) (in_order (arc_before n) (used_from n.arcs 1 n.arcs))) ≡ body c 1
      arcs =
          rows_back arc_cells (arc_record n) (arc_before n) n.arcs (body c 1) (arc_row c) R.arcs (arc-pos c)
          (arc-order (body-rise 1 (omega arith)))
          (λ i l. arc-back i l (each-fit 1 (omega arith) i l))

      edges : map edge_cells (map (edge_record n) (in_order (key_before n.edges) (used_from n.edges 1 n.edges))) ≡ body c 2
      edges =
          rows_back edge_cells (edge_record n) (key_before n.edges) n.edges (body c 2) (edge_row c) R.edges (edge-pos c)
          (key-order n.edges (body c 2) edge-key (body-rise 2 (omega arith)))
          (λ i l. edge-back i l (each-fit 2 (omega arith) i l))

      faces : map face_cells (map (face_record n) (in_order (key_before n.faces) (used_from n.faces 1 n.faces))) ≡ body c 3
      faces =
          rows_back face_cells (face_record n) (key_before n.faces) n.faces (body c 3) (face_row c) R.faces (face-pos c)
          (key-order n.faces (body c 3) face-key (body-rise 3 (omega arith)))
          (λ i l. face-back i l (each-fit 3 (omega arith) i l))

-- ---- reading

-- what an accepted reading has passed
pub record Passed (lent : Mesh) (one two : Room) (t : Text) : Type 0 where
  pub serves : sizes_serve lent one two ≡ true
  pub fits : T (length_fits t)
  pub placed : T (in_place t)
  pub holds : T (tables_hold lent (contents_in t))
  pub is-sound : T (sound (mesh_of lent (contents_in t)))
  pub leaves : (read_file lent one two t).mesh ≡ mesh_of lent (contents_in t)

pub passed : (lent : Mesh) (one two : Room) (t : Text) → (read_file lent one two t).number ≡ 0 → Passed lent one two t
unfolding read_file read_number
passed lent one two t h =
    go (sizes_serve lent one two) refl (length_fits t) refl (in_place t) refl (tables_hold lent (contents_in t)) refl (sound (mesh_of lent (contents_in t))) refl h
  where
    go : (a : Bool) → sizes_serve lent one two ≡ a → (b : Bool) → length_fits t ≡ b → (p : Bool) → in_place t ≡ p
        → (q : Bool) → tables_hold lent (contents_in t) ≡ q → (s : Bool) → sound (mesh_of lent (contents_in t)) ≡ s
        → (read_file lent one two t).number ≡ 0 → Passed lent one two t
    go false ea b eb p ep q eq s es e = absurd (let z : 1 ≡ 0 = sym (rw ea) ∙ e in omega arith)
    go true ea false eb p ep q eq s es e = absurd (let z : 10 ≡ 0 = sym (rw (ea, eb)) ∙ e in omega arith)
    go true ea true eb false ep q eq s es e = absurd (let z : 11 ≡ 0 = sym (rw (ea, eb, ep)) ∙ e in omega arith)
    go true ea true eb true ep false eq s es e = absurd (let z : 7 ≡ 0 = sym (rw (ea, eb, ep, eq)) ∙ e in omega arith)
    go true ea true eb true ep true eq false es e = absurd (let z : 12 ≡ 0 = sym (rw (ea, eb, ep, eq, es)) ∙ e in omega arith)
    go true ea true eb true ep true eq true es e =
        record {
          serves = ea;
          fits = true-T eb;
          placed = true-T ep;
          holds = true-T eq;
          is-sound = true-T es;
          leaves = rw (ea, eb, ep, eq, es);
        }

-- each accepted file is what the writer would write
pub read-write : (lent : Mesh) (one two : Room) (t : Text) → T (bytes_only t) → (read_file lent one two t).number ≡ 0
    → file_of (read_file lent one two t).mesh ≡ t
unfolding file_of
read-write lent one two t b h =
    let p = passed lent one two t h in
    let c : Contents = contents_in t in
    ap (λ (m : Mesh). file_text (contents_of (records m))) p.leaves
    ∙ ap file_text (cells-back c (mesh_of lent c) (rowed lent c p.holds) (facts (mesh_of lent c) p.is-sound) (contents-fit t b) (keys-rise t p.placed))
    ∙ file-back t b p.fits p.placed
