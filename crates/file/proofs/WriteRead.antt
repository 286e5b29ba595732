-- "Writing then reading gives the same records": the file of a sound mesh is accepted into tables that hold its records, and leaves them.
use Prim.Native.Nat.{ℕ, zero, suc, ◌+◌, ◌-◌, ◌^◌, ◌≤◌, ◌<◌, suc-le-suc}
use native.Mathlib.Omega.{arith}
use native.Mathlib.Decide.{dec_lt}
use mathlib.Core.Path.{◌≡◌, refl, ap, sym, subst, ◌∙◌}
use mathlib.Core.Bool.{Bool, true, false, ◌&&◌, cond}
use mathlib.Core.List.{List, [], ◌∷◌, map}
use lib.ListN.{length, get_or, drop}
use lib.Dec.{T, leb, leb→le, le→leb}
use lib.Ieee.{Float, nan, binary64, to_bits, of_bits, fits}
use lib.Ieee.Bits.{of_bits-fits}
use lib.Ieee.Fits.{and_l, and_r, and_i}
use Rattle.rules.specs.Table.{Table, there, used, count}
use Rattle.rules.specs.Mesh.{Mesh, Room, mark}
use Rattle.rules.specs.Point.{zero_float, exponent_field}
use Rattle.rules.specs.Records.{vertex_record, arc_record, edge_record, face_record, used_from, key_before, arc_before, records}
use Rattle.rules.specs.Sound.{within_limits, sound}
use Rattle.rules.specs.Call.{room_enough}
use Rattle.proved.specs.Facts.{IsVertex, Sizes, SoundFacts, coordinate}
use Rattle.proved.proofs.Rows.{T_true, link_row, cell-none, every-at, there-row}
use Rattle.proved.proofs.SoundParts.{sizes}
use Rattle.proved.proofs.Clauses.{facts, sound-from}
use Rattle.file.specs.File.{Contents, row_fits, schema, bodies_fit, contents_fit, contents_in, file_text, length_fits, in_place, vertex_cells, arc_cells, edge_cells, face_cells, contents_of, file_of, body, vertex_row, position_row, arc_row, edge_row, face_row, mesh_of, sizes_serve, tables_hold, read_number, read_file, bytes_only, places, row_text, counter_widths, bodies_text, body_text}
use Rattle.file.specs.Promises.{Stored, Enough, SameRead}
use Rattle.file.proofs.Cells.{bytes-append, bytes-none, row-bytes, body_bytes}
use Rattle.file.proofs.Whole.{contents-back, places-bytes}
use Rattle.file.proofs.Rows.{filled-length}
use Rattle.file.proofs.Rowed.{Rowed, rowed, vertex-pos, arc-pos, edge-pos, face-pos, row-used, others-zero}
use Rattle.file.proofs.ReadWrite.{bits_back, cell-fits-at, body-rows-fit, read-write}
use Rattle.file.proofs.Told.{links_in, order-count, contents-of-fit, files-tell}
use Rattle.file.proofs.Placed.{cells_count, bodies_of_lem, file-fits, file-in-place}
use Rattle.file.proofs.Renamed.{RestZero, renamed-sound}
use Rattle.file.proofs.Moved.{renamed}

-- ---- what reading leaves, whatever the file holds

-- the tables keep their sizes
pub read-sizes : (lent : Mesh) (c : Contents) → Sizes lent → T (tables_hold lent c) → Sizes (mesh_of lent c)
unfolding mesh_of tables_hold
read-sizes lent c s h =
    let v = leb (length (body c 0)) (length lent.vertices) in
    let a = leb (length (body c 1)) (length lent.arcs) in
    let e = leb (length (body c 2)) (length lent.edges) in
    let f = leb (length (body c 3)) (length lent.faces) in
    let h₁ = and_r v (a && (e && f)) h in
    let h₂ = and_r a (e && f) h₁ in
    let few = leb→le (length (body c 0)) (length lent.vertices) (and_l v (a && (e && f)) h) in
    let lv = filled-length (length lent.vertices) (0 ∷ 0 ∷ []) (vertex_row c) (body c 0) few in
    let lp = filled-length (length lent.positions) (zero_float ∷ zero_float ∷ zero_float ∷ []) position_row (body c 0) (omega (arith, s.position-rows)) in
    let la = filled-length (length lent.arcs) (0 ∷ 0 ∷ 0 ∷ 0 ∷ 0 ∷ 0 ∷ []) (arc_row c) (body c 1) (leb→le _ _ (and_l a (e && f) h₁)) in
    let le = filled-length (length lent.edges) (0 ∷ 0 ∷ 0 ∷ []) (edge_row c) (body c 2) (leb→le _ _ (and_l e f h₂)) in
    let lf = filled-length (length lent.faces) (0 ∷ 0 ∷ 0 ∷ []) (face_row c) (body c 3) (leb→le _ _ (and_r e f h₂)) in
    record {
      vertex-rows = omega (arith, lv, s.vertex-rows);
      position-rows = omega (arith, lp, lv, s.position-rows);
      edge-rows = omega (arith, le, s.edge-rows);
      arc-rows = omega (arith, la, le, s.arc-rows);
      face-rows = omega (arith, lf, s.face-rows);
    }

-- the coordinates of a zero position
zero-at : (k : ℕ) → k < 3 → get_or (zero_float ∷ zero_float ∷ zero_float ∷ []) k nan ≡ of_bits binary64 0
zero-at zero h = refl
zero-at (suc zero) h = refl
zero-at (suc (suc zero)) h = refl
zero-at (suc (suc (suc k))) h = absurd (let z : ⊥ = omega arith in z)

zero_bits : to_bits binary64 (of_bits binary64 0) ≡ 0
zero_bits = bits_back 0 (omega arith) (unfold exponent_field in unfold to_bits in unfold of_bits in λ e. omega arith)

module _ (c : Contents) (n : Mesh) (R : Rowed c n) where
  -- all further rows are zero
  pub rest-is-zero : Sizes n → RestZero n
  rest-is-zero s =
      record {
        sizes = s;
        vertices-zero = others-zero (body c 0) n.vertices (vertex_row c) R.vertices (vertex-pos c);
        arcs-zero = others-zero (body c 1) n.arcs (arc_row c) R.arcs (arc-pos c);
        edges-zero = others-zero (body c 2) n.edges (edge_row c) R.edges (edge-pos c);
        faces-zero = others-zero (body c 3) n.faces (face_row c) R.faces (face-pos c);
        positions-zero = positions;
      }
    where
      positions : (v k : ℕ) → 1 ≤ v → v ≤ length n.positions → (IsVertex n v → ⊥) → k < 3 → to_bits binary64 (coordinate n v k) ≡ 0
      positions v k a b unused l = go (dec_lt (v - 1) (length (body c 0)))
        where
          go : Dec (v - 1 < length (body c 0)) → to_bits binary64 (coordinate n v k) ≡ 0
          go (yes q) =
              absurd (unused (subst (λ (z : ℕ). IsVertex n z) (link_row v a) (row-used (body c 0) n.vertices (vertex_row c) R.vertices (vertex-pos c) (v - 1) q)))
          go (no q) =
              ap (λ (p : List Float). to_bits binary64 (get_or p k nan)) (R.positions-past (v - 1) (omega arith) (omega arith))
              ∙ ap (to_bits binary64) (zero-at k l)
              ∙ zero_bits

  -- and every number fits its type
  pub stored : Sizes n → T (contents_fit c) → Stored n
  stored s fit =
      record {
        counters = subst (λ (k : List ℕ). T (row_fits counter_widths k)) (sym R.counters) counters-fit;
        marks = marks;
        coordinates = coordinates;
      }
    where
      counters-fit : T (row_fits counter_widths c.counters)
      counters-fit = unfold contents_fit in and_r (bodies_fit schema c.bodies) (row_fits counter_widths c.counters) fit

      face-fit : (i : ℕ) → i < length (body c 3) → T (row_fits (4 ∷ 4 ∷ 4 ∷ 4 ∷ []) (get_or (body c 3) i []))
      face-fit i l = every-at (row_fits (4 ∷ 4 ∷ 4 ∷ 4 ∷ [])) (body c 3) [] (unfold body in body-rows-fit schema c.bodies 3 (bodies_of_lem c fit) (omega arith)) i l

      marks : (f : ℕ) → mark n f < 256 ^ 4
      marks zero = omega (arith, cell-none n.faces 2)
      marks (suc i) = go (dec_lt i (length (body c 3)))
        where
          link : suc i ≡ i + 1
          link = omega arith

          go : Dec (i < length (body c 3)) → mark n (suc i) < 256 ^ 4
          go (yes l) =
              let e : mark n (suc i) ≡ get_or (get_or (body c 3) i []) 3 0 =
              ap (mark n) link ∙ R.faces.cells i 2 l ∙ third (get_or (body c 3) i []) in
              subst (λ (z : ℕ). z < 256 ^ 4) (sym e) (cell-fits-at (4 ∷ 4 ∷ 4 ∷ 4 ∷ []) (get_or (body c 3) i []) 3 (face-fit i l) (omega arith))
            where
              third : (r : List ℕ) → get_or (face_row c r) 2 0 ≡ get_or r 3 0
              third r = unfold face_row in refl
          go (no l) = omega (arith, ap (mark n) link ∙ R.faces.past i 2 (omega arith))

      read_fits : (r : List ℕ) (k : ℕ) → k < 3 → T (fits binary64 (get_or (position_row r) k nan))
      read_fits r zero q = unfold position_row in of_bits-fits binary64 (get_or r 1 0)
      read_fits r (suc zero) q = unfold position_row in of_bits-fits binary64 (get_or r 2 0)
      read_fits r (suc (suc zero)) q = unfold position_row in of_bits-fits binary64 (get_or r 3 0)
      read_fits r (suc (suc (suc k))) q = absurd (let z : ⊥ = omega arith in z)

      coordinates : (v k : ℕ) → 1 ≤ v → v ≤ length n.positions → k < 3 → T (fits binary64 (coordinate n v k))
      coordinates v k a b l = go (dec_lt (v - 1) (length (body c 0)))
        where
          go : Dec (v - 1 < length (body c 0)) → T (fits binary64 (coordinate n v k))
          go (yes q) =
              subst (λ (p : List Float). T (fits binary64 (get_or p k nan))) (sym (R.positions (v - 1) q)) (read_fits (get_or (body c 0) (v - 1) []) k l)
          go (no q) =
              subst (λ (p : List Float). T (fits binary64 (get_or p k nan))) (sym (R.positions-past (v - 1) (omega arith) (omega arith)))
              (subst (λ (x : Float). T (fits binary64 x)) (sym (zero-at k l)) (of_bits-fits binary64 0))

-- ---- tables that hold the records

used-count : (t : Table) (l : ℕ) (rows : Table) → ((i : ℕ) → i < length rows → there t (l + i) ≡ used (get_or rows i [])) → length (used_from t l rows) ≡ count used rows
unfolding used_from count
used-count t l [] h = refl
used-count t l (r ∷ rs) h =
    let here : there t l ≡ used r = ap (there t) (sym (omega arith)) ∙ h 0 (omega arith) in
    rw here (go (used r) (used-count t (l + 1) rs (λ i q. ap (there t) (omega arith) ∙ h (suc i) (suc-le-suc q))))
  where
    go : (b : Bool) → length (used_from t (l + 1) rs) ≡ count used rs
        → length (cond b (l ∷ used_from t (l + 1) rs) (used_from t (l + 1) rs)) ≡ cond b (suc (count used rs)) (count used rs)
    go true e = ap suc e
    go false e = e

-- as many links as rows in use
pub links-count : (before : ℕ → ℕ → Bool) (t : Table) → length (links_in before t) ≡ count used t
links-count before t =
    order-count before (used_from t 1 t) ∙ used-count t 1 t (λ i l. ap (there t) (link i) ∙ there-row t i)
  where
    link : (i : ℕ) → 1 + i ≡ i + 1
    link i = omega arith

body-holds : {B : Type 0} (cells : B → List ℕ) (of : ℕ → B) (before : ℕ → ℕ → Bool) (t u : Table) → count used t ≤ length u
    → T (leb (length (map cells (map of (links_in before t)))) (length u))
body-holds cells of before t u h =
    le→leb (length (map cells (map of (links_in before t)))) (length u) (omega (arith, cells_count cells of (links_in before t), links-count before t))

pub enough-holds : (lent m : Mesh) → Enough lent m → T (tables_hold lent (contents_of (records m)))
unfolding tables_hold body contents_of records
enough-holds lent m h =
    let v = leb (length (map vertex_cells (map (vertex_record m) (links_in (key_before m.vertices) m.vertices)))) (length lent.vertices) in
    let a = leb (length (map arc_cells (map (arc_record m) (links_in (arc_before m) m.arcs)))) (length lent.arcs) in
    let e = leb (length (map edge_cells (map (edge_record m) (links_in (key_before m.edges) m.edges)))) (length lent.edges) in
    let f = leb (length (map face_cells (map (face_record m) (links_in (key_before m.faces) m.faces)))) (length lent.faces) in
    and_i v (a && (e && f)) (body-holds vertex_cells (vertex_record m) (key_before m.vertices) m.vertices lent.vertices h.vertices)
    (and_i a (e && f) (body-holds arc_cells (arc_record m) (arc_before m) m.arcs lent.arcs h.arcs)
    (and_i e f (body-holds edge_cells (edge_record m) (key_before m.edges) m.edges lent.edges h.edges)
    (body-holds face_cells (face_record m) (key_before m.faces) m.faces lent.faces h.faces)))

-- ---- a file is made of bytes

pub bodies-bytes : (wss : List (List ℕ)) (bs : List Table) → T (bytes_only (bodies_text wss bs))
unfolding bodies_text
bodies-bytes [] bs = bytes-none
bodies-bytes (ws ∷ wss) bs = bytes-append (body_text ws (get_or bs 0 [])) (bodies_text wss (drop 1 bs)) (body_bytes ws (get_or bs 0 [])) (bodies-bytes wss (drop 1 bs))

pub file-bytes : (m : Mesh) → T (bytes_only (file_of m))
unfolding file_of file_text
file-bytes m =
    let c : Contents = contents_of (records m) in
    bytes-append (places 44 schema c.bodies) _ (places-bytes 44 schema c.bodies)
    (bytes-append (row_text counter_widths c.counters) (bodies_text schema c.bodies) (row-bytes counter_widths c.counters) (bodies-bytes schema c.bodies))

-- ---- the statement

serves-sizes : (lent : Mesh) (one two : Room) → T (sizes_serve lent one two) → Sizes lent
unfolding sizes_serve
serves-sizes lent one two h = sizes lent (and_l (within_limits lent) (room_enough lent one && room_enough lent two) h)

pub write_read : (m lent : Mesh) (one two : Room) → T (sound m) → Stored m → T (sizes_serve lent one two) → Enough lent m → SameRead lent m one two
write_read m lent one two sm hm serve room =
    record { accepted = accepted; is-sound = subst (λ (k : Mesh). T (sound k)) (sym leaves) sound-n; same-records = ap records leaves ∙ same }
  where
    S : SoundFacts m
    S = facts m sm

    c : Contents
    c = contents_of (records m)

    n : Mesh
    n = mesh_of lent c

    fit : T (contents_fit c)
    fit = contents-of-fit m S hm

    reads : contents_in (file_of m) ≡ c
    reads = unfold file_of in contents-back c fit

    holds : T (tables_hold lent c)
    holds = enough-holds lent m room

    sizes-n : Sizes n
    sizes-n = read-sizes lent c (serves-sizes lent one two serve) holds

    R : Rowed c n
    R = rowed lent c holds

    sound-n : T (sound n)
    sound-n = sound-from n (renamed-sound m n S (renamed m S hm n R) (rest-is-zero c n R sizes-n))

    length-fits : T (length_fits (file_of m))
    length-fits = unfold file_of in file-fits c fit

    number : read_number lent (file_of m) ≡ 0
    number =
        unfold read_number in
        rw (T_true (length_fits (file_of m)) length-fits, T_true (in_place (file_of m)) (file-in-place m S hm), reads, T_true (tables_hold lent c) holds, T_true (sound n) sound-n)

    accepted : (read_file lent one two (file_of m)).number ≡ 0
    accepted = unfold read_file in rw (T_true (sizes_serve lent one two) serve) number

    leaves : (read_file lent one two (file_of m)).mesh ≡ n
    leaves = unfold read_file in rw (T_true (sizes_serve lent one two) serve, number, reads)

    same : records n ≡ records m
    same =
        (files-tell n m sound-n (stored c n R sizes-n fit) sm hm).0
        (ap file_of (sym leaves) ∙ read-write lent one two (file_of m) (file-bytes m) accepted)
