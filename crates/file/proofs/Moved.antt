-- A sound mesh and the mesh that its file holds: the same records, the i-th of a kind in row i. Its links go to the rows of their names.
use Prim.Native.Nat.{ℕ, zero, suc, ◌+◌, ◌-◌, ◌<◌}
use native.Mathlib.Omega.{arith}
use native.Mathlib.Decide.{ℕ_discrete, dec_lt}
use mathlib.Core.Path.{◌≡◌, refl, ap, sym, subst, ◌∙◌}
use mathlib.Core.Bool.{Bool, true, false, not}
use mathlib.Core.List.{List, []}
use lib.ListN.{length, get_or}
use lib.Dec.{T, eqb}
use lib.Ieee.{Float, nan, binary64, to_bits, of_bits}
use borrow.Author.Tests.{eq-eqb, ne_eqb}
use Rattle.rules.specs.declared.Position.{Position}
use Rattle.rules.specs.Table.{Table, cell, there, first_row}
use Rattle.rules.specs.Mesh.{Mesh, source, dest, next, previous, face, edge, leading, edge_arc, edge_other, face_arc, key_at}
use Rattle.rules.specs.Point.{position_at, position_of}
use Rattle.rules.specs.Records.{arc_name, key_name, vertex_record, arc_record, edge_record, face_record, key_before, arc_before, records}
use Rattle.rules.proofs.Scan.{first_passes}
use Rattle.proved.specs.Facts.{IsVertex, IsArc, IsEdge, IsFace, KeysDiffer, coordinate, SoundFacts}
use Rattle.proved.proofs.Rows.{differ-T, row-link, in_table}
use Rattle.file.specs.File.{Contents, key_cell, vertex_cells, arc_cells, edge_cells, face_cells, contents_of, body, or_nowhere, has_key, has_ends, by_key, by_ends, unless_none, vertex_row, position_row, arc_row, edge_row, face_row}
use Rattle.file.specs.Promises.{Stored}
use Rattle.file.proofs.Rowed.{RowsOf, Rowed, FirstCell, vertex-pos, arc-pos, edge-pos, face-pos}
use Rattle.file.proofs.ReadWrite.{unless-none, unless-some, none-cell, some-cell}
use Rattle.file.proofs.Told.{links_in, vertex-low, face-low, starts-at, ends_at, no-arc, position_here, bits-tell, face-arc}
use Rattle.file.proofs.Listed.{Listed, listed}
use Rattle.file.proofs.Placed.{cells_at, cells_count}
use Rattle.file.proofs.Renamed.{OneToOne, Carried, Renamed}

-- ---- one kind

-- a table, the links of its records in order, their cells, and the table whose row i is made of the i-th
pub record Kin (t u rows : Table) (make : List ℕ → List ℕ) (cells_of : ℕ → List ℕ) (links : List ℕ) (to : ℕ → ℕ) : Type 0 where
  pub in_list : Listed t links
  pub made : RowsOf rows make u
  pub count : length rows ≡ length links
  pub row : (i : ℕ) → i < length links → get_or rows i [] ≡ cells_of (get_or links i 0)
  pub place : (i : ℕ) → i < length links → to (get_or links i 0) ≡ i + 1
  pub pos : FirstCell make

module _ {t u rows : Table} {make : List ℕ → List ℕ} {cells_of : ℕ → List ℕ} {links : List ℕ} {to : ℕ → ℕ} (K : Kin t u rows make cells_of links to) where
  pub kin-used : (i : ℕ) → i < length links → T (there u (i + 1))
  kin-used i l =
      differ-T (cell u (i + 1) 0) 0 (λ e. K.pos (get_or rows i []) (sym (K.made.cells i 0 (omega (arith, K.count))) ∙ e))

  pub kin-only : (l : ℕ) → T (there u l) → (i : ℕ) × (i < length links) × (l ≡ i + 1)
  kin-only zero h = absurd (let z : ⊥ = omega (arith, (in_table u 0 h).0) in z)
  kin-only (suc i) h = go (dec_lt i (length links))
    where
      link : suc i ≡ i + 1
      link = omega arith

      go : Dec (i < length links) → (j : ℕ) × (j < length links) × (suc i ≡ j + 1)
      go (yes l) = (i, l, link)
      go (no l) = absurd (subst (λ (z : ℕ). T (not (eqb z 0))) (ap (λ (z : ℕ). cell u z 0) link ∙ K.made.past i 0 (omega (arith, K.count))) h)

  pub kin-one : OneToOne t u to
  kin-one =
      record {
        kept = λ x h. let w = K.in_list.all x h in
            subst (λ (z : ℕ). T (there u z)) (sym (K.place w.0 w.1) ∙ ap to w.2) (kin-used w.0 w.1);
        from = λ l h. let w = kin-only l h in
            (get_or links w.0 0, K.in_list.each w.0 w.1, K.place w.0 w.1 ∙ sym w.2);
        once = λ x y a b e. let v = K.in_list.all x a in let w = K.in_list.all y b in
            let q : v.0 + 1 ≡ w.0 + 1 = sym (K.place v.0 v.1) ∙ ap to v.2 ∙ e ∙ sym (ap to w.2) ∙ K.place w.0 w.1 in
            let i : v.0 ≡ w.0 = omega arith in
            sym v.2 ∙ ap (λ (z : ℕ). get_or links z 0) i ∙ w.2;
      }

  -- the cells of a record's row
  pub kin-cell : (x : ℕ) → T (there t x) → (k : ℕ) → cell u (to x) k ≡ get_or (make (cells_of x)) k 0
  kin-cell x h k =
      let w = K.in_list.all x h in
      ap (λ (z : ℕ). cell u z k) (sym (ap to w.2) ∙ K.place w.0 w.1)
      ∙ K.made.cells w.0 k (omega (arith, K.count, w.1))
      ∙ ap (λ (r : List ℕ). get_or (make r) k 0) (K.row w.0 w.1 ∙ ap cells_of w.2)

-- the record with a key, or with an arc's ends, is found at its place
found_at : (p : List ℕ → Bool) (rows : Table) (i : ℕ) → i < length rows → ((j : ℕ) → j < i → p (get_or rows j []) ≡ false) → p (get_or rows i []) ≡ true
    → or_nowhere (first_row p rows) ≡ i + 1
unfolding or_nowhere
found_at p rows i l before here =
    let e : first_row p rows ≡ suc i = first_passes p rows [] i l before here in
    let z : suc i ≡ i + 1 = omega arith in
    rw (e, ne_eqb (suc i) 0 (λ q. omega arith)) z

key-place : (t rows : Table) (links : List ℕ) → Listed t links → KeysDiffer t → length rows ≡ length links
    → ((i : ℕ) → i < length links → get_or (get_or rows i []) 0 0 ≡ key_at t (get_or links i 0))
    → (i : ℕ) → i < length links → or_nowhere (first_row (has_key (key_at t (get_or links i 0))) rows) ≡ i + 1
key-place t rows links L differ count keys i l =
    found_at (has_key (key_at t (get_or links i 0))) rows i (omega arith)
    (λ j q. ne_eqb (get_or (get_or rows j []) 0 0) (key_at t (get_or links i 0)) (λ e.
    let a : j < length links = omega arith in
    let s = differ (get_or links j 0) (get_or links i 0) (L.each j a) (L.each i l) (sym (keys j a) ∙ e) in
    let z : j ≡ i = L.once j i a l s in
    omega arith))
    (eq-eqb (get_or (get_or rows i []) 0 0) (key_at t (get_or links i 0)) (keys i l))

-- ---- all kinds

module _ (m : Mesh) (S : SoundFacts m) (H : Stored m) where
  abbrev pub held : Contents
  held = contents_of (records m)

  abbrev pub vertex_links : List ℕ
  vertex_links = links_in (key_before m.vertices) m.vertices

  abbrev pub arc_links : List ℕ
  arc_links = links_in (arc_before m) m.arcs

  abbrev pub edge_links : List ℕ
  edge_links = links_in (key_before m.edges) m.edges

  abbrev pub face_links : List ℕ
  face_links = links_in (key_before m.faces) m.faces

  abbrev pub key : ℕ → ℕ
  key v = key_at m.vertices v

  -- the rows by name
  vertex_to : ℕ → ℕ
  vertex_to v = by_key held 0 (key v)

  arc_to : ℕ → ℕ
  arc_to x = by_ends held (key (source m x)) (key (dest m x))

  edge_to : ℕ → ℕ
  edge_to e = by_key held 2 (key_at m.edges e)

  face_to : ℕ → ℕ
  face_to f = by_key held 3 (key_at m.faces f)

  -- the bodies
  vertex-count : length (body held 0) ≡ length vertex_links
  unfolding body contents_of records
  vertex-count = cells_count vertex_cells (vertex_record m) vertex_links

  arc-count : length (body held 1) ≡ length arc_links
  unfolding body contents_of records
  arc-count = cells_count arc_cells (arc_record m) arc_links

  edge_count : length (body held 2) ≡ length edge_links
  unfolding body contents_of records
  edge_count = cells_count edge_cells (edge_record m) edge_links

  face-count : length (body held 3) ≡ length face_links
  unfolding body contents_of records
  face-count = cells_count face_cells (face_record m) face_links

  vertex-row : (i : ℕ) → i < length vertex_links → get_or (body held 0) i [] ≡ vertex_cells (vertex_record m (get_or vertex_links i 0))
  unfolding body contents_of records
  vertex-row i l = cells_at vertex_cells (vertex_record m) vertex_links i l

  arc-row : (i : ℕ) → i < length arc_links → get_or (body held 1) i [] ≡ arc_cells (arc_record m (get_or arc_links i 0))
  unfolding body contents_of records
  arc-row i l = cells_at arc_cells (arc_record m) arc_links i l

  edge-row : (i : ℕ) → i < length edge_links → get_or (body held 2) i [] ≡ edge_cells (edge_record m (get_or edge_links i 0))
  unfolding body contents_of records
  edge-row i l = cells_at edge_cells (edge_record m) edge_links i l

  face-row : (i : ℕ) → i < length face_links → get_or (body held 3) i [] ≡ face_cells (face_record m (get_or face_links i 0))
  unfolding body contents_of records
  face-row i l = cells_at face_cells (face_record m) face_links i l

  -- each record is found at its place
  vertex-place : (i : ℕ) → i < length vertex_links → vertex_to (get_or vertex_links i 0) ≡ i + 1
  unfolding vertex_to by_key
  vertex-place i l =
      key-place m.vertices (body held 0) vertex_links (listed (key_before m.vertices) m.vertices) S.vertex-keys-differ vertex-count
      (λ j q. ap (λ (r : List ℕ). get_or r 0 0) (vertex-row j q) ∙ first (get_or vertex_links j 0)) i l
    where
      first : (v : ℕ) → get_or (vertex_cells (vertex_record m v)) 0 0 ≡ key_at m.vertices v
      first v = unfold vertex_cells in unfold vertex_record in refl

  edge-place : (i : ℕ) → i < length edge_links → edge_to (get_or edge_links i 0) ≡ i + 1
  unfolding edge_to by_key
  edge-place i l =
      key-place m.edges (body held 2) edge_links (listed (key_before m.edges) m.edges) S.edge-keys-differ edge_count
      (λ j q. ap (λ (r : List ℕ). get_or r 0 0) (edge-row j q) ∙ first (get_or edge_links j 0)) i l
    where
      first : (e : ℕ) → get_or (edge_cells (edge_record m e)) 0 0 ≡ key_at m.edges e
      first e = unfold edge_cells in unfold edge_record in refl

  face-place : (i : ℕ) → i < length face_links → face_to (get_or face_links i 0) ≡ i + 1
  unfolding face_to by_key
  face-place i l =
      key-place m.faces (body held 3) face_links (listed (key_before m.faces) m.faces) S.face-keys-differ face-count
      (λ j q. ap (λ (r : List ℕ). get_or r 0 0) (face-row j q) ∙ first (get_or face_links j 0)) i l
    where
      first : (f : ℕ) → get_or (face_cells (face_record m f)) 0 0 ≡ key_at m.faces f
      first f = unfold face_cells in unfold face_record in refl

  arc-starts : (x : ℕ) → IsArc m x → get_or (arc_cells (arc_record m x)) 0 0 ≡ key (source m x)
  unfolding arc_cells arc_record
  arc-starts x u = starts-at m S H x u

  arc-ends : (x : ℕ) → IsArc m x → get_or (arc_cells (arc_record m x)) 1 0 ≡ key (dest m x)
  unfolding arc_cells arc_record
  arc-ends x u = ends_at m S H x u

  arc-place : (i : ℕ) → i < length arc_links → arc_to (get_or arc_links i 0) ≡ i + 1
  unfolding arc_to by_ends
  arc-place i l = found_at (has_ends (key (source m y)) (key (dest m y))) (body held 1) i (omega (arith, arc-count)) others here
    where
      L : Listed m.arcs arc_links
      L = listed (arc_before m) m.arcs

      y : ℕ
      y = get_or arc_links i 0

      w : IsArc m y
      w = L.each i l

      starts : (j : ℕ) → j < length arc_links → get_or (get_or (body held 1) j []) 0 0 ≡ key (source m (get_or arc_links j 0))
      starts j q = ap (λ (r : List ℕ). get_or r 0 0) (arc-row j q) ∙ arc-starts (get_or arc_links j 0) (L.each j q)

      ends : (j : ℕ) → j < length arc_links → get_or (get_or (body held 1) j []) 1 0 ≡ key (dest m (get_or arc_links j 0))
      ends j q = ap (λ (r : List ℕ). get_or r 1 0) (arc-row j q) ∙ arc-ends (get_or arc_links j 0) (L.each j q)

      here : has_ends (key (source m y)) (key (dest m y)) (get_or (body held 1) i []) ≡ true
      here = rw (eq-eqb (get_or (get_or (body held 1) i []) 0 0) (key (source m y)) (starts i l), eq-eqb (get_or (get_or (body held 1) i []) 1 0) (key (dest m y)) (ends i l))

      others : (j : ℕ) → j < i → has_ends (key (source m y)) (key (dest m y)) (get_or (body held 1) j []) ≡ false
      others j q = go (ℕ_discrete (get_or (get_or (body held 1) j []) 0 0) (key (source m y))) (ℕ_discrete (get_or (get_or (body held 1) j []) 1 0) (key (dest m y)))
        where
          a : j < length arc_links
          a = omega arith

          x : ℕ
          x = get_or arc_links j 0

          u : IsArc m x
          u = L.each j a

          go : Dec (get_or (get_or (body held 1) j []) 0 0 ≡ key (source m y)) → Dec (get_or (get_or (body held 1) j []) 1 0 ≡ key (dest m y))
              → has_ends (key (source m y)) (key (dest m y)) (get_or (body held 1) j []) ≡ false
          go (no n) d = rw (ne_eqb (get_or (get_or (body held 1) j []) 0 0) (key (source m y)) n)
          go (yes e) (no n) =
              rw (eq-eqb (get_or (get_or (body held 1) j []) 0 0) (key (source m y)) e, ne_eqb (get_or (get_or (body held 1) j []) 1 0) (key (dest m y)) n)
          go (yes e) (yes d) =
              let s : source m x ≡ source m y = S.vertex-keys-differ (source m x) (source m y) (S.ends-exist x u).0 (S.ends-exist y w).0 (sym (starts j a) ∙ e) in
              let t : dest m x ≡ dest m y = S.vertex-keys-differ (dest m x) (dest m y) (S.ends-exist x u).1 (S.ends-exist y w).1 (sym (ends j a) ∙ d) in
              let z : j ≡ i = L.once j i a l (S.pairs-differ x y u w s t) in
              absurd (let bad : ⊥ = omega arith in bad)

  -- ---- links carried over

  -- an arc or none, from its destination or its source
  forward-carried : (x s l : ℕ) → l ≡ unless_none (key_cell (arc_name m x) 1) (by_ends held s (key_cell (arc_name m x) 1))
      → ((x ≡ 0 → ⊥) → IsArc m x × (key (source m x) ≡ s)) → Carried arc_to x l
  unfolding arc_to
  forward-carried x s l e h = (none, some)
    where
      k : ℕ
      k = key_cell (arc_name m x) 1

      none : x ≡ 0 → l ≡ 0
      none z = e ∙ unless-none k (by_ends held s k) (ap (λ (y : ℕ). key_cell (arc_name m y) 1) z ∙ no-arc m S H 1)

      some : (x ≡ 0 → ⊥) → l ≡ by_ends held (key (source m x)) (key (dest m x))
      some ne =
          let u = (h ne).0 in
          let at = ends_at m S H x u in
          let low = vertex-low m S H (dest m x) (S.ends-exist x u).1 in
          e
          ∙ unless-some k (by_ends held s k) (λ z. omega (arith, at, low))
          ∙ ap (λ (z : ℕ). by_ends held s z) at
          ∙ ap (λ (z : ℕ). by_ends held z (key (dest m x))) (sym (h ne).1)

  backward-carried : (x d l : ℕ) → l ≡ unless_none (key_cell (arc_name m x) 0) (by_ends held (key_cell (arc_name m x) 0) d)
      → ((x ≡ 0 → ⊥) → IsArc m x × (key (dest m x) ≡ d)) → Carried arc_to x l
  unfolding arc_to
  backward-carried x d l e h = (none, some)
    where
      k : ℕ
      k = key_cell (arc_name m x) 0

      none : x ≡ 0 → l ≡ 0
      none z = e ∙ unless-none k (by_ends held k d) (ap (λ (y : ℕ). key_cell (arc_name m y) 0) z ∙ no-arc m S H 0)

      some : (x ≡ 0 → ⊥) → l ≡ by_ends held (key (source m x)) (key (dest m x))
      some ne =
          let u = (h ne).0 in
          let at = starts-at m S H x u in
          let low = vertex-low m S H (source m x) (S.ends-exist x u).0 in
          e
          ∙ unless-some k (by_ends held k d) (λ z. omega (arith, at, low))
          ∙ ap (λ (z : ℕ). by_ends held z d) at
          ∙ ap (λ (z : ℕ). by_ends held (key (source m x)) z) (sym (h ne).1)

  face-carried : (f l : ℕ) → l ≡ unless_none (key_cell (key_name m.faces f) 0) (by_key held 3 (key_cell (key_name m.faces f) 0))
      → ((f ≡ 0 → ⊥) → IsFace m f) → Carried face_to f l
  unfolding face_to
  face-carried f l e h = (none, some)
    where
      k : ℕ
      k = key_cell (key_name m.faces f) 0

      none : f ≡ 0 → l ≡ 0
      none z = e ∙ unless-none k (by_key held 3 k) (ap (λ (y : ℕ). key_cell (key_name m.faces y) 0) z ∙ none-cell m.faces)

      some : (f ≡ 0 → ⊥) → l ≡ by_key held 3 (key_at m.faces f)
      some ne =
          let at = some-cell m.faces f ne in
          let low = face-low m S H f (h ne) in
          e ∙ unless-some k (by_key held 3 k) (λ z. omega (arith, at, low)) ∙ ap (λ (z : ℕ). by_key held 3 z) at

  -- an arc by the keys in a name
  named-arc : (x : ℕ) → IsArc m x → by_ends held (key_cell (arc_name m x) 0) (key_cell (arc_name m x) 1) ≡ arc_to x
  unfolding arc_to
  named-arc x u = rw (starts-at m S H x u, ends_at m S H x u)

  module _ (n : Mesh) (R : Rowed held n) where
    vertex-kin : Kin m.vertices n.vertices (body held 0) (vertex_row held) (λ v. vertex_cells (vertex_record m v)) vertex_links vertex_to
    vertex-kin =
        record { in_list = listed (key_before m.vertices) m.vertices; made = R.vertices; count = vertex-count; row = vertex-row; place = vertex-place; pos = vertex-pos held }

    arc-kin : Kin m.arcs n.arcs (body held 1) (arc_row held) (λ x. arc_cells (arc_record m x)) arc_links arc_to
    arc-kin = record { in_list = listed (arc_before m) m.arcs; made = R.arcs; count = arc-count; row = arc-row; place = arc-place; pos = arc-pos held }

    edge-kin : Kin m.edges n.edges (body held 2) (edge_row held) (λ e. edge_cells (edge_record m e)) edge_links edge_to
    edge-kin = record { in_list = listed (key_before m.edges) m.edges; made = R.edges; count = edge_count; row = edge-row; place = edge-place; pos = edge-pos held }

    face-kin : Kin m.faces n.faces (body held 3) (face_row held) (λ f. face_cells (face_record m f)) face_links face_to
    face-kin = record { in_list = listed (key_before m.faces) m.faces; made = R.faces; count = face-count; row = face-row; place = face-place; pos = face-pos held }

    -- a vertex's row
    vertex-key-to : (v : ℕ) → IsVertex m v → key_at n.vertices (vertex_to v) ≡ key v
    unfolding vertex_row vertex_cells vertex_record
    vertex-key-to v u = ap (λ (z : ℕ). z - 1) (kin-cell vertex-kin v u 0) ∙ row-link (key v)

    lead-to : (v : ℕ) → IsVertex m v → Carried arc_to (leading m v) (leading n (vertex_to v))
    unfolding vertex_row vertex_cells vertex_record
    lead-to v u =
        forward-carried (leading m v) (key v) (leading n (vertex_to v)) (kin-cell vertex-kin v u 1)
        (λ ne. let w = S.leads-out v u ne in (w.0, ap key w.1))

    coordinate-to : (v c : ℕ) → IsVertex m v → c < 3 → coordinate n (vertex_to v) c ≡ coordinate m v c
    coordinate-to v c u l =
        let w = (listed (key_before m.vertices) m.vertices).all v u in
        let i : ℕ = w.0 in
        let at : vertex_to v ≡ i + 1 = sym (ap vertex_to w.2) ∙ vertex-place i w.1 in
        ap (λ (z : ℕ). coordinate n z c) at
        ∙ ap (λ (z : ℕ). get_or (get_or n.positions z []) c nan) (row-link i)
        ∙ ap (λ (p : List Float). get_or p c nan) (R.positions i (omega (arith, vertex-count, w.1)))
        ∙ ap (λ (r : List ℕ). get_or (position_row r) c nan) (vertex-row i w.1 ∙ ap (λ (z : ℕ). vertex_cells (vertex_record m z)) w.2)
        ∙ bits c l
      where
        here : position_at m.positions v ≡ position_of (get_or m.positions (v - 1) [])
        here = position_here m S H v u

        bits : (k : ℕ) → k < 3 → get_or (position_row (vertex_cells (vertex_record m v))) k nan ≡ coordinate m v k
        bits zero q =
            unfold position_row in unfold vertex_cells in unfold vertex_record in
            ap (λ (p : Position). of_bits binary64 (to_bits binary64 p.x)) here ∙ bits-tell m S H v 0 u q
        bits (suc zero) q =
            unfold position_row in unfold vertex_cells in unfold vertex_record in
            ap (λ (p : Position). of_bits binary64 (to_bits binary64 p.y)) here ∙ bits-tell m S H v 1 u q
        bits (suc (suc zero)) q =
            unfold position_row in unfold vertex_cells in unfold vertex_record in
            ap (λ (p : Position). of_bits binary64 (to_bits binary64 p.z)) here ∙ bits-tell m S H v 2 u q
        bits (suc (suc (suc k))) q = absurd (let z : ⊥ = omega arith in z)

    -- an arc's row
    source-to : (x : ℕ) → IsArc m x → source n (arc_to x) ≡ vertex_to (source m x)
    unfolding arc_row vertex_to
    source-to x u = kin-cell arc-kin x u 0 ∙ ap (λ (z : ℕ). by_key held 0 z) (arc-starts x u)

    dest-to : (x : ℕ) → IsArc m x → dest n (arc_to x) ≡ vertex_to (dest m x)
    unfolding arc_row vertex_to
    dest-to x u = kin-cell arc-kin x u 1 ∙ ap (λ (z : ℕ). by_key held 0 z) (arc-ends x u)

    next-to : (x : ℕ) → IsArc m x → Carried arc_to (next m x) (next n (arc_to x))
    unfolding arc_row arc_cells arc_record
    next-to x u =
        forward-carried (next m x) (key_cell (arc_name m x) 1) (next n (arc_to x)) (kin-cell arc-kin x u 2)
        (λ ne. let w = S.next-leaves x u ne in (w.0, ap key w.1 ∙ sym (ends_at m S H x u)))

    previous-to : (x : ℕ) → IsArc m x → Carried arc_to (previous m x) (previous n (arc_to x))
    unfolding arc_row arc_cells arc_record
    previous-to x u =
        backward-carried (previous m x) (key_cell (arc_name m x) 0) (previous n (arc_to x)) (kin-cell arc-kin x u 3)
        (λ ne. let w = S.previous-arrives x u ne in (w.0, ap key w.1 ∙ sym (starts-at m S H x u)))

    face-to : (x : ℕ) → IsArc m x → Carried face_to (face m x) (face n (arc_to x))
    unfolding arc_row arc_cells arc_record
    face-to x u = face-carried (face m x) (face n (arc_to x)) (kin-cell arc-kin x u 4) (λ ne. S.face-exists x u ne)

    edge-to : (x : ℕ) → IsArc m x → edge n (arc_to x) ≡ edge_to (edge m x)
    unfolding arc_row arc_cells arc_record edge_to
    edge-to x u =
        let some : edge m x ≡ 0 → ⊥ = λ e. omega (arith, (in_table m.edges (edge m x) (S.edge-exists x u)).0) in
        kin-cell arc-kin x u 5 ∙ ap (λ (z : ℕ). by_key held 2 z) (some-cell m.edges (edge m x) some)

    -- an edge's row
    edge-key-to : (e : ℕ) → IsEdge m e → key_at n.edges (edge_to e) ≡ key_at m.edges e
    unfolding edge_row edge_cells edge_record
    edge-key-to e u = ap (λ (z : ℕ). z - 1) (kin-cell edge-kin e u 0) ∙ row-link (key_at m.edges e)

    edge-arc-to : (e : ℕ) → IsEdge m e → edge_arc n (edge_to e) ≡ arc_to (edge_arc m e)
    unfolding edge_row edge_cells edge_record
    edge-arc-to e u = kin-cell edge-kin e u 1 ∙ named-arc (edge_arc m e) (S.both-arcs e u).first-exists

    edge-other-to : (e : ℕ) → IsEdge m e → edge_other n (edge_to e) ≡ arc_to (edge_other m e)
    unfolding edge_row edge_cells edge_record arc_to
    edge-other-to e u =
        let b = S.both-arcs e u in
        let x : ℕ = edge_arc m e in
        kin-cell edge-kin e u 2
        ∙ ap (λ (z : ℕ). by_ends held z (key_cell (arc_name m x) 0)) (ends_at m S H x b.first-exists ∙ ap key b.ends-where-leaves)
        ∙ ap (λ (z : ℕ). by_ends held (key (source m (edge_other m e))) z) (starts-at m S H x b.first-exists ∙ ap key b.leaves-where-ends)

    -- a face's row
    face-key-to : (f : ℕ) → IsFace m f → key_at n.faces (face_to f) ≡ key_at m.faces f
    unfolding face_row face_cells face_record
    face-key-to f u = ap (λ (z : ℕ). z - 1) (kin-cell face-kin f u 0) ∙ row-link (key_at m.faces f)

    face-arc-to : (f : ℕ) → IsFace m f → face_arc n (face_to f) ≡ arc_to (face_arc m f)
    unfolding face_row face_cells face_record
    face-arc-to f u = kin-cell face-kin f u 1 ∙ named-arc (face_arc m f) (face-arc m S H f u)

    counters-to : n.counters ≡ m.counters
    counters-to = R.counters ∙ (unfold contents_of in unfold records in refl)

    pub renamed : Renamed m n
    renamed =
        record {
          vertex_to = vertex_to;
          arc_to = arc_to;
          edge_to = edge_to;
          face_to = face_to;
          vertices = kin-one vertex-kin;
          arcs = kin-one arc-kin;
          edges = kin-one edge-kin;
          faces = kin-one face-kin;
          counters = counters-to;
          vertex-keys = vertex-key-to;
          edge-keys = edge-key-to;
          face-keys = face-key-to;
          coordinates = coordinate-to;
          leads = lead-to;
          sources = source-to;
          dests = dest-to;
          nexts = next-to;
          previouses = previous-to;
          arc-faces = face-to;
          arc-edges = edge-to;
          edge-arcs = edge-arc-to;
          edge-others = edge-other-to;
          face-arcs = face-arc-to;
        }
