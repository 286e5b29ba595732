-- What reading comes to, over plain values: a file of which no row can hold a record is unsound, what is decided first and then judged is what `read_file` says.
use Prim.Native.Nat.{ℕ, zero, suc, ◌+◌, ◌≤◌, ◌<◌}
use native.Mathlib.Omega.{arith}
use mathlib.Core.Path.{◌≡◌, refl, ap, sym, subst, ◌∙◌}
use mathlib.Core.Bool.{Bool, true, false, not, cond, false≢true}
use mathlib.Core.List.{List, []}
use lib.ListN.{length, get_or, drop}
use lib.Dec.{T, eqb}
use lib.Ieee.{Float}
use borrow.Author.Tests.{lt-ltb}
use Rattle.rules.specs.Table.{Table, cell, every}
use Rattle.rules.specs.Mesh.{Mesh, next_key, vertex_kind, edge_kind, face_kind}
use Rattle.rules.specs.Point.{finite_row}
use Rattle.rules.specs.Sound.{all_finite, sound}
use Rattle.rules.specs.Script.{Text}
use Rattle.rules.proofs.Scan.{every-passes}
use Rattle.rules.proofs.Sums.{same_test}
use Rattle.proved.specs.Facts.{SoundFacts, KeysBelow}
use Rattle.proved.proofs.Rows.{T_true, true-T, every-at}
use Rattle.proved.proofs.SoundParts.{parts}
use Rattle.proved.proofs.Clauses.{facts}
use Rattle.file.specs.File.{Contents, row_in, bytes_only, row_fits, counter_widths, contents_in, length_fits, in_place, body, vertex_row, edge_row, face_row, position_row, mesh_of, tables_hold, read_number}
use Rattle.file.proofs.Cells.{bytes_drop, row_fits_lem}
use Rattle.file.proofs.ReadWrite.{cell-fits-at}
use Rattle.file.proofs.Rowed.{RowsOf, Rowed, rowed, FirstCell, vertex-pos, edge-pos, face-pos, row-used}
use Rattle.fills.specs.Fills.{key_fits, finite_record, storable}
use Rattle.verdicts.specs.Verdicts.{first_number, Taken, taken, judged, taken_of}

-- ---- a file of which no row can hold a record

-- a counter is a u32
counter-small : (t : Text) (k : ℕ) → T (bytes_only t) → k < 3 → get_or (contents_in t).counters k 0 < 4294967296
unfolding contents_in
counter-small t k b h = go k h (row_fits_lem counter_widths (drop 32 t) (bytes_drop 32 t b))
  where
    go : (j : ℕ) → j < 3 → T (row_fits counter_widths (row_in counter_widths (drop 32 t))) → get_or (row_in counter_widths (drop 32 t)) j 0 < 4294967296
    go zero q f = cell-fits-at counter_widths (row_in counter_widths (drop 32 t)) 0 f q
    go (suc zero) q f = cell-fits-at counter_widths (row_in counter_widths (drop 32 t)) 1 f q
    go (suc (suc zero)) q f = cell-fits-at counter_widths (row_in counter_widths (drop 32 t)) 2 f q
    go (suc (suc (suc j))) q f = absurd (let z : ⊥ = omega arith in z)

-- keys below a counter can be held
keys-held : (rows t : Table) (make : List ℕ → List ℕ) (counter : ℕ) → RowsOf rows make t → FirstCell make → ((r : List ℕ) → get_or (make r) 0 0 ≡ get_or r 0 0 + 1)
    → KeysBelow t counter → counter < 4294967296 → every key_fits rows ≡ true
unfolding key_fits
keys-held rows t make counter R pos first below small =
    every-passes key_fits rows []
    (λ i l. lt-ltb (get_or (get_or rows i []) 0 0) 4294967295
    (let key = below (i + 1) (row-used rows t make R pos i l) in
    let is : cell t (i + 1) 0 ≡ get_or (get_or rows i []) 0 0 + 1 = R.cells i 0 l ∙ first (get_or rows i []) in
    omega arith))

-- the first cell of a row is its key plus one
abbrev KeyFirst : (List ℕ → List ℕ) → Type 0
KeyFirst make = (r : List ℕ) → get_or (make r) 0 0 ≡ get_or r 0 0 + 1

vertex-first : (c : Contents) → KeyFirst (vertex_row c)
unfolding vertex_row
vertex-first c r = refl

edge-first : (c : Contents) → KeyFirst (edge_row c)
unfolding edge_row
edge-first c r = refl

face-first : (c : Contents) → KeyFirst (face_row c)
unfolding face_row
face-first c r = refl

next-key : (lent : Mesh) (c : Contents) (k : ℕ) → next_key (mesh_of lent c) k ≡ get_or c.counters k 0
unfolding mesh_of
next-key lent c k = refl

positions-held : (rows : Table) (ps : List (List Float)) → length rows ≤ length ps → ((i : ℕ) → i < length rows → get_or ps i [] ≡ position_row (get_or rows i []))
    → T (every finite_row ps) → every finite_record rows ≡ true
unfolding finite_record
positions-held rows ps few is all =
    every-passes finite_record rows [] (λ i l. T_true _ (subst (λ (r : List Float). T (finite_row r)) (is i l) (every-at finite_row ps [] all i (omega arith))))

module _ (lent : Mesh) (t : Text) (b : T (bytes_only t)) (h : T (tables_hold lent (contents_in t))) where
  -- what is sound can be held
  sound-held : T (sound (mesh_of lent (contents_in t))) → storable (contents_in t) ≡ true
  unfolding storable
  sound-held s =
      let c : Contents = contents_in t in
      let m : Mesh = mesh_of lent c in
      let F : SoundFacts m = facts m s in
      let R : Rowed c m = rowed lent c h in
      let small : (k : ℕ) → k < 3 → next_key m k < 4294967296 = λ k q. subst (λ (n : ℕ). n < 4294967296) (sym (next-key lent c k)) (counter-small t k b q) in
      rw (
        keys-held (body c 0) m.vertices (vertex_row c) (next_key m vertex_kind) R.vertices (vertex-pos c) (vertex-first c) F.vertex-keys-below
            (small 0 (omega arith)),
        keys-held (body c 2) m.edges (edge_row c) (next_key m edge_kind) R.edges (edge-pos c) (edge-first c) F.edge-keys-below (small 1 (omega arith)),
        keys-held (body c 3) m.faces (face_row c) (next_key m face_kind) R.faces (face-pos c) (face-first c) F.face-keys-below (small 2 (omega arith)),
      )
      (positions-held (body c 0) m.positions (omega (arith, R.vertices.few, F.sizes.position-rows)) R.positions
      (finite-rows m (parts m s).all-finite))
    where
      finite-rows : (m : Mesh) → T (all_finite m) → T (every finite_row m.positions)
      finite-rows m q = unfold all_finite in q

  pub not-held : storable (contents_in t) ≡ false → sound (mesh_of lent (contents_in t)) ≡ false
  not-held e =
      same_test (sound (mesh_of lent (contents_in t))) false (λ s. false≢true (sym e ∙ sound-held s)) (λ z. absurd z)

-- ---- what is decided first

module _ (lent : Mesh) (t : Text) where
  pub not-long : length_fits t ≡ false → 10 ≡ first_number lent t
  unfolding first_number
  not-long e = rw e

  pub not-placed : length_fits t ≡ true → in_place t ≡ false → 11 ≡ first_number lent t
  unfolding first_number
  not-placed e f = rw (e, f)

  pub too_many : length_fits t ≡ true → in_place t ≡ true → tables_hold lent (contents_in t) ≡ false → 7 ≡ first_number lent t
  unfolding first_number
  too_many e f g = rw (e, f, g)

  pub held-or-12 : (b : Bool) → length_fits t ≡ true → in_place t ≡ true → tables_hold lent (contents_in t) ≡ true → storable (contents_in t) ≡ b
      → cond b 0 12 ≡ first_number lent t
  unfolding first_number
  held-or-12 b e f g q = rw (e, f, g, q)

-- the refusals in their order, where the last test is d
abbrev in_order : Bool → Bool → Bool → Bool → ℕ
in_order a b c d = cond (not a) 10 (cond (not b) 11 (cond (not c) 7 (cond d 0 12)))

-- what has no first refusal passed every test
pub record Passed (lent : Mesh) (t : Text) : Type 0 where
  pub long : length_fits t ≡ true
  pub placed : in_place t ≡ true
  pub few : tables_hold lent (contents_in t) ≡ true
  pub held : storable (contents_in t) ≡ true

pub no-refusal : (lent : Mesh) (t : Text) → first_number lent t ≡ 0 → Passed lent t
unfolding first_number
no-refusal lent t = go (length_fits t) refl (in_place t) refl (tables_hold lent (contents_in t)) refl (storable (contents_in t)) refl
  where
    go : (a : Bool) → length_fits t ≡ a → (b : Bool) → in_place t ≡ b → (c : Bool) → tables_hold lent (contents_in t) ≡ c → (d : Bool) → storable (contents_in t) ≡ d
        → in_order a b c d ≡ 0 → Passed lent t
    go false ea b eb c ec d ed z = absurd (let q : ⊥ = omega arith in q)
    go true ea false eb c ec d ed z = absurd (let q : ⊥ = omega arith in q)
    go true ea true eb false ec d ed z = absurd (let q : ⊥ = omega arith in q)
    go true ea true eb true ec false ed z = absurd (let q : ⊥ = omega arith in q)
    go true ea true eb true ec true ed z = record { long = ea; placed = eb; few = ec; held = ed }

-- a first refusal is what reading answers, and the mesh stays
pub refused-first : (lent : Mesh) (t : Text) → T (bytes_only t) → (first_number lent t ≡ 0 → ⊥) → taken (first_number lent t) lent ≡ taken_of lent t
unfolding first_number taken_of read_number
refused-first lent t b = go (length_fits t) refl (in_place t) refl (tables_hold lent (contents_in t)) refl (storable (contents_in t)) refl
  where
    left : ℕ → Taken
    left n = taken n (cond (eqb n 0) (mesh_of lent (contents_in t)) lent)

    go : (x : Bool) → length_fits t ≡ x → (y : Bool) → in_place t ≡ y → (z : Bool) → tables_hold lent (contents_in t) ≡ z → (w : Bool) → storable (contents_in t) ≡ w
        → (in_order x y z w ≡ 0 → ⊥) → taken (in_order x y z w) lent ≡ left (in_order x y z (sound (mesh_of lent (contents_in t))))
    go false ex y ey z ez w ew ne = refl
    go true ex false ey z ez w ew ne = refl
    go true ex true ey false ez w ew ne = refl
    go true ex true ey true ez true ew ne = absurd (ne refl)
    go true ex true ey true ez false ew ne = ap (λ (s : Bool). left (cond s 0 12)) (sym (not-held lent t b (true-T ez) ew))

-- what has none is judged
pub judged-is : (lent : Mesh) (t : Text) → Passed lent t → judged lent t ≡ taken_of lent t
unfolding judged taken_of read_number
judged-is lent t p = rw (p.long, p.placed, p.few) (go (sound (mesh_of lent (contents_in t))))
  where
    go : (s : Bool)
        → cond s (taken 0 (mesh_of lent (contents_in t))) (taken 12 lent) ≡ taken (cond s 0 12) (cond (eqb (cond s 0 12) 0) (mesh_of lent (contents_in t)) lent)
    go true = refl
    go false = refl
