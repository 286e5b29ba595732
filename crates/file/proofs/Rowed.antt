-- The mesh that a file holds, row by row: row i of each table is record i of its body, and further rows are unused.
use Prim.Native.Nat.{ℕ, zero, suc, ◌+◌, ◌≤◌, ◌<◌}
use native.Mathlib.Omega.{arith}
use native.Mathlib.Decide.{dec_lt}
use mathlib.Core.Path.{◌≡◌, refl, ap, sym, subst, ◌∙◌}
use mathlib.Core.Bool.{◌&&◌}
use mathlib.Core.List.{List, [], ◌∷◌, map}
use lib.ListN.{length, get_or, replicate}
use lib.Dec.{T, leb, leb→le}
use lib.Ieee.Fits.{and_l, and_r}
use Rattle.rules.specs.Table.{Table, cell, first_row, there}
use Rattle.rules.specs.Mesh.{Mesh}
use Rattle.rules.specs.Point.{zero_float}
use Rattle.proved.specs.Facts.{UnusedZero}
use Rattle.proved.proofs.Rows.{cell_row, cell-none, differ-T}
use Rattle.file.specs.File.{Contents, body, has_key, has_ends, by_key, by_ends, vertex_row, position_row, arc_row, edge_row, face_row, filled, mesh_of, tables_hold}
use Rattle.file.proofs.Rows.{or-nowhere-pos, filled-length, filled_row, filled-past, filled-rest}

-- a table whose row i is made of record i, and whose further rows are unused
pub record RowsOf (rows : Table) (make : List ℕ → List ℕ) (t : Table) : Type 0 where
  pub few : length rows ≤ length t
  pub cells : (i k : ℕ) → i < length rows → cell t (i + 1) k ≡ get_or (make (get_or rows i [])) k 0
  pub past : (i k : ℕ) → length rows ≤ i → cell t (i + 1) k ≡ 0

pub record Rowed (c : Contents) (n : Mesh) : Type 0 where
  pub vertices : RowsOf (body c 0) (vertex_row c) n.vertices
  pub arcs : RowsOf (body c 1) (arc_row c) n.arcs
  pub edges : RowsOf (body c 2) (edge_row c) n.edges
  pub faces : RowsOf (body c 3) (face_row c) n.faces
  pub positions : (i : ℕ) → i < length (body c 0) → get_or n.positions i [] ≡ position_row (get_or (body c 0) i [])
  pub positions-past : (i : ℕ) → length (body c 0) ≤ i → i < length n.positions → get_or n.positions i [] ≡ zero_float ∷ zero_float ∷ zero_float ∷ []
  pub counters : n.counters ≡ c.counters

pub filled-rows : (rows : Table) (make : List ℕ → List ℕ) (n : ℕ) (zeros : List ℕ) → ((k : ℕ) → get_or zeros k 0 ≡ 0) → length rows ≤ n
    → RowsOf rows make (filled n zeros (map make rows))
filled-rows rows make n zeros z h =
    let t : Table = filled n zeros (map make rows) in
    record {
      few = omega (arith, filled-length n zeros make rows h);
      cells = λ i k l. cell_row t i k ∙ ap (λ (r : List ℕ). get_or r k 0) (filled_row n zeros make rows i [] [] l);
      past = λ i k l. cell_row t i k ∙ filled-past n zeros make rows i k z l;
    }

zeros : (n k : ℕ) → ◌≡◌ {A = ℕ} (get_or (replicate n 0) k 0) 0
zeros zero zero = refl
zeros zero (suc k) = refl
zeros (suc n) zero = refl
zeros (suc n) (suc k) = zeros n k

-- reading fills rows so, where the lent tables hold the records
pub rowed : (lent : Mesh) (c : Contents) → T (tables_hold lent c) → Rowed c (mesh_of lent c)
unfolding mesh_of tables_hold
rowed lent c h =
    let v = leb (length (body c 0)) (length lent.vertices) in
    let a = leb (length (body c 1)) (length lent.arcs) in
    let e = leb (length (body c 2)) (length lent.edges) in
    let f = leb (length (body c 3)) (length lent.faces) in
    let h₁ = and_r v (a && (e && f)) h in
    let h₂ = and_r a (e && f) h₁ in
    record {
      vertices = filled-rows (body c 0) (vertex_row c) (length lent.vertices) (0 ∷ 0 ∷ []) (zeros 2) (leb→le _ _ (and_l v (a && (e && f)) h));
      arcs = filled-rows (body c 1) (arc_row c) (length lent.arcs) (0 ∷ 0 ∷ 0 ∷ 0 ∷ 0 ∷ 0 ∷ []) (zeros 6) (leb→le _ _ (and_l a (e && f) h₁));
      edges = filled-rows (body c 2) (edge_row c) (length lent.edges) (0 ∷ 0 ∷ 0 ∷ []) (zeros 3) (leb→le _ _ (and_l e f h₂));
      faces = filled-rows (body c 3) (face_row c) (length lent.faces) (0 ∷ 0 ∷ 0 ∷ []) (zeros 3) (leb→le _ _ (and_r e f h₂));
      positions = λ i l. filled_row (length lent.positions) (zero_float ∷ zero_float ∷ zero_float ∷ []) position_row (body c 0) i [] [] l;
      positions-past = λ i h l. filled-rest (length lent.positions) (zero_float ∷ zero_float ∷ zero_float ∷ []) position_row (body c 0) i [] h l;
      counters = refl;
    }

-- ---- a row of a record is in use, and no other

-- a name leads somewhere, be it nowhere
pub by-key-pos : (c : Contents) (kind k : ℕ) → by_key c kind k ≡ 0 → ⊥
unfolding by_key
by-key-pos c kind k e = or-nowhere-pos (first_row (has_key k) (body c kind)) e

pub by-ends-pos : (c : Contents) (s d : ℕ) → by_ends c s d ≡ 0 → ⊥
unfolding by_ends
by-ends-pos c s d e = or-nowhere-pos (first_row (has_ends s d) (body c 1)) e

-- a row's first cell is not 0
abbrev pub FirstCell : (List ℕ → List ℕ) → Type 0
FirstCell make = (r : List ℕ) → get_or (make r) 0 0 ≡ 0 → ⊥

pub vertex-pos : (c : Contents) → FirstCell (vertex_row c)
unfolding vertex_row
vertex-pos c r e = omega arith

pub edge-pos : (c : Contents) → FirstCell (edge_row c)
unfolding edge_row
edge-pos c r e = omega arith

pub face-pos : (c : Contents) → FirstCell (face_row c)
unfolding face_row
face-pos c r e = omega arith

pub arc-pos : (c : Contents) → FirstCell (arc_row c)
unfolding arc_row
arc-pos c r e = by-key-pos c 0 (get_or r 0 0) e

pub row-used : (rows t : Table) (make : List ℕ → List ℕ) → RowsOf rows make t → FirstCell make → (i : ℕ) → i < length rows → T (there t (i + 1))
row-used rows t make Q pos i l = differ-T (cell t (i + 1) 0) 0 (λ e. pos (get_or rows i []) (sym (Q.cells i 0 l) ∙ e))

-- rows that are not of a record are zero
pub others-zero : (rows t : Table) (make : List ℕ → List ℕ) → RowsOf rows make t → FirstCell make → UnusedZero t
others-zero rows t make Q pos zero k h = cell-none t k
others-zero rows t make Q pos (suc i) k h = go (dec_lt i (length rows))
  where
    link : suc i ≡ i + 1
    link = omega arith

    go : Dec (i < length rows) → cell t (suc i) k ≡ 0
    go (yes l) = absurd (h (subst (λ (z : ℕ). T (there t z)) (sym link) (row-used rows t make Q pos i l)))
    go (no l) = ap (λ (z : ℕ). cell t z k) link ∙ Q.past i k (omega arith)
