-- What a vertex's bytes are: its cells, put one after the other; which tables a record reads, and how many bytes it takes.
use Prim.Native.Nat.{ℕ, ◌+◌}
use native.Mathlib.Omega.{arith}
use mathlib.Core.Path.{◌≡◌, refl, ap, sym, ◌∙◌}
use mathlib.Core.List.{List, [], ◌++◌, append-nil}
use mathlib.Core.Bool.{true}
use mathlib.Core.Path.{subst}
use lib.Dec.{T}
use lib.Ieee.{Float, nan, inf, fin, is_nan, binary64, to_bits}
use Rattle.rules.specs.Script.{Text}
use Rattle.rules.specs.declared.Position.{Position}
use Rattle.rules.specs.Table.{Table}
use Rattle.rules.specs.Mesh.{Mesh, mesh, key_at, leading}
use Rattle.rules.specs.Point.{position_at}
use Rattle.rules.specs.Records.{arc_name, vertex_record, arc_record, edge_record, face_record}
use Rattle.file.specs.File.{cell_text, row_text, total, key_cell, vertex_cells}
use Rattle.file.proofs.Cells.{cell-length}
use Rattle.orders.specs.declared.kinds.Kind.TheVariants.{Vertices, Arcs, Edges, Faces}
use Rattle.writes.specs.Writing.{put_text, widths_of, cells_of, record_text}
use Rattle.writes.proofs.Texts.{put_then}

module _ (m : Mesh) (x at : ℕ) (out one two three four five : Text) where
  cells-put : (key a b c lead : ℕ)
      → one ≡ put_text out at (cell_text 4 key) → two ≡ put_text one (at + 4) (cell_text 8 a) → three ≡ put_text two (at + 12) (cell_text 8 b)
      → four ≡ put_text three (at + 20) (cell_text 8 c) → five ≡ put_text four (at + 28) (cell_text 4 lead)
      → five ≡ put_text out at (cell_text 4 key ++ (cell_text 8 a ++ (cell_text 8 b ++ (cell_text 8 c ++ (cell_text 4 lead ++ [])))))
  cells-put key a b c lead e1 e2 e3 e4 e5 =
      let last = e5 ∙ ap (put_text four (at + 28)) (sym (append-nil (cell_text 4 lead))) in
      let p4 = put_then three four five (at + 20) (at + 28) (cell_text 8 c) _ e4 (omega (arith, cell-length 8 c)) last in
      let p3 = put_then two three five (at + 12) (at + 20) (cell_text 8 b) _ e3 (omega (arith, cell-length 8 b)) p4 in
      let p2 = put_then one two five (at + 4) (at + 12) (cell_text 8 a) _ e2 (omega (arith, cell-length 8 a)) p3 in
      put_then out one five at (at + 4) (cell_text 4 key) _ e1 (omega (arith, cell-length 4 key)) p2

  pub vertex-put : (key a b c l lead : ℕ) (p : Position)
      → one ≡ put_text out at (cell_text 4 key) → two ≡ put_text one (at + 4) (cell_text 8 a) → three ≡ put_text two (at + 12) (cell_text 8 b)
      → four ≡ put_text three (at + 20) (cell_text 8 c) → five ≡ put_text four (at + 28) (cell_text 4 lead)
      → key ≡ key_at m.vertices x → p ≡ position_at m.positions x → a ≡ to_bits binary64 p.x → b ≡ to_bits binary64 p.y → c ≡ to_bits binary64 p.z
      → l ≡ leading m x → lead ≡ key_cell (arc_name m l) 1
      → five ≡ put_text out at (record_text m Vertices x)
  unfolding row_text record_text widths_of cells_of vertex_cells vertex_record
  vertex-put key a b c l lead p e1 e2 e3 e4 e5 ek ep ea eb ec el en =
      cells-put key a b c lead e1 e2 e3 e4 e5 ∙ rw (ea, eb, ec, en, ek, ep, el)

-- ---- a record of a kind is told by its tables alone

module _ (v : Table) (p : List (List Float)) (a e f : Table) (x : ℕ) where
  -- a vertex's by the vertices, the positions and the arcs
  pub vertex-same : record_text (mesh v p a [] [] []) Vertices x ≡ record_text (mesh v p a e f []) Vertices x
  unfolding record_text cells_of vertex_record arc_name
  vertex-same = refl

  -- an arc's by all but the positions
  pub arc-same : record_text (mesh v [] a e f []) Arcs x ≡ record_text (mesh v p a e f []) Arcs x
  unfolding record_text cells_of arc_record arc_name
  arc-same = refl

  -- an edge's by the vertices, the arcs and the edges
  pub edge_same : record_text (mesh v [] a e [] []) Edges x ≡ record_text (mesh v p a e f []) Edges x
  unfolding record_text cells_of edge_record arc_name
  edge_same = refl

  -- a face's by the vertices, the arcs and the faces
  pub face-same : record_text (mesh v [] a [] f []) Faces x ≡ record_text (mesh v p a e f []) Faces x
  unfolding record_text cells_of face_record arc_name
  face-same = refl

-- ---- how many bytes each takes

-- a vertex 32
pub vertex-total : total (widths_of Vertices) ≡ 32
unfolding total widths_of
vertex-total = refl

-- an arc 24
pub arc-total : total (widths_of Arcs) ≡ 24
unfolding total widths_of
arc-total = refl

-- an edge 12
pub edge-total : total (widths_of Edges) ≡ 12
unfolding total widths_of
edge-total = refl

-- a face 16
pub face-total : total (widths_of Faces) ≡ 16
unfolding total widths_of
face-total = refl
