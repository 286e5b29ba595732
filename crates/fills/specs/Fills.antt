-- What rows can hold of a file's records, and rows put over the first of a table (request L3).
use Prim.Native.Nat.{ℕ, ◌≤◌, ◌<◌}
use mathlib.Core.Path.{◌≡◌}
use mathlib.Core.Bool.{Bool, ◌&&◌, cond}
use mathlib.Core.List.{List, ◌++◌, map}
use lib.ListN.{length, get_or, drop}
use lib.Dec.{T, eqb, ltb}
use Rattle.std.specs.Prelude.{Option, None, Some}
use Rattle.rules.specs.Table.{every}
use Rattle.rules.specs.Mesh.{Mesh, mesh, Room, room}
use Rattle.rules.specs.Point.{finite_row}
use Rattle.rules.specs.Script.{Text}
use Rattle.file.specs.File.{none_cell, Contents, contents_in, body, vertex_row, position_row, arc_row, edge_row, face_row}
use Rattle.bodies.specs.Bodies.{widths, Whole}

-- cell j of a kind's records has 4 bytes
pub record FourBytes (kind j : ℕ) : Type 0 where
  pub there : j < length (widths kind)
  pub four : get_or (widths kind) j 0 ≡ 4

-- the key in a cell, or none where it says so
abbrev pub name_in : ℕ → Option ℕ
name_in cell = cond (eqb cell none_cell) None (Some cell)

-- a row holds a key plus one, as a u32
unfoldable pub key_fits : List ℕ → Bool
key_fits r = ltb (get_or r 0 0) 4294967295

-- a position that no row can hold is not finite
unfoldable pub finite_record : List ℕ → Bool
finite_record r = finite_row (position_row r)

unfoldable pub storable : Contents → Bool
storable c = every key_fits (body c 0) && (every key_fits (body c 2) && (every key_fits (body c 3) && every finite_record (body c 0)))

-- a file that is right, and of which rows can hold every record
pub record Storable (t : Text) : Type 0 where
  pub whole : Whole t
  pub rows : T (storable (contents_in t))

-- the rows of so many records over the first of a table
unfoldable pub over_first {ℓ} : {A B : Type ℓ} → (A → B) → List A → List B → List B
over_first f rows t = map f rows ++ drop (length rows) t

-- each of the first n rows is one that its place allows
abbrev pub MadeBelow : {B : Type 0} → (ℕ → B → Type 0) → List B → ℕ → Type 0
MadeBelow {B} P t n = (i : ℕ) (d : B) → i < n → P i (get_or t i d)

-- the rows of all records over the first of each table
unfoldable pub records_over : Contents → Room → Room
records_over c r =
    room (over_first (vertex_row c) (body c 0) r.vertices) (over_first position_row (body c 0) r.positions)
    (over_first (arc_row c) (body c 1) r.arcs) (over_first (edge_row c) (body c 2) r.edges) (over_first (face_row c) (body c 3) r.faces)

-- a set of tables with counters is a mesh
abbrev pub as_mesh : Room → List ℕ → Mesh
as_mesh r k = mesh r.vertices r.positions r.arcs r.edges r.faces k

-- a set of tables has a row for each record
pub record RowsFor (c : Contents) (r : Room) : Type 0 where
  pub vertices : length (body c 0) ≤ length r.vertices
  pub positions : length (body c 0) ≤ length r.positions
  pub arcs : length (body c 1) ≤ length r.arcs
  pub edges : length (body c 2) ≤ length r.edges
  pub faces : length (body c 3) ≤ length r.faces
