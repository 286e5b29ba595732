-- The file's bytes as the writer puts them: a text from a place on, numbers of four bytes, a record, and the records of a kind.
use Prim.Native.Nat.{ℕ, suc, ◌+◌, ◌*◌, ◌≤◌}
use mathlib.Core.List.{List, [], ◌∷◌, ◌++◌, map}
use lib.ListN.{length, get_or, set}
use Rattle.std.specs.Prelude.{Result, Ok, Err}
use Rattle.rules.specs.declared.Refusal.{Refusal}
use Rattle.rules.specs.Mesh.{Mesh}
use Rattle.rules.specs.Step.{number_of}
use Rattle.rules.specs.Records.{vertex_record, arc_record, edge_record, face_record}
use Rattle.rules.specs.Script.{Text}
use Rattle.file.specs.File.{FileWritten, cell_text, row_text, body_text, vertex_cells, arc_cells, edge_cells, face_cells}
use Rattle.orders.specs.declared.kinds.Kind.{Kind}
use Rattle.orders.specs.declared.kinds.Kind.TheVariants.{Vertices, Arcs, Edges, Faces}
use Rattle.orders.specs.Order.{table_of, links_of}
use Rattle.writes.specs.declared.Counts.{Counts}

-- ---- bytes

-- a text in lent bytes from a place on; what stands before it and behind it stays
unfoldable pub put_text : Text → ℕ → Text → Text
put_text out at [] = out
put_text out at (b ∷ bs) = put_text (set out at b) (suc at) bs

-- numbers of four bytes, one after the other
unfoldable pub words_text : List ℕ → Text
words_text [] = []
words_text (n ∷ ns) = cell_text 4 n ++ words_text ns

-- ---- records

-- the widths of a kind's cells, and a record's cells
unfoldable pub widths_of : Kind → List ℕ
widths_of Vertices = 4 ∷ 8 ∷ 8 ∷ 8 ∷ 4 ∷ []
widths_of Arcs = 4 ∷ 4 ∷ 4 ∷ 4 ∷ 4 ∷ 4 ∷ []
widths_of Edges = 4 ∷ 4 ∷ 4 ∷ []
widths_of Faces = 4 ∷ 4 ∷ 4 ∷ 4 ∷ []

unfoldable pub cells_of : Mesh → Kind → ℕ → List ℕ
cells_of m Vertices x = vertex_cells (vertex_record m x)
cells_of m Arcs x = arc_cells (arc_record m x)
cells_of m Edges x = edge_cells (edge_record m x)
cells_of m Faces x = face_cells (face_record m x)

unfoldable pub record_text : Mesh → Kind → ℕ → Text
record_text m kind x = row_text (widths_of kind) (cells_of m kind x)

-- the records that links name, and all of a kind in key order
unfoldable pub links_text : Mesh → Kind → List ℕ → Text
links_text m kind links = body_text (widths_of kind) (map (cells_of m kind) links)

unfoldable pub kind_text : Mesh → Kind → Text
kind_text m kind = links_text m kind (links_of m kind)

-- "the bodies back to back", for vertices, arcs, edges, faces
unfoldable pub bodies_of : Mesh → Text
bodies_of m = kind_text m Vertices ++ (kind_text m Arcs ++ (kind_text m Edges ++ kind_text m Faces))

-- ---- the table of contents

unfoldable pub counts_of : Mesh → Counts
counts_of m =
    record {
      vertices = length (links_of m Vertices);
      arcs = length (links_of m Arcs);
      edges = length (links_of m Edges);
      faces = length (links_of m Faces);
    }

-- a count and an offset for each body, and the counters
unfoldable pub head_text : Counts → List ℕ → Text
head_text c k =
    words_text
    (c.vertices
    ∷ 44
    ∷ c.arcs
    ∷ (44 + 32 * c.vertices)
    ∷ c.edges
    ∷ (44 + 32 * c.vertices + 24 * c.arcs)
    ∷ c.faces
    ∷ (44 + 32 * c.vertices + 24 * c.arcs + 12 * c.edges)
    ∷ get_or k 0 0
    ∷ get_or k 1 0
    ∷ get_or k 2 0
    ∷ [])

unfoldable pub length_of : Counts → ℕ
length_of c = 44 + 32 * c.vertices + 24 * c.arcs + 12 * c.edges + 16 * c.faces

-- ---- the call

-- so few records as the largest table within the limits has rows
pub record Few (c : Counts) : Type 0 where
  pub few-vertices : c.vertices ≤ 16384
  pub few-arcs : c.arcs ≤ 16384
  pub few-edges : c.edges ≤ 16384
  pub few-faces : c.faces ≤ 16384

-- no table is larger than the largest that is within the limits
pub record Small (m : Mesh) : Type 0 where
  pub rows : (kind : Kind) → length (table_of m kind) ≤ 16384

-- what the call gives back, as document 02's numbers: 0 and the length, or a refusal's number and none
abbrev pub file_written : Result ℕ Refusal → Text → FileWritten
file_written (Ok n) bytes = record { number = 0; count = n; bytes = bytes }
file_written (Err r) bytes = record { number = number_of r; count = 0; bytes = bytes }
