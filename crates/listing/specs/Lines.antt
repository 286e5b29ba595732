-- The lines of all records of a kind.
use Rattle.std.specs.Prelude.{ℕ, ◌≤◌, List, [], ◌∷◌, ◌++◌, length}
use Rattle.rules.specs.Mesh.{Mesh}
use Rattle.rules.specs.Records.{vertex_record, arc_record, edge_record, face_record}
use Rattle.rules.specs.Script.{Text, newline}
use Rattle.rules.specs.Dump.{vertex_line, arc_line, edge_line, face_line}
use Rattle.orders.specs.declared.kinds.Kind.{Kind}
use Rattle.orders.specs.declared.kinds.Kind.TheVariants.{Vertices, Arcs, Edges, Faces}
use Rattle.orders.specs.Order.{links_of}

-- tables of at most 256 rows, so many as the code holds links
pub record Listable (m : Mesh) : Type 0 where
  pub few-vertices : length m.vertices ≤ 256
  pub few-arcs : length m.arcs ≤ 256
  pub few-edges : length m.edges ≤ 256
  pub few-faces : length m.faces ≤ 256

-- the line of the record that a link names, with its newline
unfoldable pub line_of : Mesh → Kind → ℕ → Text
line_of m Vertices x = vertex_line (vertex_record m x) ++ (newline ∷ [])
line_of m Arcs x = arc_line (arc_record m x) ++ (newline ∷ [])
line_of m Edges x = edge_line (edge_record m x) ++ (newline ∷ [])
line_of m Faces x = face_line (face_record m x) ++ (newline ∷ [])

unfoldable pub joined_lines : (ℕ → Text) → List ℕ → Text
joined_lines line [] = []
joined_lines line (x ∷ xs) = line x ++ joined_lines line xs

unfoldable pub kind_text : Mesh → Kind → Text
kind_text m kind = joined_lines (line_of m kind) (links_of m kind)
