-- What reading decides and leaves in tables and a room that is as long (request L3).
use Prim.Native.Nat.{ℕ}
use mathlib.Core.Path.{◌≡◌}
use mathlib.Core.Bool.{not, cond}
use lib.ListN.{length}
use lib.Dec.{eqb}
use Rattle.rules.specs.Mesh.{Mesh, Room}
use Rattle.rules.specs.Sound.{sound}
use Rattle.rules.specs.Script.{Text}
use Rattle.file.specs.File.{contents_in, length_fits, in_place, mesh_of, tables_hold, read_number}
use Rattle.fills.specs.Fills.{storable}

-- as many rows in each table
pub record SameSize (r s : Room) : Type 0 where
  pub vertices : length r.vertices ≡ length s.vertices
  pub positions : length r.positions ≡ length s.positions
  pub arcs : length r.arcs ≡ length s.arcs
  pub edges : length r.edges ≡ length s.edges
  pub faces : length r.faces ≡ length s.faces

-- what is decided before any table is filled: 10, 11, 7, and 12 where no row can hold a record; 0 is none
unfoldable pub first_number : Mesh → Text → ℕ
first_number lent text =
    cond (not (length_fits text)) 10
    (cond (not (in_place text)) 11
    (cond (not (tables_hold lent (contents_in text))) 7
    (cond (storable (contents_in text)) 0 12)))

-- a number and the mesh as it is left
pub record Taken : Type 0 where
  pub number : ℕ
  pub mesh : Mesh

abbrev pub taken : ℕ → Mesh → Taken
taken n m = record { number = n; mesh = m }

-- the mesh that the file holds, judged: copied over where it is sound
unfoldable pub judged : Mesh → Text → Taken
judged lent text = cond (sound (mesh_of lent (contents_in text))) (taken 0 (mesh_of lent (contents_in text))) (taken 12 lent)

-- what `read_file` says of the number and the mesh
unfoldable pub taken_of : Mesh → Text → Taken
taken_of lent text = taken (read_number lent text) (cond (eqb (read_number lent text) 0) (mesh_of lent (contents_in text)) lent)
