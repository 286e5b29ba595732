-- What the call that reads a file is stated with (request L3). What it answers and leaves is `read_file`.
use Prim.Native.Nat.{ℕ, ◌≤◌}
use lib.ListN.{length}
use Rattle.rules.specs.Mesh.{Mesh, Room}
use Rattle.file.specs.File.{FileRead}

-- no fewer rows in any table
pub record Fits (m r : Room) : Type 0 where
  pub vertices : length m.vertices ≤ length r.vertices
  pub positions : length m.positions ≤ length r.positions
  pub arcs : length m.arcs ≤ length r.arcs
  pub edges : length m.edges ≤ length r.edges
  pub faces : length m.faces ≤ length r.faces

-- what the call answers and leaves
abbrev pub file_read : ℕ → Mesh → Room → Room → FileRead
file_read n m one two = record { number = n; mesh = m; one = one; two = two }
