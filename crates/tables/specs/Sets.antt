-- One table copied over another, and one set of tables over another; and rows that are zero already.
use Rattle.std.specs.Prelude.{ℕ, ◌≤◌, ◌<◌, ◌≡◌, List, [], ◌++◌, length, get_or, take, drop, replicate}
use Rattle.rules.specs.declared.MeshRef.{MeshRef}
use Rattle.rules.specs.Table.{Table}
use Rattle.rules.specs.Mesh.{Room, room}

-- s over d: the first rows are those of s, as many as both have, and the rest of d stays
unfoldable pub over {ℓ} : {A : Type ℓ} → List A → List A → List A
over s d = take (length d) s ++ drop (length s) d

-- each table of a set over the table of its kind
unfoldable pub set_over : Room → Room → Room
set_over s d =
    room (over s.vertices d.vertices) (over s.positions d.positions) (over s.arcs d.arcs)
    (over s.edges d.edges) (over s.faces d.faces)

-- the five tables of a mesh that is lent for reading
abbrev pub tables_in : MeshRef → Room
tables_in m = room m.vertices.now m.positions.now m.arcs.now m.edges.now m.faces.now

-- rows of so many cells: those from i up to r are zero
abbrev pub ZeroRows : ℕ → Table → ℕ → ℕ → Type 0
ZeroRows n t i r = (j : ℕ) → i ≤ j → j < r → get_or t j [] ≡ replicate n 0

-- those up to r are
abbrev pub ZeroTo : ℕ → Table → ℕ → Type 0
ZeroTo n t r = (r ≤ length t) × ZeroRows n t 0 r
