-- Two arcs to be bridged, told by their four vertices: the arcs, their corners as a list, and the arcs of the corners' pairs.
use Rattle.std.specs.Prelude.{ℕ, ◌≡◌, List, get_or, Float}
use Rattle.rules.specs.Table.{Table}
use Rattle.rules.specs.Mesh.{mesh, list_of, arc_between}
use Rattle.rules.specs.Edit.{corners}
use Rattle.pairs.specs.Pairs.{arcs_of}
use Rattle.checks.specs.declared.bridge.Between.{Between}

-- the arc from the first vertex to the second, and that from the third to the fourth
abbrev pub one_of : Table → List ℕ → ℕ
one_of arcs four = arc_between arcs (get_or four 0 0) (get_or four 1 0)

abbrev pub other_of : Table → List ℕ → ℕ
other_of arcs four = arc_between arcs (get_or four 2 0) (get_or four 3 0)

pub record Told (arcs : Table) (four : List ℕ) (r : Between) : Type 0 where
  pub one : r.x ≡ one_of arcs four
  pub other : r.y ≡ other_of arcs four
  pub found : list_of r.found ≡ arcs_of arcs (list_of r.per)

-- the list is that of the corners
abbrev pub Cornered : Table → Between → Type 0
Cornered arcs r = (vs : Table) (ps : List (List Float)) (es fs : Table) (ks : List ℕ) → list_of r.per ≡ corners (mesh vs ps arcs es fs ks) r.x r.y
