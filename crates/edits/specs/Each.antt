-- An edit that repeats a part: each turn on what the one before left, until one is refused. And the last parts of arc extrude and of split.
use Rattle.std.specs.Prelude.{ℕ, List, ◌++◌}
use Rattle.rules.specs.Answer.{Done}
use Rattle.rules.specs.Table.{up_to}
use Rattle.rules.specs.Mesh.{Mesh, find_arc}
use Rattle.rules.specs.Step.{Step, step, and_then, answering}
use Rattle.makers.specs.Search.{arcs_on}
use Rattle.makers.specs.Makers.{Makers, searching, get_or_insert_edge_by, put_face_by, arc_bridge_by}

-- f at 0, 1, up to n - 1: done, or the first refusal
unfoldable pub each_in : (ℕ → Mesh → Step) → ℕ → Mesh → Step
each_in f n m = answering Done (up_to (λ i s. and_then s (f i)) n (step m Done))

-- the edge (c,d), then arc bridge of x and (c,d)
unfoldable pub joined_by : Makers → Mesh → ℕ → ℕ → ℕ → Step
joined_by by m x c d =
    let m₁ = get_or_insert_edge_by by m c d in
    arc_bridge_by by m₁ x (find_arc m₁ c d)

-- the two halves of a split as the code puts them in, left first, each by what was searched for in the lists before either was in
abbrev pub left_in : Mesh → List ℕ → Mesh
left_in m left = put_face_by searching m (arcs_on m left) m left 0

abbrev pub both_in : Mesh → List ℕ → List ℕ → Mesh
both_in m left right = put_face_by searching m (arcs_on m right ++ arcs_on m left) (left_in m left) right 0
