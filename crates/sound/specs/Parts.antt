-- The clauses of Sound by the table that they go over, as the code tests them: what one pass over each table tells.
use Rattle.std.specs.Prelude.{◌≡◌, Bool, true, false, not, ◌&&◌, List, [], map, take, length, get_or, eqb, ltb, Float, ℕ, ◌+◌, ◌*◌, ◌≤◌, ◌<◌, Option, Some, None}
use Rattle.rules.specs.Table.{Table, every, count, each_used, all_below, there, used}
use Rattle.rules.specs.Mesh.{Mesh, source, dest, edge_arc, next_key, vertex_kind, edge_kind, face_kind}
use Rattle.proved.specs.Demand.{holds_some}
use Rattle.sound.specs.declared.keys.Rising.{Rising}
use Rattle.sound.specs.declared.passes.Named.{Named}
use Rattle.sound.specs.Names.{edge_name, keys_rise}
use Rattle.sound.specs.Tests.{loose_row, position_test}
use Rattle.rules.specs.Sound.{within_limits, keys_of, both_arcs, leads_out, unused_zero, positions_zero, all_finite}

-- the keys of a table lie below a counter
abbrev pub below : Table → ℕ → Bool
below t counter = every (λ k. ltb k counter) (keys_of t)

unfoldable pub vertices_sound : Mesh → Bool
vertices_sound m = unused_zero m.vertices && (below m.vertices (next_key m vertex_kind) && leads_out m)

unfoldable pub positions_sound : Mesh → Bool
positions_sound m = positions_zero m && all_finite m

-- the ends of the arc that each edge names differ, and exist: then so do those of every arc
unfoldable pub edge_ends : Mesh → Bool
edge_ends m =
    each_used
    (λ e.
    not (eqb (source m (edge_arc m e)) (dest m (edge_arc m e)))
    && (there m.vertices (source m (edge_arc m e)) && there m.vertices (dest m (edge_arc m e))))
    m.edges

unfoldable pub edges_sound : Mesh → Bool
edges_sound m = unused_zero m.edges && (below m.edges (next_key m edge_kind) && (both_arcs m && edge_ends m))

unfoldable pub faces_sound : Mesh → Bool
faces_sound m = unused_zero m.faces && below m.faces (next_key m face_kind)

-- next and previous of the arcs without a face
unfoldable pub loose_links : Mesh → Bool
loose_links m = all_below (λ i. loose_row m.arcs (get_or m.arcs i [])) (length m.arcs)

-- and twice as many arcs as edges: then each arc is one of the two that its edge names
unfoldable pub arcs_sound : Mesh → Bool
arcs_sound m = unused_zero m.arcs && (loose_links m && eqb (count used m.arcs) (2 * count used m.edges))

-- sizes, and all of them
unfoldable pub rows_sound : Mesh → Bool
rows_sound m =
    within_limits m && (vertices_sound m && (positions_sound m && (faces_sound m && (edges_sound m && arcs_sound m))))

-- what a pass over a table tells: its clauses hold and, where so is told, its keys rise; or they do not hold
abbrev pub PassOf : Bool → Table → Option Rising → Type 0
PassOf b t None = b ≡ false
PassOf b t (Some r) = (b ≡ true) × (r.so ≡ true → keys_rise t ≡ true)

-- the clauses hold, and there are so many
abbrev pub CountOf : Bool → ℕ → Option ℕ → Type 0
CountOf b n None = b ≡ false
CountOf b n (Some r) = (b ≡ true) × (r ≡ n)

-- the pass over the edges: how many there are, and a list that begins with their names
abbrev pub EdgesPass : Mesh → List ℕ → Option Named → Type 0
EdgesPass m list None = edges_sound m ≡ false
EdgesPass m list (Some n) =
    (edges_sound m ≡ true)
    × ((n.there ≡ count used m.edges)
    × ((take (length m.edges) list ≡ map (edge_name m.arcs) m.edges) × (n.keys.so ≡ true → keys_rise m.edges ≡ true)))

-- the rows from i up to r all hold a face
abbrev pub AllHold : Table → ℕ → ℕ → Type 0
AllHold arcs i r = (j : ℕ) → i ≤ j → j < r → holds_some (get_or arcs j []) ≡ true

-- from row i on, r is reached over such rows
abbrev pub HeldTo : Table → ℕ → ℕ → Type 0
HeldTo arcs i r = (i ≤ r) × ((r ≤ length arcs) × AllHold arcs i r)

-- the positions of the rows below i pass
abbrev pub Placed : Table → List (List Float) → ℕ → Type 0
Placed vertices positions i = all_below (λ j. position_test vertices (get_or positions j []) (j + 1)) i ≡ true

-- of n rows, r is reached over such rows
abbrev pub PlacedTo : Table → List (List Float) → ℕ → ℕ → Type 0
PlacedTo vertices positions n r = (r ≤ n) × Placed vertices positions r
