-- "Sound means": one definition for each phrase of that paragraph of document 01, in its order, and the limits.
use Rattle.std.specs.Prelude.{ℕ, ◌-◌, ◌*◌, Bool, true, false, not, ◌&&◌, ◌||◌, cond, List, [], ◌∷◌, map, length, get_or, T, eqb, ltb, leb}
use Rattle.rules.specs.declared.Ended.{Ended}
use Rattle.rules.specs.declared.Ended.TheVariants.{Closed, Open, Cut}
use Rattle.rules.specs.Table.{Table, every, each_link, each_used, there, unused, used, has, distinct}
use Rattle.rules.specs.Mesh.{Mesh, vertex_limit, edge_limit, face_limit, ring_limit, source, dest, next, previous, face, edge, leading, edge_arc, edge_other, face_arc, key_of, find_arc, vertex_kind, edge_kind, face_kind, next_key}
use Rattle.rules.specs.Point.{finite_row, zero_position_row}
use Rattle.rules.specs.Link.{ring, ring_ended}

-- ---- sizes

-- at most 4,096 vertices with as many positions, 8,192 edges, 4,096 faces, and exactly two arc rows for each edge row
unfoldable pub within_limits : Mesh → Bool
within_limits m =
    leb (length m.vertices) vertex_limit
    && (eqb (length m.positions) (length m.vertices)
    && (leb (length m.edges) edge_limit
    && (eqb (length m.arcs) (2 * length m.edges)
    && leb (length m.faces) face_limit)))

-- ---- keys

-- the keys of a table's used rows
unfoldable pub keys_of : Table → List ℕ
keys_of [] = []
keys_of (r ∷ rs) = let rest = keys_of rs in cond (unused r) rest (key_of r ∷ rest)

-- keys in a table differ
unfoldable pub keys_differ : Mesh → Bool
keys_differ m = distinct (keys_of m.vertices) && (distinct (keys_of m.edges) && distinct (keys_of m.faces))

-- and lie below that kind's counter
unfoldable pub keys_below : Mesh → Bool
keys_below m =
    every (λ k. ltb k (next_key m vertex_kind)) (keys_of m.vertices)
    && (every (λ k. ltb k (next_key m edge_kind)) (keys_of m.edges)
    && every (λ k. ltb k (next_key m face_kind)) (keys_of m.faces))

-- ---- edges and arcs

-- a phrase that holds unless the link is none
abbrev pub unless_none : ℕ → Bool → Bool
unless_none l b = eqb l 0 || b

-- each edge has both arcs: the two that it names are there, hold it, and are each other's ends swapped
unfoldable pub has_both_arcs : Mesh → ℕ → Bool
has_both_arcs m e =
    let x = edge_arc m e in
    let y = edge_other m e in
    there m.arcs x
    && (there m.arcs y
    && (eqb (edge m x) e && (eqb (edge m y) e && (eqb (source m x) (dest m y) && eqb (dest m x) (source m y)))))

unfoldable pub both_arcs : Mesh → Bool
both_arcs m = each_used (has_both_arcs m) m.edges

-- its ends differ
unfoldable pub ends_differ : Mesh → Bool
ends_differ m = each_used (λ x. not (eqb (source m x) (dest m x))) m.arcs

-- and exist
unfoldable pub ends_exist : Mesh → Bool
ends_exist m = each_used (λ x. there m.vertices (source m x) && there m.vertices (dest m x)) m.arcs

-- and no two edges join the same pair: each arc is the first with its ends
unfoldable pub pairs_differ : Mesh → Bool
pairs_differ m = each_used (λ x. eqb (find_arc m (source m x) (dest m x)) x) m.arcs

-- each arc's edge joins its ends: the arc is one of the two that its edge names
unfoldable pub edge_joins : Mesh → Bool
edge_joins m =
    each_used (λ x. there m.edges (edge m x) && (eqb (edge_arc m (edge m x)) x || eqb (edge_other m (edge m x)) x)) m.arcs

-- ---- links

-- a leading arc, unless none, exists and leaves its vertex
unfoldable pub leads_out : Mesh → Bool
leads_out m =
    each_used (λ v. unless_none (leading m v) (there m.arcs (leading m v) && eqb (source m (leading m v)) v)) m.vertices

-- next of (a,b), unless none, exists and leaves b
unfoldable pub next_leaves : Mesh → Bool
next_leaves m = each_used (λ x. unless_none (next m x) (there m.arcs (next m x) && eqb (source m (next m x)) (dest m x))) m.arcs

-- previous, unless none, exists and arrives at a
unfoldable pub previous_arrives : Mesh → Bool
previous_arrives m =
    each_used (λ x. unless_none (previous m x) (there m.arcs (previous m x) && eqb (dest m (previous m x)) (source m x))) m.arcs

-- an arc's face, unless none, exists
unfoldable pub face_exists : Mesh → Bool
face_exists m = each_used (λ x. unless_none (face m x) (there m.faces (face m x))) m.arcs

-- ---- rings

-- a face's record names an arc that holds it
unfoldable pub names_holder : Mesh → ℕ → Bool
names_holder m f = there m.arcs (face_arc m f) && eqb (face m (face_arc m f)) f

-- next from there returns
unfoldable pub closed : Ended → Bool
closed Closed = true
closed Open = false
closed Cut = false

unfoldable pub comes_back : Mesh → ℕ → Bool
comes_back m f = closed (ring_ended m f)

-- after 3 to 64 arcs
unfoldable pub three_to_limit : Mesh → ℕ → Bool
three_to_limit m f = leb 3 (length (ring m f)) && leb (length (ring m f)) ring_limit

-- with distinct sources
unfoldable pub sources_differ : Mesh → ℕ → Bool
sources_differ m f = distinct (map (source m) (ring m f))

-- which are all the arcs that hold that face: each of them holds it, and each that holds it is among them
unfoldable pub ring_holds : Mesh → ℕ → Bool
ring_holds m f = every (λ x. there m.arcs x && eqb (face m x) f) (ring m f)

unfoldable pub holders_on_ring : Mesh → ℕ → Bool
holders_on_ring m f = each_used (λ x. not (eqb (face m x) f) || has (ring m f) x) m.arcs

-- and previous runs them backwards
unfoldable pub runs_back : Mesh → ℕ → Bool
runs_back m f = every (λ x. eqb (previous m (next m x)) x) (ring m f)

unfoldable pub ring_sound : Mesh → ℕ → Bool
ring_sound m f =
    names_holder m f
    && (comes_back m f && (three_to_limit m f && (sources_differ m f && (ring_holds m f && (holders_on_ring m f && runs_back m f)))))

unfoldable pub rings_sound : Mesh → Bool
rings_sound m = each_used (ring_sound m) m.faces

-- ---- rows

-- unused rows are zero, the position in an unused vertex's row too, by bits
abbrev pub zero_row : List ℕ → Bool
zero_row r = every (eqb 0) r

abbrev pub unused_zero : Table → Bool
unused_zero t = every (λ r. used r || zero_row r) t

unfoldable pub positions_zero : Mesh → Bool
positions_zero m = each_link (λ v. there m.vertices v || zero_position_row (get_or m.positions (v - 1) [])) m.positions

unfoldable pub rest_zero : Mesh → Bool
rest_zero m =
    unused_zero m.vertices && (unused_zero m.arcs && (unused_zero m.edges && (unused_zero m.faces && positions_zero m)))

-- every coordinate is finite
unfoldable pub all_finite : Mesh → Bool
all_finite m = every finite_row m.positions

-- ---- all of them

-- by name
pub record Sound (m : Mesh) : Type 0 where
  pub within-limits : T (within_limits m)
  pub keys-differ : T (keys_differ m)
  pub keys_below : T (keys_below m)
  pub both-arcs : T (both_arcs m)
  pub ends-differ : T (ends_differ m)
  pub ends-exist : T (ends_exist m)
  pub pairs-differ : T (pairs_differ m)
  pub edge-joins : T (edge_joins m)
  pub leads-out : T (leads_out m)
  pub next-leaves : T (next_leaves m)
  pub previous-arrives : T (previous_arrives m)
  pub face-exists : T (face_exists m)
  pub rings-sound : T (rings_sound m)
  pub rest-zero : T (rest_zero m)
  pub all-finite : T (all_finite m)

-- as one test
unfoldable pub sound : Mesh → Bool
sound m =
    within_limits m
    && (keys_differ m
    && (keys_below m
    && (both_arcs m
    && (ends_differ m
    && (ends_exist m
    && (pairs_differ m
    && (edge_joins m
    && (leads_out m
    && (next_leaves m
    && (previous_arrives m
    && (face_exists m
    && (rings_sound m
    && (rest_zero m
    && all_finite m)))))))))))))
