-- Rules 2 and 6 to 9 of document 01: remove, split, poke, arc bridge, bridge. Faces, arcs and vertices are named by their links.
use Rattle.std.specs.Prelude.{ℕ, ◌+◌, ◌-◌, min, max, Bool, not, ◌&&◌, ◌||◌, cond, List, [], ◌∷◌, ◌++◌, reverse, length, get_or, take, drop, eqb, ltb}
use Rattle.rules.specs.declared.Position.{Position}
use Rattle.rules.specs.Answer.{Answer}
use Rattle.rules.specs.Answer.{Key, Arc, Mark, Done, Refused}
use Rattle.rules.specs.declared.Refusal.TheVariants.{TopologyMalformed, TopologyNotFound, TopologyConflict, ArityNonUniform}
use Rattle.rules.specs.Table.{put_row, first_row, some_below, up_to, after}
use Rattle.rules.specs.Mesh.{Mesh, mesh, source, dest, face, mark, key_at, vertex_kind, next_key}
use Rattle.rules.specs.Link.{set_face, ring, ring_vertices, free_vertex, new_vertex}
use Rattle.rules.specs.Step.{Step, step, and_then, answering, checked}
use Rattle.rules.specs.Insert.{arc_at, has_face, insert_checks, lists_of, put_face, insert_work, insert_face}

-- an unknown face or arc is 4
unfoldable pub known : ℕ → Answer
known l = cond (eqb l 0) (Refused TopologyNotFound) Done

-- ---- rule 2: remove

-- removing a face clears only the face of its ring's arcs and drops the record; arcs, edges and links stay
unfoldable pub remove : Mesh → ℕ → Mesh
remove m f =
    let m₁ = up_to (λ i a. set_face a (get_or (ring m f) i 0) 0) (length (ring m f)) m in
    mesh m₁.vertices m₁.positions m₁.arcs m₁.edges (put_row m₁.faces f (0 ∷ 0 ∷ 0 ∷ [])) m₁.counters

-- the answer is its mark
unfoldable pub remove_work : Mesh → ℕ → Step
remove_work m f = step (remove m f) (Mark (mark m f))

-- ---- rule 6: split from s to d

-- the place of x in the list plus one, or 0
unfoldable pub place : List ℕ → ℕ → ℕ
place l x = first_row (eqb x) l

-- the shorter way round from place i to place j of a ring of n
unfoldable pub ring_distance : ℕ → ℕ → ℕ → ℕ
ring_distance n i j = min (max i j - min i j) (n - (max i j - min i j))

-- the ring's vertices from place i to place j, both among them, on round the end where j is before i
unfoldable pub stretch : List ℕ → ℕ → ℕ → List ℕ
stretch vs i j = cond (ltb j i) (drop i vs ++ take (j + 1) vs) (drop i (take (j + 1) vs))

-- left runs s to d, right d to s
unfoldable pub half : Mesh → ℕ → ℕ → ℕ → List ℕ
half m f s d =
    let vs = ring_vertices m f in
    stretch vs (place vs s - 1) (place vs d - 1)

-- an arc of a half, (d,s) and (s,d) among them, held by another face
unfoldable pub held_by_other : Mesh → ℕ → List ℕ → Bool
held_by_other m f per = some_below (λ i. has_face m per i && not (eqb (face m (arc_at m per i)) f)) (length per)

-- a vertex outside the ring 4; ring distance 0 or 1 is 3; an arc of either half held by another face 5
unfoldable pub split_checks : Mesh → ℕ → ℕ → ℕ → Answer
split_checks m f s d =
    let vs = ring_vertices m f in
    cond (eqb f 0) (Refused TopologyNotFound)
    (cond (eqb (place vs s) 0 || eqb (place vs d) 0) (Refused TopologyNotFound)
    (cond (ltb (ring_distance (length vs) (place vs s - 1) (place vs d - 1)) 2) (Refused TopologyMalformed)
    (cond (held_by_other m f (half m f s d) || held_by_other m f (half m f d s)) (Refused TopologyConflict) Done)))

-- both halves are checked after removal, with the lists of both as they are then; left is put in first. The answer is arc (s,d). Both marks are 0
unfoldable pub split_work : Mesh → ℕ → ℕ → ℕ → Step
split_work m f s d =
    let left = half m f s d in
    let right = half m f d s in
    let m₁ = remove m f in
    let m₂ = put_face m₁ left (lists_of m₁ left) 0 in
    let m₃ = put_face m₂ right (lists_of m₁ right) 0 in
    checked m₁ (insert_checks m₁ left left)
    (checked m₁ (insert_checks m₁ right right)
    (step m₃ (Arc (key_at m.vertices s) (key_at m.vertices d))))

unfoldable pub split : Mesh → ℕ → ℕ → ℕ → Step
split m f s d = checked m (split_checks m f s d) (split_work m f s d)

-- ---- rule 7: poke

-- remove, new vertex c, then (a, b, c) for each ring pair. Marks are copied; the answer is c
unfoldable pub poke_work : Mesh → ℕ → Position → Step
poke_work m f p =
    let vs = ring_vertices m f in
    let n = length vs in
    let m₁ = remove m f in
    let c = free_vertex m₁ in
    let start = step (new_vertex m₁ p) Done in
    answering (Key (next_key m vertex_kind))
    (up_to (λ i s. and_then s (λ a. insert_face a (get_or vs i 0 ∷ get_or vs (after n i) 0 ∷ c ∷ []) (mark m f))) n start)

-- ---- rule 8: arc bridge

-- the four corners (a,b,c,d) stand together as one value
unfoldable pub corners : Mesh → ℕ → ℕ → List ℕ
corners m x y = source m x ∷ dest m x ∷ source m y ∷ dest m y ∷ []

-- unknown arcs 4; an existing arc among their pairs that has a face, 5; then the checks of insert
unfoldable pub arc_bridge_checks : Mesh → ℕ → ℕ → Answer
arc_bridge_checks m x y =
    let per = corners m x y in
    cond (eqb x 0 || eqb y 0) (Refused TopologyNotFound)
    (cond (some_below (has_face m per) (length per)) (Refused TopologyConflict) (insert_checks m per per))

-- then insert with mark 0
unfoldable pub arc_bridge_work : Mesh → ℕ → ℕ → Step
arc_bridge_work m x y = insert_work m (corners m x y) 0

unfoldable pub arc_bridge : Mesh → ℕ → ℕ → Step
arc_bridge m x y = checked m (arc_bridge_checks m x y) (arc_bridge_work m x y)

-- ---- rule 9: bridge

-- destination lookup, then arity, 6; bridge of a face with itself is 4, after 6
unfoldable pub bridge_checks : Mesh → ℕ → ℕ → Answer
bridge_checks m f g =
    cond (eqb f 0) (Refused TopologyNotFound)
    (cond (eqb g 0) (Refused TopologyNotFound)
    (cond (not (eqb (length (ring m f)) (length (ring m g)))) (Refused ArityNonUniform)
    (cond (eqb f g) (Refused TopologyNotFound) Done)))

-- remove both; pair source arcs in order with destination arcs reversed; arc bridge each pair; the answer is key 0
unfoldable pub bridge_work : Mesh → ℕ → ℕ → Step
bridge_work m f g =
    let forth = ring m f in
    let back = reverse (ring m g) in
    let start = step (remove (remove m f) g) Done in
    answering (Key 0)
    (up_to (λ i s. and_then s (λ a. arc_bridge a (get_or forth i 0) (get_or back i 0))) (length forth) start)
