-- Rule 5 of document 01: face insert. A perimeter is a list of vertices by their links, 0 where a key is unknown.
use Rattle.std.specs.Prelude.{ℕ, Bool, not, ◌&&◌, ◌||◌, cond, List, [], ◌∷◌, map, length, get_or, eqb, ltb}
use Rattle.rules.specs.Answer.{Answer}
use Rattle.rules.specs.Answer.{Key, Done, Refused}
use Rattle.rules.specs.declared.Refusal.TheVariants.{TopologyMalformed, TopologyNotFound, TopologyConflict, SamePlace}
use Rattle.rules.specs.Table.{Table, cell, put_row, free_row, some_below, up_to, after, or_else, has, distinct}
use Rattle.rules.specs.Mesh.{Mesh, mesh, dest, next, previous, face, opposite, find_arc, face_kind, next_key, one_up, counted}
use Rattle.rules.specs.Point.{position_at, same_place}
use Rattle.rules.specs.Link.{connect, set_face, outgoing, get_or_insert_edge}
use Rattle.rules.specs.Step.{Step, step, checked}

-- pair i of the perimeter runs from its vertex i to the one after; its arc, or none
unfoldable pub arc_at : Mesh → List ℕ → ℕ → ℕ
arc_at m per i = find_arc m (get_or per i 0) (get_or per (after (length per) i) 0)

-- ---- the checks

-- fewer than three keys, or duplicates
unfoldable pub malformed : List ℕ → Bool
malformed keys = ltb (length keys) 3 || not (distinct keys)

-- a key and the one after it at equal positions
unfoldable pub in_one_spot : Mesh → List ℕ → ℕ → Bool
in_one_spot m per i = same_place (position_at m.positions (get_or per i 0)) (position_at m.positions (get_or per (after (length per) i) 0))

-- some pair of the perimeter, the last and first too
unfoldable pub has_hair : Mesh → List ℕ → Bool
has_hair m per = some_below (in_one_spot m per) (length per)

-- an existing arc with a face
unfoldable pub has_face : Mesh → List ℕ → ℕ → Bool
has_face m per i = not (eqb (arc_at m per i) 0) && not (eqb (face m (arc_at m per i)) 0)

-- an existing arc whose follower is absent, and whose next leads to a vertex of the perimeter
unfoldable pub leads_back : Mesh → List ℕ → ℕ → Bool
leads_back m per i =
    let x = arc_at m per i in
    not (eqb x 0) && (eqb (arc_at m per (after (length per) i)) 0 && (not (eqb (next m x) 0) && has per (dest m (next m x))))

unfoldable pub conflict : Mesh → List ℕ → Bool
conflict m per = some_below (λ i. has_face m per i || leads_back m per i) (length per)

-- 3 before any lookup; unknown vertex 4; a key and the one after it in one spot 13; then perimeter pairs in order, 5. What names the vertices is a
-- list of keys or of links
unfoldable pub insert_checks : Mesh → List ℕ → List ℕ → Answer
insert_checks m names per =
    cond (malformed names) (Refused TopologyMalformed)
    (cond (has per 0) (Refused TopologyNotFound)
    (cond (has_hair m per) (Refused SamePlace)
    (cond (conflict m per) (Refused TopologyConflict) Done)))

-- ---- the insert

-- the edges
unfoldable pub edges_in : List ℕ → Mesh → Mesh
edges_in per m = up_to (λ i a. get_or_insert_edge a (get_or per i 0) (get_or per (after (length per) i) 0)) (length per) m

-- the face's record with its arc and mark, in the lowest unused row
unfoldable pub new_face : Mesh → ℕ → ℕ → Mesh
new_face m x mark =
    mesh m.vertices m.positions m.arcs m.edges (put_row m.faces (free_row m.faces) (one_up (next_key m face_kind) ∷ x ∷ mark ∷ [])) (counted m.counters face_kind)

-- the interior: link, then face, arc by arc
unfoldable pub interior : List ℕ → ℕ → Mesh → Mesh
interior per f m =
    up_to (λ i a. set_face (connect a (arc_at a per i) (arc_at a per (after (length per) i))) (arc_at a per i) f) (length per) m

-- the first arc of the list that has no face now, or none
unfoldable pub faceless_in : Table → List ℕ → ℕ
faceless_in arcs [] = 0
faceless_in arcs (x ∷ xs) = let later = faceless_in arcs xs in cond (eqb (cell arcs x 4) 0) x later

abbrev pub first_faceless : Mesh → List ℕ → ℕ
first_faceless m l = faceless_in m.arcs l

-- the exterior of pair i, (a,b), if its opposite has no face. The opposite's next is the first arc in a's outgoing list that has no face now,
-- or else the opposite of previous of (a,b); its previous likewise from b's incoming list, or else the opposite of next of (a,b).
-- The lists are those taken before the edges were in
unfoldable pub exterior_at : List ℕ → List (List ℕ) → ℕ → Mesh → Mesh
exterior_at per lists i m =
    let x = arc_at m per i in
    let o = opposite m x in
    let after-o = or_else (first_faceless m (get_or lists i [])) (opposite m (previous m x)) in
    let before-o = or_else (first_faceless m (map (opposite m) (get_or lists (after (length per) i) []))) (opposite m (next m x)) in
    cond (eqb (face m o) 0) (connect (connect m o after-o) before-o o) m

unfoldable pub exterior : List ℕ → List (List ℕ) → Mesh → Mesh
exterior per lists m = up_to (exterior_at per lists) (length per) m

-- the edges, the face with the first perimeter arc, the interior, then the exterior
unfoldable pub put_face : Mesh → List ℕ → List (List ℕ) → ℕ → Mesh
put_face m per lists mark =
    let m₁ = edges_in per m in
    let f = free_row m₁.faces in
    exterior per lists (interior per f (new_face m₁ (arc_at m₁ per 0) mark))

-- lists of all perimeter vertices, as they are now
unfoldable pub lists_of : Mesh → List ℕ → List (List ℕ)
lists_of m per = map (outgoing m) per

-- the insert of a perimeter that the checks let pass; the answer is the face
unfoldable pub insert_work : Mesh → List ℕ → ℕ → Step
insert_work m per mark = step (put_face m per (lists_of m per) mark) (Key (next_key m face_kind))

unfoldable pub insert_face : Mesh → List ℕ → ℕ → Step
insert_face m per mark = checked m (insert_checks m per per) (insert_work m per mark)
