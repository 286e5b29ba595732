-- The starred corners of document 01, asked of the public calls on small tables, as one list; what they are to answer stands beside it.
use Prim.Native.String.{String}
use Rattle.std.specs.Prelude.{ℕ, List, [], ◌∷◌, map, take}
use Rattle.rules.specs.declared.Refusal.TheVariants.{Argument}
use Rattle.rules.specs.Answer.{Answer}
use Rattle.rules.specs.Answer.{Refused}
use Rattle.rules.specs.declared.Reply.{Reply}
use Rattle.rules.specs.Mesh.{Mesh, Room, source, mark, key_at, find_face}
use Rattle.rules.specs.Link.{ring}
use Rattle.rules.specs.Step.{told}
use Rattle.rules.specs.Call.{call, called, arc_by_keys}
use Rattle.rules.specs.Records.{arc_record}
use Rattle.rules.specs.Script.{Text, bytes, Line, unreadable, says, line_in, lines_of, empty_room, empty_mesh, state, after_lines}

-- ---- scripts on small tables

-- input Q
unfoldable pub script_q : Text
script_q = bytes "v 0 0 0\nv 4 0 0\nv 4 4 0\nv 0 4 0\nf 7 0 1 2\nf 7 0 2 3\nb 0 1\np 0 3 1 0\n"

-- a mesh with working room of its size
pub record Desk : Type 0 where
  pub mesh : Mesh
  pub working : Room

-- an empty one, of so many vertices, edges and faces; and after the lines of a text
unfoldable pub desk : ℕ → ℕ → ℕ → Desk
desk vertices edges faces = record { mesh = empty_mesh vertices edges faces; working = empty_room vertices edges faces }

unfoldable pub after_text : Desk → Text → Desk
after_text d text = record { mesh = (after_lines d.working (state [] d.mesh) (lines_of text)).mesh; working = d.working }

-- after the first n lines of Q, and after a quoted text, on tables of 8 vertices, 12 edges, 5 faces
unfoldable pub after_q : ℕ → Desk
after_q n = record { mesh = (after_lines (empty_room 8 12 5) (state [] (empty_mesh 8 12 5)) (take n (lines_of script_q))).mesh; working = empty_room 8 12 5 }

unfoldable pub after : String → Desk
after text = after_text (desk 8 12 5) (bytes text)

-- ---- what is asked

-- what a line answers: number, key, arc (source, destination), mark, arity
unfoldable pub numbers_of : Reply → List ℕ
numbers_of r = r.number ∷ r.key ∷ r.source ∷ r.destination ∷ r.mark ∷ r.arity ∷ []

unfoldable pub answer_of : Desk → Line → Answer
answer_of d unreadable = Refused Argument
answer_of d (says e keys) = (called d.mesh d.working d.working (call e) keys).answer

unfoldable pub ask : Desk → String → List ℕ
ask d line = numbers_of (told (answer_of d (line_in (bytes line))))

-- the mark of the face with the key k, and its ring by the keys of its arcs' sources
unfoldable pub face_of : Desk → ℕ → List ℕ
face_of d k =
    let m = d.mesh in
    mark m (find_face m k) ∷ map (λ x. key_at m.vertices (source m x)) (ring m (find_face m k))

-- next of the arc (s,d), and previous, by their vertices' keys
unfoldable pub next_of : Desk → ℕ → ℕ → List ℕ
next_of k s d = (arc_record k.mesh (arc_by_keys k.mesh s d)).next

unfoldable pub previous_of : Desk → ℕ → ℕ → List ℕ
previous_of k s d = (arc_record k.mesh (arc_by_keys k.mesh s d)).previous

-- ---- the corners

-- a lone face, and the same split
unfoldable pub lone_quad : String
lone_quad = "v 0 0 0\nv 1 0 0\nv 2 0 0\nv 3 0 0\nf 5 0 1 2 3\n"

unfoldable pub split_quad : String
split_quad = "v 0 0 0\nv 1 0 0\nv 2 0 0\nv 3 0 0\nf 5 0 1 2 3\ns 0 0 2\n"

-- a face whose half borders another face at a vertex, split: the right half is checked, and its lists are taken, before the left is in
unfoldable pub split_beside : String
split_beside = "v 0 0 0\nv 1 0 0\nv 2 0 0\nv 3 0 0\nv 4 0 0\nv 5 0 0\nf 0 3 0 4\nf 0 1 5 0 2\ns 1 1 0\n"

-- each starred corner, in its order; and last what they leave open, the right half of a split checked before the left is in
unfoldable pub starred : List (List ℕ)
starred =
    let four = after_q 4 in
    let five = after_q 5 in
    let six = after_q 6 in
    let all = after_q 8 in
    let halves = after split_quad in
    ask four "f 0"
    ∷ ask four "f 0 0 0 99"
    ∷ ask four "f 0 0 1 99"
    ∷ ask six "f 0 0 1 2"
    ∷ ask six "b 0 0"
    ∷ ask six "s 0 0 1"
    ∷ ask five "f 0 1 0 3 2"
    ∷ ask five "f 0 1 0 3"
    ∷ ask (after lone_quad) "s 0 0 2"
    ∷ face_of halves 1
    ∷ face_of halves 2
    ∷ next_of all 2 1
    ∷ previous_of all 2 1
    ∷ next_of (after split_beside) 2 0
    ∷ []

-- a triangle removed; a triangle that fills its tables of 3 vertices, 3 edges and 1 face; a mesh that an arc extrude would break
unfoldable pub removed : String
removed = "v 0 0 0\nv 1 0 0\nv 2 0 0\nf 9 0 1 2\nr 0\n"

unfoldable pub full : Desk
full = after_text (desk 3 3 1) (bytes "v 0 0 0\nv 1 0 0\nv 2 0 0\nf 9 0 1 2\n")

unfoldable pub brittle : String
brittle = "v 0 0 0\nv 4 0 0\nv 4 4 0\nv 0 4 0\nf 7 0 1 2\nf 7 0 2 3\np 1 1 3 0\n"

-- a triangle poked: its parts follow the ring's vertices, which are the arcs' destinations
unfoldable pub poked : String
poked = "v 0 0 0\nv 4 0 0\nv 0 4 0\nf 7 0 1 2\np 0 1 1 0\n"

-- working room one face row short
unfoldable pub cramped : Desk
cramped = record { mesh = empty_mesh 8 12 5; working = empty_room 8 12 4 }

-- further corners, for what the starred ones leave open
unfoldable pub further : List (List ℕ)
further =
    let six = after_q 6 in
    let filled = full in
    face_of (after poked) 1
    ∷ ask (after removed) "f 9 0 1 2"
    ∷ ask filled "f 9 0 1 2"
    ∷ ask filled "f 9 0 2 1"
    ∷ ask filled "v 0 0 0"
    ∷ ask filled "r 0"
    ∷ ask (after brittle) "a 3 2 0 0 1"
    ∷ ask six "j 0 1 2 3"
    ∷ ask six "s 0 9 1"
    ∷ ask six "x 2 0 0 1"
    ∷ ask cramped "v 0 0 0"
    ∷ ask (desk 8 12 5) "v 0 0 1000001"
    ∷ []

-- document 02's L6: three corners, of which the first and second, the last and first, or none are in one spot; and a corner in one spot with another
-- beside a face, or before a next that leads back
unfoldable pub first_two : String
first_two = "v 0 0 0\nv 0 0 0\nv 2 0 0\n"

unfoldable pub last_and_first : String
last_and_first = "v 0 0 0\nv 1 0 0\nv 0 0 0\n"

unfoldable pub one_above : String
one_above = "v 0 0 0\nv 0 0 1\nv 2 0 0\n"

unfoldable pub beside_face : String
beside_face = "v 0 0 0\nv 4 0 0\nv 4 4 0\nv 4 4 0\nf 7 0 1 2\n"

-- 13 for neighbours, across the end too; not if a coordinate differs; after 4; before an arc with a face, and before one that leads back
unfoldable pub spots : List (List ℕ)
spots =
    ask (after first_two) "f 7 0 1 2"
    ∷ ask (after last_and_first) "f 7 0 1 2"
    ∷ ask (after one_above) "f 7 0 1 2"
    ∷ ask (after first_two) "f 7 0 1 9"
    ∷ ask (after beside_face) "f 7 1 2 3"
    ∷ ask (after beside_face) "f 7 1 0 3 2"
    ∷ []
