-- What each call answers where the corners of document 01 leave it open: each refusal of each edit, each need met exactly and missed by one row,
-- and lines that can and cannot be read. What is not ours to answer (2, 7, fewer than three keys) is what the Rust answers.
use Prim.Native.String.{String}
use Rattle.std.specs.Prelude.{ℕ, List, [], ◌∷◌}
use Rattle.std.specs.Float.{binary64}
use Rattle.std.specs.Float.Ieee.{of_bits}
use Rattle.rules.specs.declared.Reply.{Reply}
use Rattle.rules.specs.Mesh.{Mesh, mesh}
use Rattle.rules.specs.Point.{position, zero_float}
use Rattle.rules.specs.Step.{told}
use Rattle.rules.specs.Call.{check_mesh, vertex_insert, face_insert}
use Rattle.rules.specs.Script.{bytes, empty_room, empty_mesh}
use Rattle.rules.specs.Corners.{desk, after_text, ask}

-- a line asked after a script on tables of so many vertices, edges and faces, and its answer
pub record Ask : Type 0 where
  pub vertices : ℕ
  pub edges : ℕ
  pub faces : ℕ
  pub script : String
  pub line : String
  pub answer : List ℕ

abbrev pub asks : ℕ → ℕ → ℕ → String → String → List ℕ → Ask
asks v e f s l a = record { vertices = v; edges = e; faces = f; script = s; line = l; answer = a }

unfoldable pub answered : List Ask → List (List ℕ)
answered [] = []
answered (q ∷ qs) = ask (after_text (desk q.vertices q.edges q.faces) (bytes q.script)) q.line ∷ answered qs

unfoldable pub answers : List Ask → List (List ℕ)
answers [] = []
answers (q ∷ qs) = q.answer ∷ answers qs

-- number, key, arc, mark, arity
abbrev pub refused_with : ℕ → List ℕ
refused_with n = n ∷ 0 ∷ 0 ∷ 0 ∷ 0 ∷ 0 ∷ []

abbrev pub key_is : ℕ → List ℕ
key_is k = 0 ∷ k ∷ 0 ∷ 0 ∷ 0 ∷ 0 ∷ []

abbrev pub arc_is : ℕ → ℕ → List ℕ
arc_is s d = 0 ∷ 0 ∷ s ∷ d ∷ 0 ∷ 0 ∷ []

abbrev pub mark_is : ℕ → List ℕ
mark_is n = 0 ∷ 0 ∷ 0 ∷ 0 ∷ n ∷ 0 ∷ []

-- bridge: 6; unknown faces 4; the need met, one edge short, one face short
unfoldable pub bridges : List Ask
bridges =
    asks 7 8 3 "v 0 0 0\nv 1 0 0\nv 2 0 0\nv 3 0 0\nv 4 0 0\nv 5 0 0\nv 6 0 0\nf 1 0 1 2\nf 2 3 4 5 6\n" "b 0 1" (refused_with 6)
    ∷ asks 6 9 3 "v 0 0 0\nv 1 0 0\nv 2 0 0\nv 3 0 0\nv 4 0 0\nv 5 0 0\nf 1 0 1 2\nf 2 3 4 5\n" "b 0 7" (refused_with 4)
    ∷ asks 6 9 3 "v 0 0 0\nv 1 0 0\nv 2 0 0\nv 3 0 0\nv 4 0 0\nv 5 0 0\nf 1 0 1 2\nf 2 3 4 5\n" "b 7 0" (refused_with 4)
    ∷ asks 6 9 3 "v 0 0 0\nv 1 0 0\nv 2 0 0\nv 3 0 0\nv 4 0 0\nv 5 0 0\nf 1 0 1 2\nf 2 3 4 5\n" "b 0 1" (key_is 0)
    ∷ asks 6 8 3 "v 0 0 0\nv 1 0 0\nv 2 0 0\nv 3 0 0\nv 4 0 0\nv 5 0 0\nf 1 0 1 2\nf 2 3 4 5\n" "b 0 1" (refused_with 7)
    ∷ asks 6 9 2 "v 0 0 0\nv 1 0 0\nv 2 0 0\nv 3 0 0\nv 4 0 0\nv 5 0 0\nf 1 0 1 2\nf 2 3 4 5\n" "b 0 1" (refused_with 7)
    ∷ []

-- split: an arc of a half held by another face 5; distance 0 and 1, either way round, 3; unknown 4; the need met, an edge short, a face short
unfoldable pub splits : List Ask
splits =
    asks 5 7 3 "v 0 0 0\nv 1 0 0\nv 2 0 0\nv 3 0 0\nv 4 0 0\nf 5 0 1 2 3\nf 6 0 2 4\n" "s 0 0 2" (refused_with 5)
    ∷ asks 4 5 2 "v 0 0 0\nv 1 0 0\nv 2 0 0\nv 3 0 0\nf 5 0 1 2 3\n" "s 0 0 3" (refused_with 3)
    ∷ asks 4 5 2 "v 0 0 0\nv 1 0 0\nv 2 0 0\nv 3 0 0\nf 5 0 1 2 3\n" "s 0 3 0" (refused_with 3)
    ∷ asks 4 5 2 "v 0 0 0\nv 1 0 0\nv 2 0 0\nv 3 0 0\nf 5 0 1 2 3\n" "s 0 0 0" (refused_with 3)
    ∷ asks 4 5 2 "v 0 0 0\nv 1 0 0\nv 2 0 0\nv 3 0 0\nf 5 0 1 2 3\n" "s 0 0 9" (refused_with 4)
    ∷ asks 4 5 2 "v 0 0 0\nv 1 0 0\nv 2 0 0\nv 3 0 0\nf 5 0 1 2 3\n" "s 9 0 1" (refused_with 4)
    ∷ asks 4 5 2 "v 0 0 0\nv 1 0 0\nv 2 0 0\nv 3 0 0\nf 5 0 1 2 3\n" "s 0 1 3" (arc_is 1 3)
    ∷ asks 4 4 2 "v 0 0 0\nv 1 0 0\nv 2 0 0\nv 3 0 0\nf 5 0 1 2 3\n" "s 0 1 3" (refused_with 7)
    ∷ asks 4 5 1 "v 0 0 0\nv 1 0 0\nv 2 0 0\nv 3 0 0\nf 5 0 1 2 3\n" "s 0 1 3" (refused_with 7)
    ∷ []

-- arc bridge: a pair with a face 5, before corners that are shared, 3; unknown 4; the need
unfoldable pub arc_bridges : List Ask
arc_bridges =
    asks 3 3 1 "v 0 0 0\nv 1 0 0\nv 2 0 0\nf 7 0 1 2\n" "j 0 1 1 2" (refused_with 5)
    ∷ asks 3 3 1 "v 0 0 0\nv 1 0 0\nv 2 0 0\nf 7 0 1 2\nr 0\n" "j 0 1 1 2" (refused_with 3)
    ∷ asks 6 8 3 "v 0 0 0\nv 1 0 0\nv 2 0 0\nv 3 0 0\nv 4 0 0\nv 5 0 0\nf 1 0 1 2\nf 2 3 4 5\n" "j 0 9 1 2" (refused_with 4)
    ∷ asks 6 8 3 "v 0 0 0\nv 1 0 0\nv 2 0 0\nv 3 0 0\nv 4 0 0\nv 5 0 0\nf 1 0 1 2\nf 2 3 4 5\n" "j 1 0 4 3" (key_is 2)
    ∷ asks 6 7 3 "v 0 0 0\nv 1 0 0\nv 2 0 0\nv 3 0 0\nv 4 0 0\nv 5 0 0\nf 1 0 1 2\nf 2 3 4 5\n" "j 1 0 4 3" (refused_with 7)
    ∷ asks 6 8 2 "v 0 0 0\nv 1 0 0\nv 2 0 0\nv 3 0 0\nv 4 0 0\nv 5 0 0\nf 1 0 1 2\nf 2 3 4 5\n" "j 1 0 4 3" (refused_with 7)
    ∷ []

-- arc extrude: unknown 4; with a face 5; the need, and one vertex, edge, face short
unfoldable pub arc_extrudes : List Ask
arc_extrudes =
    asks 5 6 2 "v 0 0 0\nv 1 0 0\nv 2 0 0\nf 7 0 1 2\n" "a 0 9 0 0 1" (refused_with 4)
    ∷ asks 5 6 2 "v 0 0 0\nv 1 0 0\nv 2 0 0\nf 7 0 1 2\n" "a 0 1 0 0 1" (refused_with 5)
    ∷ asks 5 6 2 "v 0 0 0\nv 1 0 0\nv 2 0 0\nf 7 0 1 2\n" "a 1 0 0 0 1" (arc_is 3 4)
    ∷ asks 4 6 2 "v 0 0 0\nv 1 0 0\nv 2 0 0\nf 7 0 1 2\n" "a 1 0 0 0 1" (refused_with 7)
    ∷ asks 5 5 2 "v 0 0 0\nv 1 0 0\nv 2 0 0\nf 7 0 1 2\n" "a 1 0 0 0 1" (refused_with 7)
    ∷ asks 5 6 1 "v 0 0 0\nv 1 0 0\nv 2 0 0\nf 7 0 1 2\n" "a 1 0 0 0 1" (refused_with 7)
    ∷ []

-- extrude: unknown 4; the need, and one short of each
unfoldable pub extrudes : List Ask
extrudes =
    asks 6 9 4 "v 0 0 0\nv 1 0 0\nv 2 0 0\nf 7 0 1 2\n" "x 3 0 0 1" (refused_with 4)
    ∷ asks 6 9 4 "v 0 0 0\nv 1 0 0\nv 2 0 0\nf 7 0 1 2\n" "x 0 0 0 1" (key_is 1)
    ∷ asks 5 9 4 "v 0 0 0\nv 1 0 0\nv 2 0 0\nf 7 0 1 2\n" "x 0 0 0 1" (refused_with 7)
    ∷ asks 6 8 4 "v 0 0 0\nv 1 0 0\nv 2 0 0\nf 7 0 1 2\n" "x 0 0 0 1" (refused_with 7)
    ∷ asks 6 9 3 "v 0 0 0\nv 1 0 0\nv 2 0 0\nf 7 0 1 2\n" "x 0 0 0 1" (refused_with 7)
    ∷ []

-- poke: unknown 4; the need, and one short of each
unfoldable pub pokes : List Ask
pokes =
    asks 4 6 3 "v 0 0 0\nv 1 0 0\nv 2 0 0\nf 7 0 1 2\n" "p 3 0 0 1" (refused_with 4)
    ∷ asks 4 6 3 "v 0 0 0\nv 1 0 0\nv 2 0 0\nf 7 0 1 2\n" "p 0 0 0 1" (key_is 3)
    ∷ asks 3 6 3 "v 0 0 0\nv 1 0 0\nv 2 0 0\nf 7 0 1 2\n" "p 0 0 0 1" (refused_with 7)
    ∷ asks 4 5 3 "v 0 0 0\nv 1 0 0\nv 2 0 0\nf 7 0 1 2\n" "p 0 0 0 1" (refused_with 7)
    ∷ asks 4 6 2 "v 0 0 0\nv 1 0 0\nv 2 0 0\nf 7 0 1 2\n" "p 0 0 0 1" (refused_with 7)
    ∷ []

-- vertex and face insert: the need, and one short; fewer than three keys 3
unfoldable pub inserts : List Ask
inserts =
    asks 3 3 1 "v 0 0 0\nv 1 0 0\nv 2 0 0\n" "f 7 0 1 2" (key_is 0)
    ∷ asks 3 2 1 "v 0 0 0\nv 1 0 0\nv 2 0 0\n" "f 7 0 1 2" (refused_with 7)
    ∷ asks 3 3 0 "v 0 0 0\nv 1 0 0\nv 2 0 0\n" "f 7 0 1 2" (refused_with 7)
    ∷ asks 3 3 1 "v 0 0 0\nv 1 0 0\nv 2 0 0\n" "f 0 0 1" (refused_with 3)
    ∷ asks 1 0 0 "" "v 0 0 0" (key_is 0)
    ∷ asks 1 0 0 "v 0 0 0\n" "v 0 0 0" (refused_with 7)
    ∷ []

-- two neighbours in one spot (document 02, L6): 13, across the end too; not where they are no neighbours, nor where one coordinate differs; after 3
-- and after 4; before an arc with a face and before an arc that leads back, 5
unfoldable pub hairs : List Ask
hairs =
    asks 3 3 1 "v 0 0 0\nv 0 0 0\nv 2 0 0\n" "f 1 0 1 2" (refused_with 13)
    ∷ asks 3 3 1 "v 0 0 0\nv 1 0 0\nv 0 0 0\n" "f 1 0 1 2" (refused_with 13)
    ∷ asks 4 4 1 "v 0 0 0\nv 1 0 0\nv 0 0 0\nv 2 0 0\n" "f 1 0 1 2 3" (key_is 0)
    ∷ asks 3 3 1 "v 0 0 0\nv 0 0 1\nv 2 0 0\n" "f 1 0 1 2" (key_is 0)
    ∷ asks 3 3 1 "v 0 0 0\nv 0 0 0\nv 2 0 0\n" "f 1 0 1 0" (refused_with 3)
    ∷ asks 3 3 1 "v 0 0 0\nv 0 0 0\nv 2 0 0\n" "f 1 0 1 9" (refused_with 4)
    ∷ asks 4 5 2 "v 0 0 0\nv 1 0 0\nv 2 0 0\nv 1 0 0\nf 7 0 1 2\n" "f 1 0 1 3" (refused_with 13)
    ∷ asks 4 5 2 "v 0 0 0\nv 4 0 0\nv 4 4 0\nv 4 4 0\nf 7 0 1 2\n" "f 0 1 0 3 2" (refused_with 13)
    ∷ []

-- and of the edits that insert faces: a split whose new seam would be a hair, after 7; a poke at a corner; an arc bridge, after its own 5; an extrude
-- and an arc extrude by a zero shift, after 7
unfoldable pub hairs_in_mid_edit : List Ask
hairs_in_mid_edit =
    asks 4 5 2 "v 0 0 0\nv 1 0 0\nv 0 0 0\nv 2 0 0\nf 5 0 1 2 3\n" "s 0 0 2" (refused_with 13)
    ∷ asks 4 4 2 "v 0 0 0\nv 1 0 0\nv 0 0 0\nv 2 0 0\nf 5 0 1 2 3\n" "s 0 0 2" (refused_with 7)
    ∷ asks 4 6 3 "v 0 0 0\nv 1 0 0\nv 2 0 0\nf 7 0 1 2\n" "p 0 1 0 0" (refused_with 13)
    ∷ asks 6 8 3 "v 0 0 0\nv 1 0 0\nv 2 0 0\nv 3 0 0\nv 0 0 0\nv 5 0 0\nf 1 0 1 2\nf 2 3 4 5\n" "j 1 0 4 3" (refused_with 13)
    ∷ asks 6 8 3 "v 0 0 0\nv 1 0 0\nv 2 0 0\nv 3 0 0\nv 0 0 0\nv 5 0 0\nf 1 0 1 2\nf 2 3 4 5\n" "j 0 1 4 3" (refused_with 5)
    ∷ asks 6 9 4 "v 0 0 0\nv 1 0 0\nv 2 0 0\nf 7 0 1 2\n" "x 0 0 0 0" (refused_with 13)
    ∷ asks 5 9 4 "v 0 0 0\nv 1 0 0\nv 2 0 0\nf 7 0 1 2\n" "x 0 0 0 0" (refused_with 7)
    ∷ asks 5 6 2 "v 0 0 0\nv 1 0 0\nv 2 0 0\nf 7 0 1 2\n" "a 1 0 0 0 0" (refused_with 13)
    ∷ asks 4 6 2 "v 0 0 0\nv 1 0 0\nv 2 0 0\nf 7 0 1 2\n" "a 1 0 0 0 0" (refused_with 7)
    ∷ []

-- remove: its mark, on full tables; unknown 4
unfoldable pub removes : List Ask
removes =
    asks 3 3 1 "v 0 0 0\nv 1 0 0\nv 2 0 0\nf 7 0 1 2\n" "r 0" (mark_is 7)
    ∷ asks 3 3 1 "v 0 0 0\nv 1 0 0\nv 2 0 0\nf 7 0 1 2\n" "r 1" (refused_with 4)
    ∷ []

-- 65 keys 2; 64 keys are looked up
unfoldable pub many_keys : List Ask
many_keys =
    asks 1 0 0 "" "f 0 0 1 2 3 4 5 6 7 8 9 10 11 12 13 14 15 16 17 18 19 20 21 22 23 24 25 26 27 28 29 30 31 32 33 34 35 36 37 38 39 40 41 42 43 44 45 46 47 48 49 50 51 52 53 54 55 56 57 58 59 60 61 62 63 64" (refused_with 2)
    ∷ asks 1 0 0 "" "f 0 0 1 2 3 4 5 6 7 8 9 10 11 12 13 14 15 16 17 18 19 20 21 22 23 24 25 26 27 28 29 30 31 32 33 34 35 36 37 38 39 40 41 42 43 44 45 46 47 48 49 50 51 52 53 54 55 56 57 58 59 60 61 62 63" (refused_with 4)
    ∷ []

-- numbers are u32; no minus before a key
unfoldable pub numbers : List Ask
numbers =
    asks 1 0 0 "" "r 4294967295" (refused_with 4)
    ∷ asks 1 0 0 "" "r 4294967296" (refused_with 2)
    ∷ asks 1 0 0 "" "r -1" (refused_with 2)
    ∷ asks 1 0 0 "" "r" (refused_with 2)
    ∷ asks 1 0 0 "" "r 1 2" (refused_with 2)
    ∷ []

-- lines that can and cannot be read: signs, spaces, the range, leading zeros, 512 and 513 bytes
unfoldable pub lines : List Ask
lines =
    asks 1 0 0 "" "v -0 0 0" (key_is 0)
    ∷ asks 1 0 0 "" "v +1 0 0" (refused_with 2)
    ∷ asks 1 0 0 "" "v 1  0 0" (refused_with 2)
    ∷ asks 1 0 0 "" " v 0 0 0" (refused_with 2)
    ∷ asks 1 0 0 "" "v 0 0 0 " (refused_with 2)
    ∷ asks 1 0 0 "" "" (refused_with 2)
    ∷ asks 1 0 0 "" "v 0 0" (refused_with 2)
    ∷ asks 1 0 0 "" "v 1000000 -1000000 0" (key_is 0)
    ∷ asks 1 0 0 "" "v 0 0 -1000001" (refused_with 2)
    ∷ asks 1 0 0 "" "v 0000000000000001 0 0" (key_is 0)
    ∷ asks 1 0 0 "" "v - 0 0" (refused_with 2)
    ∷ asks 1 0 0 "" "w 0 0 0" (refused_with 2)
    ∷ asks 1 0 0 "" "vv 0 0 0" (refused_with 2)
    ∷ asks 1 0 0 "" "f" (refused_with 2)
    ∷ asks 1 0 0 "" "f 7" (refused_with 3)
    ∷ asks 1 0 0 "" "v 00000000000000000000000000000000000000000000000000000000000000000000000000000000000000000000000000000000000000000000000000000000000000000000000000000000000000000000000000000000000000000000000000000000000000000000000000000000000000000000000000000000000000000000000000000000000000000000000000000000000000000000000000000000000000000000000000000000000000000000000000000000000000000000000000000000000000000000000000000000000000000000000000000000000000000000000000000000000000000000000000000000000000000000000000 0 0" (key_is 0)
    ∷ asks 1 0 0 "" "v 000000000000000000000000000000000000000000000000000000000000000000000000000000000000000000000000000000000000000000000000000000000000000000000000000000000000000000000000000000000000000000000000000000000000000000000000000000000000000000000000000000000000000000000000000000000000000000000000000000000000000000000000000000000000000000000000000000000000000000000000000000000000000000000000000000000000000000000000000000000000000000000000000000000000000000000000000000000000000000000000000000000000000000000000000 0 0" (refused_with 2)
    ∷ []

-- ---- the check

unfoldable pub check_number : Mesh → ℕ
check_number m = (told (check_mesh m)).number

-- after a script, on tables of 3 vertices, 3 edges, 1 face
unfoldable pub small : String → Mesh
small script = (after_text (desk 3 3 1) (bytes script)).mesh

-- with counters at 0 no key lies below its counter
unfoldable pub uncounted : Mesh → Mesh
uncounted m = mesh m.vertices m.positions m.arcs m.edges m.faces (0 ∷ 0 ∷ 0 ∷ [])

abbrev pub lone_vertex : String
lone_vertex = "v 0 0 0\n"

abbrev pub triangle : String
triangle = "v 0 0 0\nv 1 0 0\nv 2 0 0\nf 7 0 1 2\n"

abbrev pub triangle_removed : String
triangle_removed = "v 0 0 0\nv 1 0 0\nv 2 0 0\nf 7 0 1 2\nr 0\n"

-- a mesh with a corner at (-0,0,0), one at (0,0,0) and one apart, asked for a face on them
unfoldable pub both_zeros : Reply
both_zeros =
    let r = empty_room 3 3 1 in
    let minus_zero = of_bits binary64 9223372036854775808 in
    let first = (vertex_insert (empty_mesh 3 3 1) r r (position minus_zero zero_float zero_float)).mesh in
    let second = (vertex_insert first r r (position zero_float zero_float zero_float)).mesh in
    let third = (vertex_insert second r r (position (of_bits binary64 4607182418800017408) zero_float zero_float)).mesh in
    told (face_insert third r r (0 ∷ 1 ∷ 2 ∷ []) 7).answer
