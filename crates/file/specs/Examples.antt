-- Small meshes and files that the computed examples of the mesh file (request L3) ask about.
use Rattle.std.specs.Prelude.{ℕ, ◌≡◌, true, [], ◌∷◌, ◌++◌, length, set, take, drop, replicate, Float}
use Rattle.std.specs.Float.{binary64}
use Rattle.std.specs.Float.Ieee.{of_bits}
use Rattle.rules.specs.Mesh.{Mesh, mesh}
use Rattle.rules.specs.Script.{Text, empty_mesh, empty_room}
use Rattle.rules.specs.Sound.{sound}
use Rattle.file.specs.File.{file_of, length_fits, in_place, read_file, write_file}

-- 1, -0 and 0 as coordinates
abbrev one : Float
one = of_bits binary64 4607182418800017408

abbrev minus_zero : Float
minus_zero = of_bits binary64 9223372036854775808

abbrev nil : Float
nil = of_bits binary64 0

-- a triangle on the vertices 0, 1, 2 with the mark 7. Vertex 1 leads nowhere, and next of (1,0) is none
unfoldable pub triangle : Mesh
triangle =
    mesh ((1 ∷ 1 ∷ []) ∷ (2 ∷ 0 ∷ []) ∷ (3 ∷ 5 ∷ []) ∷ [])
    ((nil ∷ nil ∷ nil ∷ []) ∷ (one ∷ nil ∷ minus_zero ∷ []) ∷ (nil ∷ one ∷ nil ∷ []) ∷ [])
    ((1 ∷ 2 ∷ 3 ∷ 5 ∷ 1 ∷ 1 ∷ [])
    ∷ (2 ∷ 1 ∷ 0 ∷ 4 ∷ 0 ∷ 1 ∷ [])
    ∷ (2 ∷ 3 ∷ 5 ∷ 1 ∷ 1 ∷ 2 ∷ [])
    ∷ (3 ∷ 2 ∷ 2 ∷ 6 ∷ 0 ∷ 2 ∷ [])
    ∷ (3 ∷ 1 ∷ 1 ∷ 3 ∷ 1 ∷ 3 ∷ [])
    ∷ (1 ∷ 3 ∷ 4 ∷ 2 ∷ 0 ∷ 3 ∷ [])
    ∷ [])
    ((1 ∷ 1 ∷ 2 ∷ []) ∷ (2 ∷ 3 ∷ 4 ∷ []) ∷ (3 ∷ 5 ∷ 6 ∷ []) ∷ [])
    ((1 ∷ 1 ∷ 7 ∷ []) ∷ [])
    (3 ∷ 3 ∷ 1 ∷ [])

-- the same records in other rows, among unused ones
unfoldable pub scattered : Mesh
scattered =
    mesh ((3 ∷ 2 ∷ []) ∷ (0 ∷ 0 ∷ []) ∷ (1 ∷ 8 ∷ []) ∷ (2 ∷ 0 ∷ []) ∷ [])
    ((nil ∷ one ∷ nil ∷ []) ∷ (nil ∷ nil ∷ nil ∷ []) ∷ (nil ∷ nil ∷ nil ∷ []) ∷ (one ∷ nil ∷ minus_zero ∷ []) ∷ [])
    ((3 ∷ 1 ∷ 5 ∷ 4 ∷ 0 ∷ 4 ∷ [])
    ∷ (1 ∷ 3 ∷ 8 ∷ 6 ∷ 2 ∷ 4 ∷ [])
    ∷ (0 ∷ 0 ∷ 0 ∷ 0 ∷ 0 ∷ 0 ∷ [])
    ∷ (4 ∷ 3 ∷ 0 ∷ 5 ∷ 0 ∷ 2 ∷ [])
    ∷ (1 ∷ 4 ∷ 4 ∷ 1 ∷ 0 ∷ 1 ∷ [])
    ∷ (4 ∷ 1 ∷ 2 ∷ 8 ∷ 2 ∷ 1 ∷ [])
    ∷ (0 ∷ 0 ∷ 0 ∷ 0 ∷ 0 ∷ 0 ∷ [])
    ∷ (3 ∷ 4 ∷ 6 ∷ 2 ∷ 2 ∷ 2 ∷ [])
    ∷ [])
    ((2 ∷ 6 ∷ 5 ∷ []) ∷ (1 ∷ 8 ∷ 4 ∷ []) ∷ (0 ∷ 0 ∷ 0 ∷ []) ∷ (3 ∷ 2 ∷ 1 ∷ []) ∷ [])
    ((0 ∷ 0 ∷ 0 ∷ []) ∷ (1 ∷ 8 ∷ 7 ∷ []) ∷ [])
    (3 ∷ 3 ∷ 1 ∷ [])

-- the triangle's file, as bytes
unfoldable pub triangle_file : Text
triangle_file = file_of triangle

-- that file with one byte changed, with its first vertex count 4,294,967,295, and with an infinite coordinate
unfoldable pub changed : ℕ → ℕ → Text
changed at byte = set triangle_file at byte

unfoldable pub counted_over : Text
counted_over = 255 ∷ 255 ∷ 255 ∷ 255 ∷ drop 4 triangle_file

unfoldable pub infinite : Text
infinite = set (changed 54 240) 55 127

-- the file of a mesh without records
unfoldable pub empty_file : Text
empty_file = file_of (empty_mesh 3 3 1)

-- what reading a text into empty tables of so many vertices, edges and faces answers
unfoldable pub answer : ℕ → ℕ → ℕ → Text → ℕ
answer v e f text = (read_file (empty_mesh v e f) (empty_room v e f) (empty_room v e f) text).number

-- a vertex that leads nowhere, which the check answers 3
unfoldable pub lone : Mesh
lone = mesh ((1 ∷ 0 ∷ []) ∷ []) ((one ∷ nil ∷ nil ∷ []) ∷ []) [] [] [] (1 ∷ 0 ∷ 0 ∷ [])

-- a mesh whose counter is not above a key
unfoldable pub unsound : Mesh
unsound = mesh ((1 ∷ 0 ∷ []) ∷ []) ((one ∷ nil ∷ nil ∷ []) ∷ []) [] [] [] (0 ∷ 0 ∷ 0 ∷ [])

-- ---- what is asked of them

-- 44 bytes, 3 vertices of 32, 6 arcs of 24, 3 edges of 12, a face of 16; rows are not written; an empty mesh's file is its offsets
pub record Layout : Type 0 where
  pub triangle-sound : sound triangle ≡ true
  pub scattered-sound : sound scattered ≡ true
  pub triangle-length : length triangle_file ≡ 336
  pub triangle-fits : length_fits triangle_file ≡ true
  pub triangle-in-place : in_place triangle_file ≡ true
  pub rows-not-written : file_of scattered ≡ triangle_file
  pub contents-table :
      take 32 triangle_file
      ≡ (3 ∷ 0 ∷ 0 ∷ 0 ∷ 44 ∷ 0 ∷ 0 ∷ 0 ∷ [])
      ++ ((6 ∷ 0 ∷ 0 ∷ 0 ∷ 140 ∷ 0 ∷ 0 ∷ 0 ∷ [])
      ++ ((3 ∷ 0 ∷ 0 ∷ 0 ∷ 28 ∷ 1 ∷ 0 ∷ 0 ∷ []) ++ (1 ∷ 0 ∷ 0 ∷ 0 ∷ 64 ∷ 1 ∷ 0 ∷ 0 ∷ [])))
  -- vertex 1 at (1, 0, -0), without a leading arc
  pub vertex-bytes :
      take 32 (drop 76 triangle_file)
      ≡ (1 ∷ 0 ∷ 0 ∷ 0 ∷ [])
      ++ ((0 ∷ 0 ∷ 0 ∷ 0 ∷ 0 ∷ 0 ∷ 240 ∷ 63 ∷ [])
      ++ (replicate 8 0 ++ ((0 ∷ 0 ∷ 0 ∷ 0 ∷ 0 ∷ 0 ∷ 0 ∷ 128 ∷ []) ++ (255 ∷ 255 ∷ 255 ∷ 255 ∷ []))))
  -- the arc (1,0): no next, previous (2,1), no face, edge 0
  pub arc-bytes :
      take 24 (drop 188 triangle_file)
      ≡ (1 ∷ 0 ∷ 0 ∷ 0 ∷ 0 ∷ 0 ∷ 0 ∷ 0 ∷ [])
      ++ ((255 ∷ 255 ∷ 255 ∷ 255 ∷ 2 ∷ 0 ∷ 0 ∷ 0 ∷ []) ++ (255 ∷ 255 ∷ 255 ∷ 255 ∷ 0 ∷ 0 ∷ 0 ∷ 0 ∷ []))
  -- edge 1, by its arc (1,2); face 0, by its arc (0,1), with the mark 7
  pub edge-bytes : take 12 (drop 296 triangle_file) ≡ 1 ∷ 0 ∷ 0 ∷ 0 ∷ 1 ∷ 0 ∷ 0 ∷ 0 ∷ 2 ∷ 0 ∷ 0 ∷ 0 ∷ []
  pub face-bytes : drop 320 triangle_file ≡ 0 ∷ 0 ∷ 0 ∷ 0 ∷ 0 ∷ 0 ∷ 0 ∷ 0 ∷ 1 ∷ 0 ∷ 0 ∷ 0 ∷ 7 ∷ 0 ∷ 0 ∷ 0 ∷ []
  pub empty-file :
      empty_file
      ≡ (0 ∷ 0 ∷ 0 ∷ 0 ∷ 44 ∷ 0 ∷ 0 ∷ 0 ∷ [])
      ++ ((0 ∷ 0 ∷ 0 ∷ 0 ∷ 44 ∷ 0 ∷ 0 ∷ 0 ∷ [])
      ++ ((0 ∷ 0 ∷ 0 ∷ 0 ∷ 44 ∷ 0 ∷ 0 ∷ 0 ∷ []) ++ ((0 ∷ 0 ∷ 0 ∷ 0 ∷ 44 ∷ 0 ∷ 0 ∷ 0 ∷ []) ++ replicate 12 0)))

-- in reading: 0 where it is accepted, into tables that are larger than it asks too, -0 among its coordinates
pub record Accepted : Type 0 where
  pub triangle-read : answer 3 3 1 triangle_file ≡ 0
  pub larger-tables : answer 5 4 3 triangle_file ≡ 0
  pub empty-read : answer 3 3 1 empty_file ≡ 0
  pub no-tables : answer 0 0 0 empty_file ≡ 0

-- 1 before all else; 10 for a byte fewer, a byte more, below 44 bytes, and a count that would wrap
pub record Lengths : Type 0 where
  pub small-room : (read_file (empty_mesh 3 3 1) (empty_room 2 3 1) (empty_room 3 3 1) []).number ≡ 1
  pub byte-fewer : answer 3 3 1 (take 335 triangle_file) ≡ 10
  pub byte_more : answer 3 3 1 (triangle_file ++ (0 ∷ [])) ≡ 10
  pub nothing : answer 3 3 1 [] ≡ 10
  pub below-44 : answer 3 3 1 (take 43 empty_file) ≡ 10
  pub count-over : answer 3 3 1 counted_over ≡ 10

-- 11 for an offset one off, of an empty body too, for equal keys, and for arcs with equal ends
pub record Places : Type 0 where
  pub first-offset : answer 3 3 1 (changed 4 45) ≡ 11
  pub last-offset : answer 3 3 1 (changed 28 65) ≡ 11
  pub empty-offset : answer 3 3 1 (set empty_file 12 45) ≡ 11
  pub equal-keys : answer 3 3 1 (changed 76 0) ≡ 11
  pub equal-ends : answer 3 3 1 (changed 168 1) ≡ 11

-- 7 for more records than a table has rows, before 12; 12 for a counter that is not above a key, an infinite coordinate, a next, a
-- leading arc, a face and an edge that no record has
pub record Unsound : Type 0 where
  pub few-vertices : answer 2 3 1 triangle_file ≡ 7
  pub few-edges : answer 3 2 1 triangle_file ≡ 7
  pub few-faces : answer 3 3 0 infinite ≡ 7
  pub low-counter : answer 3 3 1 (changed 32 2) ≡ 12
  pub not_finite : answer 3 3 1 infinite ≡ 12
  pub no-such-next : answer 3 3 1 (changed 148 9) ≡ 12
  pub no-such-leading : answer 3 3 1 (changed 72 9) ≡ 12
  pub no-such-face : answer 3 3 1 (changed 156 9) ≡ 12
  pub no-such-edge : answer 3 3 1 (changed 160 9) ≡ 12

-- writing: a mesh that the check answers 3 is written; 1 before 7; other bytes stay, and all of them on a refusal
pub record Writing : Type 0 where
  pub length-returned : (write_file triangle (replicate 338 9)).count ≡ 336
  pub others-stay : drop 336 (write_file triangle (replicate 338 9)).bytes ≡ 9 ∷ 9 ∷ []
  pub lone-written : (write_file lone (replicate 76 9)).number ≡ 0
  pub refused-1 : (write_file unsound []).number ≡ 1
  pub refused-7 : (write_file lone (replicate 75 9)).number ≡ 7
  pub none-touched : (write_file lone (9 ∷ 8 ∷ [])).bytes ≡ 9 ∷ 8 ∷ []

-- all of them
pub record Computed : Type 0 where
  pub layout : Layout
  pub accepted : Accepted
  pub one-and-ten : Lengths
  pub eleven : Places
  pub seven-and-twelve : Unsound
  pub writing : Writing
