-- The mesh file (request L3): its bytes, what a file holds, what the writer writes, and what reading and writing answer and leave, for every input.
-- Each definition stands under the sentence of document 02 that it carries, in its words.
use Rattle.std.specs.Prelude.{ℕ, zero, suc, ◌+◌, ◌-◌, ◌*◌, ◌/◌, ◌%◌, ◌^◌, Bool, true, false, not, ◌&&◌, ◌||◌, cond, List, [], ◌∷◌, ◌++◌, map, length, get_or, take, drop, replicate, Float, eqb, ltb, leb}
use Rattle.std.specs.Float.{binary64}
use Rattle.std.specs.Float.Ieee.{to_bits, of_bits}
use Rattle.rules.specs.Table.{Table, first_row, every, all_below}
use Rattle.rules.specs.Mesh.{Mesh, mesh, Room}
use Rattle.rules.specs.Point.{zero_float}
use Rattle.rules.specs.Records.{VertexRecord, ArcRecord, EdgeRecord, FaceRecord, Records, records}
use Rattle.rules.specs.Sound.{within_limits, sound}
use Rattle.rules.specs.Step.{told}
use Rattle.rules.specs.Call.{room_enough, zeroed, check_mesh}
use Rattle.rules.specs.Script.{Text}

-- ---- cells

-- "each u32 little-endian", "coordinates as their 64 bits": a number of so many bytes, the lowest first, and the number in such bytes
unfoldable pub cell_text : ℕ → ℕ → Text
cell_text zero n = []
cell_text (suc width) n = n % 256 ∷ cell_text width (n / 256)

unfoldable pub cell_in : Text → ℕ
cell_in [] = 0
cell_in (b ∷ bs) = b + 256 * cell_in bs

-- a byte is below 256; a text that is given is made of bytes
unfoldable pub bytes_only : Text → Bool
bytes_only t = every (λ b. ltb b 256) t

-- ---- records

-- a record, cell by cell, by the widths of its cells; and the cells in such a text
unfoldable pub row_text : List ℕ → List ℕ → Text
row_text [] cells = []
row_text (w ∷ ws) cells = cell_text w (get_or cells 0 0) ++ row_text ws (drop 1 cells)

unfoldable pub row_in : List ℕ → Text → List ℕ
row_in [] text = []
row_in (w ∷ ws) text = cell_in (take w text) ∷ row_in ws (drop w text)

-- how many bytes a record takes
unfoldable pub total : List ℕ → ℕ
total [] = 0
total (w ∷ ws) = w + total ws

-- each cell of a record fits its width
unfoldable pub row_fits : List ℕ → List ℕ → Bool
row_fits [] [] = true
row_fits [] (c ∷ cs) = false
row_fits (w ∷ ws) [] = false
row_fits (w ∷ ws) (c ∷ cs) = ltb c (256 ^ w) && row_fits ws cs

-- ---- bodies

-- a body: its records back to back; and so many records from a text
unfoldable pub body_text : List ℕ → Table → Text
body_text ws [] = []
body_text ws (r ∷ rs) = row_text ws r ++ body_text ws rs

unfoldable pub body_in : List ℕ → ℕ → Text → Table
body_in ws zero text = []
body_in ws (suc n) text = row_in ws text ∷ body_in ws n (drop (total ws) text)

-- how many bytes so many records take
unfoldable pub body_length : List ℕ → ℕ → ℕ
body_length ws n = total ws * n

-- "A vertex is 32 bytes (key, position, destination of its leading arc), an arc 24 (source, destination, destination of next, source of
-- previous, face, edge), an edge 12 and a face 16 (key, source and destination of its arc; a face also its mark)": the widths of each
-- kind's cells, "for vertices, arcs, edges, faces, in that order"
abbrev pub schema : List (List ℕ)
schema =
    (4 ∷ 8 ∷ 8 ∷ 8 ∷ 4 ∷ [])
    ∷ (4 ∷ 4 ∷ 4 ∷ 4 ∷ 4 ∷ 4 ∷ [])
    ∷ (4 ∷ 4 ∷ 4 ∷ [])
    ∷ (4 ∷ 4 ∷ 4 ∷ 4 ∷ [])
    ∷ []

-- "the three key counters (vertices, edges, faces) as u32"
abbrev pub counter_widths : List ℕ
counter_widths = 4 ∷ 4 ∷ 4 ∷ []

-- "in key order (arcs by source, then destination)": how many cells of each kind's record are its key
abbrev pub key_cells : List ℕ
key_cells = 1 ∷ 2 ∷ 1 ∷ 1 ∷ []

-- ---- the whole file

-- what a file holds: for each body its records as cells, and the counters
pub record Contents : Type 0 where
  pub bodies : List Table
  pub counters : List ℕ

-- "The file opens with a table of contents: for vertices, arcs, edges, faces, in that order, a count and a byte offset, each u32
-- little-endian": from the offset of the first body on
unfoldable pub places : ℕ → List (List ℕ) → List Table → Text
places at [] bodies = []
places at (ws ∷ wss) bodies =
    cell_text 4 (length (get_or bodies 0 []))
    ++ (cell_text 4 at ++ places (at + body_length ws (length (get_or bodies 0 []))) wss (drop 1 bodies))

-- "then the bodies back to back"
unfoldable pub bodies_text : List (List ℕ) → List Table → Text
bodies_text [] bodies = []
bodies_text (ws ∷ wss) bodies = body_text ws (get_or bodies 0 []) ++ bodies_text wss (drop 1 bodies)

-- "44 bytes so far": the table of contents and the counters
abbrev pub head_length : ℕ
head_length = 44

unfoldable pub file_text : Contents → Text
file_text c = places head_length schema c.bodies ++ (row_text counter_widths c.counters ++ bodies_text schema c.bodies)

-- a count and an offset at the head of a table of contents, whose next entry stands 8 bytes further
unfoldable pub count_in : Text → ℕ
count_in toc = cell_in (take 4 toc)

unfoldable pub offset_in : Text → ℕ
offset_in toc = cell_in (take 4 (drop 4 toc))

-- the bodies that a table of contents counts, back to back in a text
unfoldable pub bodies_in : List (List ℕ) → Text → Text → List Table
bodies_in [] toc text = []
bodies_in (ws ∷ wss) toc text = body_in ws (count_in toc) text ∷ bodies_in wss (drop 8 toc) (drop (body_length ws (count_in toc)) text)

unfoldable pub contents_in : Text → Contents
contents_in text = record { bodies = bodies_in schema text (drop head_length text); counters = row_in counter_widths (drop 32 text) }

-- every number of these contents fits its bytes, and there are as many bodies as the schema has
unfoldable pub bodies_fit : List (List ℕ) → List Table → Bool
bodies_fit [] [] = true
bodies_fit [] (b ∷ bs) = false
bodies_fit (ws ∷ wss) [] = false
bodies_fit (ws ∷ wss) (b ∷ bs) = ltb (length b) (256 ^ 4) && (every (row_fits ws) b && bodies_fit wss bs)

unfoldable pub contents_fit : Contents → Bool
contents_fit c = bodies_fit schema c.bodies && row_fits counter_widths c.counters

-- ---- 10 and 11

-- "what the counts ask": the bytes of all bodies. A sum of numbers, whatever its size: no count makes it wrap
unfoldable pub asked : List (List ℕ) → Text → ℕ
asked [] toc = 0
asked (ws ∷ wss) toc = body_length ws (count_in toc) + asked wss (drop 8 toc)

-- "10 if the length isn't 44 plus what the counts ask". A text below 44 bytes has no counts to ask with, and is refused so too
unfoldable pub length_fits : Text → Bool
length_fits text = leb head_length (length text) && eqb (length text) (head_length + asked schema text)

-- "11 if a body doesn't start where the one before ends": every offset, also of an empty body
unfoldable pub placed : ℕ → List (List ℕ) → Text → Bool
placed at [] toc = true
placed at (ws ∷ wss) toc = eqb (offset_in toc) at && placed (at + body_length ws (count_in toc)) wss (drop 8 toc)

-- "or its keys don't rise": strictly, by so many cells, the first that differs deciding
unfoldable pub rises_by : ℕ → List ℕ → List ℕ → Bool
rises_by zero r s = false
rises_by (suc n) r s =
    let rest = rises_by n (drop 1 r) (drop 1 s) in
    ltb (get_or r 0 0) (get_or s 0 0) || (eqb (get_or r 0 0) (get_or s 0 0) && rest)

unfoldable pub rising : ℕ → Table → Bool
rising n rows = all_below (λ i. rises_by n (get_or rows i []) (get_or rows (i + 1) [])) (length rows - 1)

unfoldable pub all_rise : List ℕ → List Table → Bool
all_rise [] bodies = true
all_rise (n ∷ ns) bodies = rising n (get_or bodies 0 []) && all_rise ns (drop 1 bodies)

unfoldable pub in_place : Text → Bool
in_place text = placed head_length schema text && all_rise key_cells (contents_in text).bodies

-- ---- what the writer writes

-- "None is written as 4,294,967,295"
abbrev pub none_cell : ℕ
none_cell = 4294967295

-- a key of a name, or none where the name is
unfoldable pub key_cell : List ℕ → ℕ → ℕ
key_cell name i = get_or name i none_cell

-- "A vertex is 32 bytes (key, position, destination of its leading arc)", "coordinates as their 64 bits"
unfoldable pub vertex_cells : VertexRecord → List ℕ
vertex_cells v =
    v.key
    ∷ to_bits binary64 v.position.x
    ∷ to_bits binary64 v.position.y
    ∷ to_bits binary64 v.position.z
    ∷ key_cell v.leading 1
    ∷ []

-- "an arc 24 (source, destination, destination of next, source of previous, face, edge)"
unfoldable pub arc_cells : ArcRecord → List ℕ
arc_cells a =
    key_cell a.name 0
    ∷ key_cell a.name 1
    ∷ key_cell a.next 1
    ∷ key_cell a.previous 0
    ∷ key_cell a.face 0
    ∷ key_cell a.edge 0
    ∷ []

-- "an edge 12 and a face 16 (key, source and destination of its arc; a face also its mark)"
unfoldable pub edge_cells : EdgeRecord → List ℕ
edge_cells e = e.key ∷ key_cell e.arc 0 ∷ key_cell e.arc 1 ∷ []

unfoldable pub face_cells : FaceRecord → List ℕ
face_cells f = f.key ∷ key_cell f.arc 0 ∷ key_cell f.arc 1 ∷ f.mark ∷ []

-- the records, which are in key order, and the counters. "Row places are not written"
unfoldable pub contents_of : Records → Contents
contents_of r =
    record {
      bodies =
          map vertex_cells r.vertices
          ∷ map arc_cells r.arcs
          ∷ map edge_cells r.edges
          ∷ map face_cells r.faces
          ∷ [];
      counters = r.counters;
    }

unfoldable pub file_of : Mesh → Text
file_of m = file_text (contents_of (records m))

-- ---- the mesh that a file holds

-- the records of a kind: vertices 0, arcs 1, edges 2, faces 3
unfoldable pub body : Contents → ℕ → Table
body c kind = get_or c.bodies kind []

-- a name that no record has becomes a link that no table within the limits has: "12 for an unsound mesh"
abbrev pub nowhere : ℕ
nowhere = 16385

unfoldable pub or_nowhere : ℕ → ℕ
or_nowhere l = cond (eqb l 0) nowhere l

-- the link of the record with that key, and of the arc with those ends
abbrev pub has_key : ℕ → List ℕ → Bool
has_key k r = eqb (get_or r 0 0) k

abbrev pub has_ends : ℕ → ℕ → List ℕ → Bool
has_ends s d r = eqb (get_or r 0 0) s && eqb (get_or r 1 0) d

unfoldable pub by_key : Contents → ℕ → ℕ → ℕ
by_key c kind k = or_nowhere (first_row (has_key k) (body c kind))

unfoldable pub by_ends : Contents → ℕ → ℕ → ℕ
by_ends c s d = or_nowhere (first_row (has_ends s d) (body c 1))

-- no link where the cell says none
unfoldable pub unless_none : ℕ → ℕ → ℕ
unless_none k l = cond (eqb k none_cell) 0 l

-- the rows of one record each
unfoldable pub vertex_row : Contents → List ℕ → List ℕ
vertex_row c r = (get_or r 0 0 + 1) ∷ unless_none (get_or r 4 0) (by_ends c (get_or r 0 0) (get_or r 4 0)) ∷ []

unfoldable pub position_row : List ℕ → List Float
position_row r = of_bits binary64 (get_or r 1 0) ∷ of_bits binary64 (get_or r 2 0) ∷ of_bits binary64 (get_or r 3 0) ∷ []

-- next of (a,b) leaves b, previous arrives at a
unfoldable pub arc_row : Contents → List ℕ → List ℕ
arc_row c r =
    by_key c 0 (get_or r 0 0)
    ∷ by_key c 0 (get_or r 1 0)
    ∷ unless_none (get_or r 2 0) (by_ends c (get_or r 1 0) (get_or r 2 0))
    ∷ unless_none (get_or r 3 0) (by_ends c (get_or r 3 0) (get_or r 0 0))
    ∷ unless_none (get_or r 4 0) (by_key c 3 (get_or r 4 0))
    ∷ by_key c 2 (get_or r 5 0)
    ∷ []

unfoldable pub edge_row : Contents → List ℕ → List ℕ
edge_row c r = (get_or r 0 0 + 1) ∷ by_ends c (get_or r 1 0) (get_or r 2 0) ∷ by_ends c (get_or r 2 0) (get_or r 1 0) ∷ []

unfoldable pub face_row : Contents → List ℕ → List ℕ
face_row c r = (get_or r 0 0 + 1) ∷ by_ends c (get_or r 1 0) (get_or r 2 0) ∷ get_or r 3 0 ∷ []

-- "reading fills rows from the lowest"; all further rows are zero
unfoldable pub filled {ℓ} : {A : Type ℓ} → ℕ → A → List A → List A
filled n zeros rows = rows ++ replicate (n - length rows) zeros

unfoldable pub mesh_of : Mesh → Contents → Mesh
mesh_of lent c =
    mesh (filled (length lent.vertices) (0 ∷ 0 ∷ []) (map (vertex_row c) (body c 0)))
    (filled (length lent.positions) (zero_float ∷ zero_float ∷ zero_float ∷ []) (map position_row (body c 0)))
    (filled (length lent.arcs) (0 ∷ 0 ∷ 0 ∷ 0 ∷ 0 ∷ 0 ∷ []) (map (arc_row c) (body c 1)))
    (filled (length lent.edges) (0 ∷ 0 ∷ 0 ∷ []) (map (edge_row c) (body c 2)))
    (filled (length lent.faces) (0 ∷ 0 ∷ 0 ∷ []) (map (face_row c) (body c 3)))
    c.counters

-- ---- reading

-- "1 for sizes of tables or room": what the lent tables held does not matter
unfoldable pub sizes_serve : Mesh → Room → Room → Bool
sizes_serve lent one two = within_limits lent && (room_enough lent one && room_enough lent two)

-- "7 for more records than the lent tables hold"
unfoldable pub tables_hold : Mesh → Contents → Bool
tables_hold lent c =
    leb (length (body c 0)) (length lent.vertices)
    && (leb (length (body c 1)) (length lent.arcs)
    && (leb (length (body c 2)) (length lent.edges) && leb (length (body c 3)) (length lent.faces)))

-- "Refusals in reading, in this order": after 1 come 10, 11, 7, "12 for an unsound mesh"; 0 is none
unfoldable pub read_number : Mesh → Text → ℕ
read_number lent text =
    cond (not (length_fits text)) 10
    (cond (not (in_place text)) 11
    (cond (not (tables_hold lent (contents_in text))) 7
    (cond (sound (mesh_of lent (contents_in text))) 0 12)))

-- what reading answers and leaves: the mesh with its counters, and both rooms
pub record FileRead : Type 0 where
  pub number : ℕ
  pub mesh : Mesh
  pub one : Room
  pub two : Room

-- a refusal changes no mesh table and no counter. Both rooms end zero, but for 1, which leaves them as they are
unfoldable pub read_file : Mesh → Room → Room → Text → FileRead
read_file lent one two text =
    let number = read_number lent text in
    cond (sizes_serve lent one two)
    (record { number = number; mesh = cond (eqb number 0) (mesh_of lent (contents_in text)) lent; one = zeroed one; two = zeroed two })
    (record { number = 1; mesh = lent; one = one; two = two })

-- ---- writing

-- a text over the first bytes: "other bytes stay"
unfoldable pub wrote : Text → Text → Text
wrote out text = text ++ drop (length text) out

-- 1 as the check answers it, which lets pass a mesh that it answers 3
unfoldable pub check_refuses : Mesh → Bool
check_refuses m = eqb (told (check_mesh m)).number 1

-- what writing answers, "the length" that it returns, and the lent bytes as it leaves them
pub record FileWritten : Type 0 where
  pub number : ℕ
  pub count : ℕ
  pub bytes : Text

-- "Writing returns the length, or 1, then 7 if the lent bytes are too few"; a refusal returns no length and touches no byte
unfoldable pub write_file : Mesh → Text → FileWritten
write_file m out =
    cond (check_refuses m) (record { number = 1; count = 0; bytes = out })
    (cond (ltb (length out) (length (file_of m))) (record { number = 7; count = 0; bytes = out })
    (record { number = 0; count = length (file_of m); bytes = wrote out (file_of m) }))
