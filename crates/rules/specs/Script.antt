-- The script program of document 01: the lines of an input, what each line says, and what the program writes for a whole input.
-- A text is a list of bytes.
use Prim.Native.String.{String}
use Prim.Native.Char.{code}
use Rattle.std.specs.Prelude.{ℕ, zero, suc, ◌+◌, ◌-◌, ◌*◌, ◌/◌, ◌%◌, Bool, true, false, ◌&&◌, cond, List, [], ◌∷◌, ◌++◌, length, get_or, take, drop, replicate, eqb, ltb, leb, ℤ, pos, neg_ℤ, Float}
use Rattle.std.specs.Float.{binary64}
use Rattle.std.specs.Float.Ieee.{of_int}
use Rattle.rules.specs.declared.Position.{Position}
use Rattle.rules.specs.declared.Move.{Move}
use Rattle.rules.specs.declared.Move.TheVariants.{Shift}
use Rattle.rules.specs.declared.Refusal.TheVariants.{Argument}
use Rattle.rules.specs.Answer.{Answer}
use Rattle.rules.specs.Answer.{Key, Arc, Mark, Arity, Done, Refused}
use Rattle.rules.specs.declared.Edit.{Edit}
use Rattle.rules.specs.declared.Edit.TheVariants.{VertexInsert, FaceInsert, FaceRemove, FaceSplit, FacePoke, FaceBridge, FaceExtrude, ArcBridge, ArcExtrude}
use Rattle.rules.specs.Table.{count, used, every}
use Rattle.rules.specs.Mesh.{Mesh, mesh, Room, room}
use Rattle.rules.specs.Point.{zero_float, position}
use Rattle.rules.specs.Step.{number_of, told}
use Rattle.rules.specs.Call.{call, called, check_mesh}

abbrev pub Text : Type 0
Text = List ℕ

-- ---- bytes

-- a quoted text of ASCII characters, as bytes
unfoldable pub bytes : String → Text
bytes Prim.Native.String.[] = []
bytes (Prim.Native.String.◌∷◌ c s) = code c ∷ bytes s

abbrev pub newline : ℕ
newline = code "\n"

abbrev pub space : ℕ
space = code " "

abbrev pub minus : ℕ
minus = code "-"

abbrev pub digit_zero : ℕ
digit_zero = code "0"

abbrev pub digit_nine : ℕ
digit_nine = code "9"

-- the parts of a text between the marks, which are not among them: one more than there are marks
unfoldable pub with_head : ℕ → List Text → List Text
with_head c [] = (c ∷ []) ∷ []
with_head c (p ∷ ps) = (c ∷ p) ∷ ps

unfoldable pub parts_at : ℕ → Text → List Text
parts_at sep [] = [] ∷ []
parts_at sep (c ∷ cs) = let rest = parts_at sep cs in cond (eqb c sep) ([] ∷ rest) (with_head c rest)

-- ---- numbers, decimal

unfoldable pub is_digit : ℕ → Bool
is_digit c = leb digit_zero c && leb c digit_nine

unfoldable pub value_from : ℕ → Text → ℕ
value_from v [] = v
value_from v (c ∷ cs) = value_from (v * 10 + (c - digit_zero)) cs

-- a number that a field holds, or none
pub data Reading : Type 0 where
  unread : Reading
  reads : ℕ → Reading

-- digits, one or more, and their value at most the limit
unfoldable pub digits_up_to : ℕ → Text → Reading
digits_up_to limit [] = unread
digits_up_to limit (c ∷ cs) =
    let v = value_from 0 (c ∷ cs) in
    cond (every is_digit (c ∷ cs) && leb v limit) (reads v) unread

-- other numbers are u32
abbrev pub largest_u32 : ℕ
largest_u32 = 4294967295

unfoldable pub number_in : Text → Reading
number_in field = digits_up_to largest_u32 field

-- coordinates are whole numbers within 1,000,000 either way; a minus sign only before coordinates
pub data Whole : Type 0 where
  no_whole : Whole
  whole : ℤ → Whole

unfoldable pub whole_of : Bool → Reading → Whole
whole_of negative unread = no_whole
whole_of negative (reads v) = cond negative (whole (neg_ℤ (pos v))) (whole (pos v))

unfoldable pub coordinate_in : Text → Whole
coordinate_in [] = no_whole
coordinate_in (c ∷ cs) = cond (eqb c minus) (whole_of true (digits_up_to 1000000 cs)) (whole_of false (digits_up_to 1000000 (c ∷ cs)))

-- ---- lists of fields, all of them readable or none

pub data Numbers : Type 0 where
  no_numbers : Numbers
  numbers : List ℕ → Numbers

unfoldable pub one_more : Reading → Numbers → Numbers
one_more unread ns = no_numbers
one_more (reads v) no_numbers = no_numbers
one_more (reads v) (numbers vs) = numbers (v ∷ vs)

unfoldable pub numbers_in : List Text → Numbers
numbers_in [] = numbers []
numbers_in (f ∷ fs) = one_more (number_in f) (numbers_in fs)

pub data Point : Type 0 where
  no_point : Point
  point : Position → Point

unfoldable pub float_of : ℤ → Float
float_of n = of_int binary64 n

unfoldable pub point_of : Whole → Whole → Whole → Point
point_of no_whole y z = no_point
point_of (whole x) no_whole z = no_point
point_of (whole x) (whole y) no_whole = no_point
point_of (whole x) (whole y) (whole z) = point (position (float_of x) (float_of y) (float_of z))

unfoldable pub point_in : List Text → Point
point_in fields =
    cond (eqb (length fields) 3)
    (point_of (coordinate_in (get_or fields 0 [])) (coordinate_in (get_or fields 1 [])) (coordinate_in (get_or fields 2 [])))
    no_point

-- ---- lines

-- what a line says: an edit with its keys, or nothing that can be read
pub data Line : Type 0 where
  unreadable : Line
  says : Edit → List ℕ → Line

-- a line of exactly n numbers
unfoldable pub numbers_make : ℕ → (List ℕ → Edit) → Numbers → Line
numbers_make n edit no_numbers = unreadable
numbers_make n edit (numbers ns) = cond (eqb (length ns) n) (says (edit ns) []) unreadable

unfoldable pub numbered : ℕ → (List ℕ → Edit) → List Text → Line
numbered n edit fields = numbers_make n edit (numbers_in fields)

-- a line of exactly n numbers, and after them a point
unfoldable pub point_makes : (List ℕ → Position → Edit) → Numbers → Point → Line
point_makes edit no_numbers p = unreadable
point_makes edit (numbers ns) no_point = unreadable
point_makes edit (numbers ns) (point p) = says (edit ns p) []

unfoldable pub pointed : ℕ → (List ℕ → Position → Edit) → List Text → Line
pointed n edit fields = point_makes edit (numbers_in (take n fields)) (point_in (drop n fields))

-- f mark keys
unfoldable pub keys_make : Numbers → Line
keys_make no_numbers = unreadable
keys_make (numbers []) = unreadable
keys_make (numbers (mark ∷ keys)) = says (FaceInsert mark) keys

-- a point as a shift
abbrev pub shift : Position → Move
shift p = Shift p.x p.y p.z

-- by the line's first field, which is one letter: v x y z; f mark keys; r F; s F a b; p F x y z; b F G; j a b c d;
-- x F dx dy dz and a s d dx dy dz, shifts
unfoldable pub line_of : ℕ → List Text → Line
line_of letter fields =
    cond (eqb letter (code "v")) (pointed 0 (λ ns p. VertexInsert p) fields)
    (cond (eqb letter (code "f")) (keys_make (numbers_in fields))
    (cond (eqb letter (code "r")) (numbered 1 (λ ns. FaceRemove (get_or ns 0 0)) fields)
    (cond (eqb letter (code "s")) (numbered 3 (λ ns. FaceSplit (get_or ns 0 0) (get_or ns 1 0) (get_or ns 2 0)) fields)
    (cond (eqb letter (code "p")) (pointed 1 (λ ns p. FacePoke (get_or ns 0 0) p) fields)
    (cond (eqb letter (code "b")) (numbered 2 (λ ns. FaceBridge (get_or ns 0 0) (get_or ns 1 0)) fields)
    (cond (eqb letter (code "j")) (numbered 4 (λ ns. ArcBridge (get_or ns 0 0) (get_or ns 1 0) (get_or ns 2 0) (get_or ns 3 0)) fields)
    (cond (eqb letter (code "x")) (pointed 1 (λ ns p. FaceExtrude (get_or ns 0 0) (shift p)) fields)
    (cond (eqb letter (code "a")) (pointed 2 (λ ns p. ArcExtrude (get_or ns 0 0) (get_or ns 1 0) (shift p)) fields)
    unreadable))))))))

unfoldable pub line_from : List Text → Line
line_from [] = unreadable
line_from ([] ∷ fields) = unreadable
line_from ((letter ∷ []) ∷ fields) = line_of letter fields
line_from ((letter ∷ c ∷ cs) ∷ fields) = unreadable

-- one space between fields; at most 512 bytes before the newline
unfoldable pub line_in : Text → Line
line_in text = cond (leb (length text) 512) (line_from (parts_at space text)) unreadable

-- the lines of an input: the last may lack its newline, and nothing after the last newline is no line
unfoldable pub without_last_empty : List Text → List Text
without_last_empty [] = []
without_last_empty ([] ∷ []) = []
without_last_empty ((c ∷ cs) ∷ []) = (c ∷ cs) ∷ []
without_last_empty (p ∷ q ∷ qs) = p ∷ without_last_empty (q ∷ qs)

unfoldable pub lines_of : Text → List Text
lines_of input = without_last_empty (parts_at newline input)

-- ---- what is written

-- a number's decimal digits, at most as many as the bound
unfoldable pub digits_before : ℕ → ℕ → Text → Text
digits_before zero n later = later
digits_before (suc bound) n later =
    let more = digits_before bound (n / 10) ((digit_zero + n % 10) ∷ later) in
    cond (ltb n 10) ((digit_zero + n) ∷ later) more

unfoldable pub decimal : ℕ → Text
decimal n = digits_before 20 n []

-- words, each after a space
unfoldable pub spaced : List ℕ → Text
spaced [] = []
spaced (n ∷ ns) = space ∷ (decimal n ++ spaced ns)

-- the keys returned, the mark for r, none for b
unfoldable pub returned : Answer → List ℕ
returned (Key k) = k ∷ []
returned (Arc s d) = s ∷ d ∷ []
returned (Mark n) = n ∷ []
returned (Arity n) = n ∷ []
returned Done = []
returned (Refused r) = []

unfoldable pub shown_keys : Edit → Answer → List ℕ
shown_keys (VertexInsert p) a = returned a
shown_keys (FaceInsert mark) a = returned a
shown_keys (FaceRemove f) a = returned a
shown_keys (FaceSplit f s d) a = returned a
shown_keys (FacePoke f p) a = returned a
shown_keys (FaceBridge f g) a = []
shown_keys (FaceExtrude f move) a = returned a
shown_keys (ArcBridge a b c d) x = returned x
shown_keys (ArcExtrude s d move) a = returned a

-- `ok` with the keys returned or `no` with the number
unfoldable pub answer_text : List ℕ → Answer → Text
answer_text keys (Key k) = bytes "ok" ++ spaced keys
answer_text keys (Arc s d) = bytes "ok" ++ spaced keys
answer_text keys (Mark n) = bytes "ok" ++ spaced keys
answer_text keys (Arity n) = bytes "ok" ++ spaced keys
answer_text keys Done = bytes "ok" ++ spaced keys
answer_text keys (Refused r) = bytes "no" ++ spaced (number_of r ∷ [])

-- ---- the program

-- a room and a mesh with no records
unfoldable pub empty_room : ℕ → ℕ → ℕ → Room
empty_room vertices edges faces =
    room (replicate vertices (0 ∷ 0 ∷ []))
    (replicate vertices (zero_float ∷ zero_float ∷ zero_float ∷ []))
    (replicate (2 * edges) (0 ∷ 0 ∷ 0 ∷ 0 ∷ 0 ∷ 0 ∷ []))
    (replicate edges (0 ∷ 0 ∷ 0 ∷ []))
    (replicate faces (0 ∷ 0 ∷ 0 ∷ []))

unfoldable pub empty_mesh : ℕ → ℕ → ℕ → Mesh
empty_mesh vertices edges faces =
    let r = empty_room vertices edges faces in
    mesh r.vertices r.positions r.arcs r.edges r.faces (0 ∷ 0 ∷ 0 ∷ [])

-- where a script stands: what it has written so far, and the mesh
pub record State : Type 0 where
  pub written : Text
  pub mesh : Mesh

abbrev pub state : Text → Mesh → State
state w m = record { written = w; mesh = m }

-- one line, one call, with this working room. A line that can't be read is answered 2 and changes nothing
unfoldable pub after_line : Room → State → Line → State
after_line r s unreadable = state (s.written ++ (answer_text [] (Refused Argument) ++ (newline ∷ []))) s.mesh
after_line r s (says e keys) =
    let o = called s.mesh r r (call e) keys in
    state (s.written ++ (answer_text (shown_keys e o.answer) o.answer ++ (newline ∷ []))) o.mesh

unfoldable pub after_lines : Room → State → List Text → State
after_lines r s [] = s
after_lines r s (l ∷ ls) = after_lines r (after_line r s (line_in l)) ls

-- a whole script, from an empty mesh with tables of so many vertices, edges and faces
unfoldable pub after_script : ℕ → ℕ → ℕ → Text → State
after_script vertices edges faces input =
    after_lines (empty_room vertices edges faces) (state [] (empty_mesh vertices edges faces)) (lines_of input)

-- and last `end` with the counts of vertices, edges, faces
unfoldable pub end_text : Mesh → Text
end_text m = bytes "end" ++ (spaced (count used m.vertices ∷ count used m.edges ∷ count used m.faces ∷ []) ++ (newline ∷ []))

-- before it the script makes the check. Where that answers 1 nothing is written, which no script from an empty mesh meets; with 3, as with 0,
-- the line is
unfoldable pub checked_end : Mesh → Text
checked_end m = cond (eqb (told (check_mesh m)).number 1) [] (end_text m)

unfoldable pub program_on : ℕ → ℕ → ℕ → Text → Text
program_on vertices edges faces input = let s = after_script vertices edges faces input in s.written ++ checked_end s.mesh

-- meshrun: 64 vertices, 128 edges and 64 faces
unfoldable pub program : Text → Text
program input = program_on 64 128 64 input
