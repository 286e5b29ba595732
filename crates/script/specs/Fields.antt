-- The fields of a line by the places at which they begin, and what the code makes of a field that the rules' definitions read.
-- A place past the line's end means that no field is left.
use Rattle.std.specs.Prelude.{◌≡◌, ℕ, zero, suc, ◌+◌, ◌-◌, ◌<◌, cond, Option, Some, None, List, [], ◌∷◌, ◌++◌, length, replicate, drop, eqb, leb, Float}
use Rattle.std.proofs.Math.Seq.{slice}
use Rattle.rules.specs.Script.{Text, Reading, unread, reads, Whole, no_whole, whole, Numbers, no_numbers, numbers, Point, no_point, point, space, parts_at, number_in, coordinate_in, float_of, numbers_in}
use Rattle.script.specs.declared.reader.Line.{Line}
use Rattle.script.specs.declared.Numbers.{Numbers as ReadNumbers}
use Rattle.rules.specs.declared.Position.{Position}

-- ---- places

-- how many bytes stand before the first space
unfoldable pub word_length : Text → ℕ
word_length [] = 0
word_length (c ∷ cs) = let later = suc (word_length cs) in cond (eqb c space) 0 later

-- where the field that begins at a place ends, the field, and where the next one begins
unfoldable pub end_of : Text → ℕ → ℕ
end_of text at = at + word_length (drop at text)

unfoldable pub field_at : Text → ℕ → Text
field_at text at = slice at (end_of text at) text

-- the fields that are left from a place on
unfoldable pub fields_from : Text → ℕ → List Text
fields_from text at = cond (leb at (length text)) (parts_at space (drop at text)) []

-- the place after so many fields, or after the last one
unfoldable pub place_after : ℕ → Text → ℕ → ℕ
place_after zero text at = at
place_after (suc n) text at = let later = place_after n text (end_of text at + 1) in cond (leb at (length text)) later at

-- the place of the next field: past the line's end the place at hand
unfoldable pub next_place : Text → ℕ → ℕ
next_place text at = cond (leb at (length text)) (end_of text at + 1) at

-- no field is left
abbrev pub NoField : Text → ℕ → Type 0
NoField text at = length text < at

-- a reader that moved on has the same line
pub record Stays (l m : Line) : Type 0 where
  pub same_text : m.text ≡ l.text

-- ---- one field

-- the letter that a field is, where it is one byte
unfoldable pub letter_of : Text → Option ℕ
letter_of [] = None
letter_of (c ∷ []) = Some c
letter_of (c ∷ d ∷ cs) = None

unfoldable pub digits_of : Reading → Option ℕ
digits_of unread = None
digits_of (reads v) = Some v

unfoldable pub offset_of : Whole → Option Float
offset_of no_whole = None
offset_of (whole n) = Some (float_of n)

-- at a place
unfoldable pub letter_at : Text → ℕ → Option ℕ
letter_at text at = cond (leb at (length text)) (letter_of (field_at text at)) None

unfoldable pub number_at : Text → ℕ → Option ℕ
number_at text at = cond (leb at (length text)) (digits_of (number_in (field_at text at))) None

unfoldable pub coordinate_at : Text → ℕ → Option Float
coordinate_at text at = cond (leb at (length text)) (offset_of (coordinate_in (field_at text at))) None

-- ---- the fields that are left

unfoldable pub spot_of : Point → Option Position
spot_of no_point = None
spot_of (point p) = Some p

-- a list of numbers in 256 places, those past its end 0
unfoldable pub padded : List ℕ → List ℕ
padded ns = ns ++ replicate (256 - length ns) 0

unfoldable pub numbers_of : Numbers → Option ReadNumbers
numbers_of no_numbers = None
numbers_of (numbers ns) = Some (record { values = padded ns; count = length ns })
