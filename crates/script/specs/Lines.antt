-- What stands on a line, and what the code makes of a line that the rules' definitions read.
use Prim.Native.Char.{code}
use Rattle.std.specs.Prelude.{ℕ, ◌≤◌, ◌≡◌, cond, Option, Some, None, List, [], ◌∷◌, length, get_or, take, drop, eqb}
use Rattle.std.specs.Option.{option_map, option_and_then}
use Rattle.rules.specs.declared.Position.{Position}
use Rattle.rules.specs.Script.{Text, Numbers, no_numbers, numbers, Point, no_point, point, Line, unreadable, says, numbers_in, point_in, line_of}
use Rattle.script.specs.declared.Contents.{Contents}
use Rattle.script.specs.declared.Parsed.{Parsed}
use Rattle.script.specs.Fields.{fields_from, next_place, letter_at, spot_of, padded, numbers_of}

-- ---- what stands on a line

-- how many numbers are read after a letter, at most: those before a point, or else all there are, which are fewer than the bytes
unfoldable pub most_numbers : ℕ → ℕ
most_numbers letter =
    cond (eqb letter (code "v")) 0
    (cond (eqb letter (code "p")) 1
    (cond (eqb letter (code "x")) 1
    (cond (eqb letter (code "a")) 2
    512)))

-- the letter, then so many of the fields behind it as numbers, then the others as a point
unfoldable pub contents_of : Text → Option Contents
contents_of text =
    let fields = fields_from text (next_place text 0) in
    option_and_then
    (λ letter. option_map (λ ns. record { letter = letter; numbers = ns; spot = spot_of (point_in (drop (most_numbers letter) fields)) })
    (numbers_of (numbers_in (take (most_numbers letter) fields))))
    (letter_at text 0)

-- these are the contents of a line that has these fields after its letter, of which at most n are read as numbers
pub record Holds (c : Contents) (n : ℕ) (fields : List Text) : Type 0 where
  pub numbers : numbers_of (numbers_in (take n fields)) ≡ Some c.numbers
  pub spot : c.spot ≡ spot_of (point_in (drop n fields))
  pub few : length fields ≤ 512

-- ---- what a line says

-- a line's edit and its keys, in 256 places of which those past the last key are 0
unfoldable pub parsed_of : Line → Option Parsed
parsed_of unreadable = None
parsed_of (says edit keys) = Some (record { edit = edit; keys = padded keys; count = length keys })

-- exactly n numbers
unfoldable pub exactly_of : ℕ → Numbers → Option (List ℕ)
exactly_of n no_numbers = None
exactly_of n (numbers ns) = cond (eqb (length ns) n) (Some (get_or ns 0 0 ∷ get_or ns 1 0 ∷ get_or ns 2 0 ∷ get_or ns 3 0 ∷ [])) None

-- numbers, of which two count, and a point
unfoldable pub aim_of : Numbers → Point → Option (ℕ × ℕ × Position)
aim_of no_numbers p = None
aim_of (numbers ns) no_point = None
aim_of (numbers ns) (point p) = Some (get_or ns 0 0, get_or ns 1 0, p)

-- what a line of this letter says, whatever fields these are the contents of
abbrev pub Tells : ℕ → Contents → Option Parsed → Type 0
Tells letter c r = (fields : List Text) → Holds c (most_numbers letter) fields → r ≡ parsed_of (line_of letter fields)
