-- Positions, moves, and when a coordinate is finite.
use Rattle.std.specs.Prelude.{ℕ, ◌-◌, ◌/◌, ◌%◌, ◌^◌, Bool, not, ◌&&◌, cond, List, [], ◌∷◌, length, get_or, Float, eqb, ltb}
use Rattle.std.specs.Float.{nan, binary64}
use Rattle.std.specs.Float.Ieee.{to_bits, of_bits, add, sub, mul, eq}
use Rattle.rules.specs.declared.Position.{Position}
use Rattle.rules.specs.declared.Move.{Move}
use Rattle.rules.specs.declared.Move.TheVariants.{Shift, Scale}

-- ---- coordinates

-- finite: its exponent field (bits 52 to 62) is not all ones
unfoldable pub exponent_field : ℕ → ℕ
exponent_field bits = bits / 2 ^ 52 % 2 ^ 11

unfoldable pub finite_number : Float → Bool
finite_number x = not (eqb (exponent_field (to_bits binary64 x)) 2047)

-- zero: all 64 bits are 0, so -0 is not
unfoldable pub zero_number : Float → Bool
zero_number x = eqb (to_bits binary64 x) 0

abbrev pub zero_float : Float
zero_float = of_bits binary64 0

-- ---- positions

abbrev pub position : Float → Float → Float → Position
position x y z = record { x = x; y = y; z = z }

-- a position's row in the table, and the position in a row. Reading through none, or past the table, gives zero
abbrev pub row_of : Position → List Float
row_of p = p.x ∷ p.y ∷ p.z ∷ []

abbrev pub position_of : List Float → Position
position_of r = position (get_or r 0 nan) (get_or r 1 nan) (get_or r 2 nan)

abbrev pub zero_position : Position
zero_position = position zero_float zero_float zero_float

unfoldable pub position_at : List (List Float) → ℕ → Position
position_at ps v = cond (not (eqb v 0) && ltb (v - 1) (length ps)) (position_of (get_or ps (v - 1) [])) zero_position

-- two positions in one spot: all three coordinates equal as floats, so that -0 equals 0
unfoldable pub same_place : Position → Position → Bool
same_place p q = eq p.x q.x && (eq p.y q.y && eq p.z q.z)

unfoldable pub finite_position : Position → Bool
finite_position p = finite_number p.x && (finite_number p.y && finite_number p.z)

unfoldable pub finite_row : List Float → Bool
finite_row r = finite_position (position_of r)

unfoldable pub zero_position_row : List Float → Bool
zero_position_row r = zero_number (get_or r 0 nan) && (zero_number (get_or r 1 nan) && zero_number (get_or r 2 nan))

-- ---- moves

-- Shift: each coordinate one rounded sum. Scale about a point by a factor: (p - o) * k + o in three rounded operations
abbrev pub shifted : Float → Float → Float
shifted p d = add binary64 p d

abbrev pub scaled : Float → Float → Float → Float
scaled p o k = add binary64 (mul binary64 (sub binary64 p o) k) o

unfoldable pub moved : Position → Move → Position
moved p (Shift dx dy dz) = position (shifted p.x dx) (shifted p.y dy) (shifted p.z dz)
moved p (Scale ox oy oz factor) = position (scaled p.x ox factor) (scaled p.y oy factor) (scaled p.z oz factor)

-- the numbers that a move gives are finite
unfoldable pub finite_move : Move → Bool
finite_move (Shift dx dy dz) = finite_position (position dx dy dz)
finite_move (Scale ox oy oz factor) = finite_position (position ox oy oz) && finite_number factor
