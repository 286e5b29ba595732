-- Lookup of a name's row in slots, each of which has a row plus one, or 0: from the slot that the name gives to the first that has 0, at
-- most 128 of them.
-- All that a proof asks of it is that one name finds one row.
use Rattle.std.specs.Prelude.{ℕ, zero, suc, ◌+◌, ◌-◌, ◌*◌, ◌/◌, ◌%◌, ◌<◌, ◌≡◌, Bool, not, cond, ◌||◌, List, get_or, set, eqb, ltb, Option, Some, None}

unfoldable pub slot_of : ℕ → ℕ
slot_of name = name * 3645161217 / 4194304 % 8192

unfoldable pub slot_after : ℕ → ℕ
slot_after slot = (slot + 1) % 8192

-- the name in a row, by its link
unfoldable pub name_of : List ℕ → ℕ → ℕ
name_of names row = cond (eqb row 0) 0 (cond (ltb 8192 row) 0 (get_or names (row - 1) 0))

-- at most so many slots, from this one on
unfoldable pub probe : List ℕ → List ℕ → ℕ → ℕ → ℕ → ℕ
probe slots names name zero slot = 0
probe slots names name (suc left) slot =
    let row = get_or slots slot 0 in
    let later = probe slots names name left (slot_after slot) in
    cond (eqb row 0) 0 (cond (eqb (name_of names row) name) row later)

unfoldable pub look_in : List ℕ → List ℕ → ℕ → ℕ
look_in slots names name = probe slots names name 128 (slot_of name)

-- the part that a name is of, 0 or 1; and whether a part has nothing to do with a name: it is none, or of the other part
unfoldable pub part_of : ℕ → ℕ
part_of name = name / 64 % 2

unfoldable pub passed_by : ℕ → ℕ → Bool
passed_by part name = eqb name 0 || not (eqb (part_of name) part)

-- row i has no name of the part, or its name finds it
unfoldable pub finds : List ℕ → List ℕ → ℕ → ℕ → Bool
finds slots names part i = passed_by part (get_or names i 0) || eqb (look_in slots names (get_or names i 0)) (i + 1)

-- two of the first n rows that have one name of the part are one row
abbrev pub DifferIn : List ℕ → ℕ → ℕ → Type 0
DifferIn names n part =
    (i j : ℕ) → i < n → j < n → (get_or names i 0 ≡ 0 → ⊥) → part_of (get_or names i 0) ≡ part → get_or names i 0 ≡ get_or names j 0 → i ≡ j

-- a free slot, where a row with the name would be found
abbrev pub Seat : List ℕ → List ℕ → ℕ → ℕ → Type 0
Seat slots names name s =
    (get_or slots s 0 ≡ 0) × ((v : ℕ) → (v ≡ 0 → ⊥) → name_of names v ≡ name → look_in (set slots s v) names name ≡ v)

-- the link of a row that was found, 0 for none
abbrev pub link_of : Option ℕ → ℕ
link_of None = 0
link_of (Some row) = row + 1

-- the slot where the search for a name ends: the lookup finds what the slot has, and if the slot is free, the name finds a row put there
abbrev pub EndsAt : List ℕ → List ℕ → ℕ → Option ℕ → Type 0
EndsAt slots names name None = look_in slots names name ≡ 0
EndsAt slots names name (Some slot) =
    (slot < 8192) × ((look_in slots names name ≡ get_or slots slot 0) × (get_or slots slot 0 ≡ 0 → Seat slots names name slot))

-- a free slot where a row with the name would be found, if one is given
abbrev pub SeatIf : List ℕ → List ℕ → ℕ → Option ℕ → Type 0
SeatIf slots names name None = Unit {0}
SeatIf slots names name (Some slot) = (slot < 8192) × Seat slots names name slot

-- row i has no name, or its name finds itself, or no row of the first n, or one with another name
unfoldable pub single : List ℕ → List ℕ → ℕ → ℕ → Bool
single slots names n i =
    let row = look_in slots names (get_or names i 0) in
    eqb (get_or names i 0) 0 || (eqb row (i + 1) || (ltb n row || not (eqb (name_of names row) (get_or names i 0))))
