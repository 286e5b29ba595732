-- What is promised of mesh files (request L3), and what the promises are stated with. A mesh's tables can hold u32 numbers and coordinates
-- of 64 bits: no call can be lent others, and a number that fits no u32 has no bytes, so the promises name it.
use Rattle.std.specs.Prelude.{ℕ, ◌^◌, ◌≤◌, ◌<◌, ◌≡◌, ◌↔◌, length, take, drop, T}
use Rattle.std.specs.Float.{binary64}
use Rattle.std.specs.Float.Ieee.{fits}
use Rattle.rules.specs.Table.{Table, count, used}
use Rattle.rules.specs.Mesh.{Mesh, Room, mark}
use Rattle.rules.specs.Records.{records}
use Rattle.rules.specs.Sound.{sound}
use Rattle.rules.specs.Call.{zeroed}
use Rattle.rules.specs.Script.{Text}
use Rattle.proved.specs.Facts.{coordinate}
use Rattle.file.specs.File.{row_fits, counter_widths, file_of, length_fits, in_place, contents_in, mesh_of, sizes_serve, tables_hold, read_file, write_file}

-- what tables of u32 and of 64-bit coordinates hold
pub record Stored (m : Mesh) : Type 0 where
  -- three counters, each a u32
  pub counters : T (row_fits counter_widths m.counters)
  -- marks are u32
  pub marks : (f : ℕ) → mark m f < 256 ^ 4
  -- coordinates are of 64 bits
  pub coordinates : (v c : ℕ) → 1 ≤ v → v ≤ length m.positions → c < 3 → T (fits binary64 (coordinate m v c))

-- a table has rows for the records of another
abbrev pub RowsFor : Table → Table → Type 0
RowsFor t u = count used t ≤ length u

-- "more records than the lent tables hold" are not in m
pub record Enough (lent m : Mesh) : Type 0 where
  pub vertices : RowsFor m.vertices lent.vertices
  pub arcs : RowsFor m.arcs lent.arcs
  pub edges : RowsFor m.edges lent.edges
  pub faces : RowsFor m.faces lent.faces

-- "Writing then reading gives the same records": reading the file of m is accepted, and the mesh that it leaves is sound, with the records
-- and counters of m
pub record SameRead (lent m : Mesh) (one two : Room) : Type 0 where
  pub accepted : (read_file lent one two (file_of m)).number ≡ 0
  pub is-sound : T (sound (read_file lent one two (file_of m)).mesh)
  pub same-records : records (read_file lent one two (file_of m)).mesh ≡ records m

-- the answers of reading, each exactly where 02 gives it
pub record ReadAnswers (lent : Mesh) (one two : Room) (text : Text) : Type 0 where
  pub sizes-1 : ((read_file lent one two text).number ≡ 1) ↔ (T (sizes_serve lent one two) → ⊥)
  pub length-10 : ((read_file lent one two text).number ≡ 10) ↔ (T (sizes_serve lent one two) × (T (length_fits text) → ⊥))
  pub places-11 : ((read_file lent one two text).number ≡ 11) ↔ (T (sizes_serve lent one two) × (T (length_fits text) × (T (in_place text) → ⊥)))
  pub room-7 :
      ((read_file lent one two text).number ≡ 7)
      ↔ (T (sizes_serve lent one two) × (T (length_fits text) × (T (in_place text) × (T (tables_hold lent (contents_in text)) → ⊥))))
  pub unsound-12 :
      ((read_file lent one two text).number ≡ 12)
      ↔ (T (sizes_serve lent one two) × (T (length_fits text) × (T (in_place text) × (T (tables_hold lent (contents_in text)) × (T (sound (mesh_of lent (contents_in text))) → ⊥)))))
  pub accepted-0 :
      ((read_file lent one two text).number ≡ 0)
      ↔ (T (sizes_serve lent one two) × (T (length_fits text) × (T (in_place text) × (T (tables_hold lent (contents_in text)) × T (sound (mesh_of lent (contents_in text)))))))

-- what reading leaves: on a refusal the mesh and its counters, else a sound mesh; rooms that are zero, or untouched with 1
pub record ReadLeaves (lent : Mesh) (one two : Room) (text : Text) : Type 0 where
  pub refused-keeps : ((read_file lent one two text).number ≡ 0 → ⊥) → (read_file lent one two text).mesh ≡ lent
  pub accepted-sound : (read_file lent one two text).number ≡ 0 → T (sound (read_file lent one two text).mesh)
  pub rooms-kept : (read_file lent one two text).number ≡ 1 → ((read_file lent one two text).one ≡ one) × ((read_file lent one two text).two ≡ two)
  pub rooms-zero :
      ((read_file lent one two text).number ≡ 1 → ⊥)
      → ((read_file lent one two text).one ≡ zeroed one) × ((read_file lent one two text).two ≡ zeroed two)

-- what writing answers and leaves: 1 for an unsound mesh, then 7 if the lent bytes are too few, else the length and the file; other bytes stay
pub record WriteLeaves (m : Mesh) (out : Text) : Type 0 where
  pub unsound-1 : ((write_file m out).number ≡ 1) ↔ (T (sound m) → ⊥)
  pub few-7 : ((write_file m out).number ≡ 7) ↔ (T (sound m) × (length out < length (file_of m)))
  pub written-0 : ((write_file m out).number ≡ 0) ↔ (T (sound m) × (length (file_of m) ≤ length out))
  pub length-returned : (write_file m out).number ≡ 0 → (write_file m out).count ≡ length (file_of m)
  pub file-written : (write_file m out).number ≡ 0 → take (length (file_of m)) (write_file m out).bytes ≡ file_of m
  pub others-stay : drop (length (file_of m)) (write_file m out).bytes ≡ drop (length (file_of m)) out
  pub as_many : length (write_file m out).bytes ≡ length out
  pub refused-keeps : ((write_file m out).number ≡ 0 → ⊥) → ((write_file m out).bytes ≡ out) × ((write_file m out).count ≡ 0)
