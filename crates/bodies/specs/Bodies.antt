-- Where a file's records stand, and a record's key as one number: what the functions that read a file are stated with (request L3).
use Prim.Native.Nat.{ℕ, ◌+◌, ◌*◌, ◌<◌}
use mathlib.Core.Bool.{Bool, true, false, cond}
use Rattle.std.specs.Coded.{Unit-prop}
use Rattle.std.specs.Prelude.{Option, None, Some}
use mathlib.Core.List.{List, []}
use lib.ListN.{length, get_or, drop}
use lib.Dec.{T, eqb}
use Rattle.rules.specs.Table.{Table}
use Rattle.rules.specs.Script.{Text}
use Rattle.file.specs.File.{bytes_only, body_length, schema, head_length, offset_in, contents_in, length_fits, placed, in_place, body}

-- the widths of a kind's cells: vertices 0, arcs 1, edges 2, faces 3
abbrev pub widths : ℕ → List ℕ
widths kind = get_or schema kind []

-- the table of contents from a kind's entry on
abbrev pub entry : ℕ → Text → Text
entry kind t = drop (8 * kind) t

-- the records of a kind that a file holds
abbrev pub records_in : Text → ℕ → Table
records_in t kind = body (contents_in t) kind

-- where record i of a kind stands
unfoldable pub place : Text → ℕ → ℕ → ℕ
place t kind i = offset_in (entry kind t) + body_length (widths kind) i

-- a record's key as one number: of an arc's two cells the first decides, so it counts 2^32-fold
unfoldable pub key_number : ℕ → List ℕ → ℕ
key_number kind r = cond (eqb kind 1) (get_or r 0 0 * 4294967296 + get_or r 1 0) (get_or r 0 0)

abbrev pub has_number : ℕ → ℕ → List ℕ → Bool
has_number kind k r = eqb (key_number kind r) k

-- a text of bytes whose length is what its counts ask, and whose bodies stand where its offsets say
pub record Laid (t : Text) : Type 0 where
  pub bytes : T (bytes_only t)
  pub fits : T (length_fits t)
  pub stands : T (placed head_length schema t)

-- at most one proof of it
pub T_prop : (b : Bool) → IsProp (T b)
T_prop true = Unit-prop
T_prop false = λ x. absurd x

pub laid_prop : (t : Text) → IsProp (Laid t)
laid_prop t x y =
    λ i.
    record {
      bytes = T_prop (bytes_only t) x.bytes y.bytes i;
      fits = T_prop (length_fits t) x.fits y.fits i;
      stands = T_prop (placed head_length schema t) x.stands y.stands i;
    }

-- such a text has a record i of that kind
pub record Holds (t : Text) (kind i : ℕ) : Type 0 where
  pub laid : Laid t
  pub known : kind < 4
  pub within : i < length (records_in t kind)

-- such a text whose keys rise too
pub record Whole (t : Text) : Type 0 where
  pub laid : Laid t
  pub in_place : T (in_place t)

-- the link of a place that was found: none where it was not
abbrev pub link_of : Option ℕ → ℕ
link_of None = 0
link_of (Some i) = i + 1
