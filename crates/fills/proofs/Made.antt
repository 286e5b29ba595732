-- The row that is made of a record, from its cells and the links found; and what a file that rows can hold says of each record.
use Prim.Native.Nat.{ℕ, ◌+◌, ◌<◌}
use mathlib.Core.Path.{◌≡◌, ap, sym, subst, ◌∙◌}
use mathlib.Core.Bool.{Bool, true, false, ◌&&◌, cond, false≢true}
use mathlib.Core.List.{List, [], ◌∷◌}
use lib.ListN.{length, get_or, take, drop}
use lib.Seq.{drop-drop}
use lib.Dec.{T, eqb, ltb→lt}
use Rattle.std.specs.Prelude.{Option, None, Some}
use Rattle.std.specs.Option.{is_some, unwrap_or}
use Rattle.fills.specs.declared.holding.StorableFile.{StorableFile}
use Rattle.bodies.proofs.Files.{whole}
use lib.Ieee.{Float, binary64, of_bits}
use lib.Ieee.Fits.{and_l, and_r}
use Rattle.rules.specs.Table.{Table, every}
use Rattle.rules.specs.Point.{finite_number}
use Rattle.rules.specs.Script.{Text}
use Rattle.proved.proofs.Rows.{T_true, every-at}
use Rattle.file.specs.File.{none_cell, Contents, cell_in, row_in, contents_in, by_key, by_ends, unless_none, vertex_row, position_row, arc_row, edge_row, face_row}
use Rattle.bodies.specs.Bodies.{records_in}
use Rattle.fills.specs.Fills.{name_in, key_fits, finite_record, storable, Storable}
use Rattle.fills.proofs.Finite.{finite-is}

-- ---- what rows can hold

pub stored : (f : StorableFile) → Storable f.whole.file.text.now
stored f = record { whole = whole f.whole; rows = f.rows }

key-held : (rows : Table) (i : ℕ) → T (every key_fits rows) → i < length rows → get_or (get_or rows i []) 0 0 < 4294967295
unfolding key_fits
key-held rows i h l = ltb→lt (get_or (get_or rows i []) 0 0) 4294967295 (every-at key_fits rows [] h i l)

module _ (t : Text) (S : Storable t) where
  vertices-held : T (every key_fits (records_in t 0))
  unfolding storable
  vertices-held = and_l (every key_fits (records_in t 0)) _ S.rows

  edges-held : T (every key_fits (records_in t 2))
  unfolding storable
  edges-held = and_l (every key_fits (records_in t 2)) _ (and_r (every key_fits (records_in t 0)) _ S.rows)

  others-held : T (every key_fits (records_in t 3) && every finite_record (records_in t 0))
  unfolding storable
  others-held = and_r (every key_fits (records_in t 2)) _ (and_r (every key_fits (records_in t 0)) _ S.rows)

  pub vertex-held : (i : ℕ) → i < length (records_in t 0) → get_or (get_or (records_in t 0) i []) 0 0 < 4294967295
  vertex-held i l = key-held (records_in t 0) i vertices-held l

  pub edge-held : (i : ℕ) → i < length (records_in t 2) → get_or (get_or (records_in t 2) i []) 0 0 < 4294967295
  edge-held i l = key-held (records_in t 2) i edges-held l

  pub face-held : (i : ℕ) → i < length (records_in t 3) → get_or (get_or (records_in t 3) i []) 0 0 < 4294967295
  face-held i l = key-held (records_in t 3) i (and_l (every key_fits (records_in t 3)) _ others-held) l

  -- each coordinate is finite
  module _ (i : ℕ) (l : i < length (records_in t 0)) where
    three : T (finite_number (of_bits binary64 (get_or (get_or (records_in t 0) i []) 1 0))
        && (finite_number (of_bits binary64 (get_or (get_or (records_in t 0) i []) 2 0)) && finite_number (of_bits binary64 (get_or (get_or (records_in t 0) i []) 3 0))))
    three =
        subst T (finite-is (get_or (records_in t 0) i []))
        (every-at finite_record (records_in t 0) [] (and_r (every key_fits (records_in t 3)) _ others-held) i l)

    pub x-held : (b : ℕ) → b ≡ get_or (get_or (records_in t 0) i []) 1 0 → finite_number (of_bits binary64 b) ≡ true
    x-held b e = rw e (T_true _ (and_l (finite_number (of_bits binary64 (get_or (get_or (records_in t 0) i []) 1 0))) _ three))

    pub y-held : (b : ℕ) → b ≡ get_or (get_or (records_in t 0) i []) 2 0 → finite_number (of_bits binary64 b) ≡ true
    y-held b e =
        rw e (T_true _ (and_l (finite_number (of_bits binary64 (get_or (get_or (records_in t 0) i []) 2 0))) _
        (and_r (finite_number (of_bits binary64 (get_or (get_or (records_in t 0) i []) 1 0))) _ three)))

    pub z-held : (b : ℕ) → b ≡ get_or (get_or (records_in t 0) i []) 3 0 → finite_number (of_bits binary64 b) ≡ true
    z-held b e =
        rw e (T_true _ (and_r (finite_number (of_bits binary64 (get_or (get_or (records_in t 0) i []) 2 0))) _
        (and_r (finite_number (of_bits binary64 (get_or (get_or (records_in t 0) i []) 1 0))) _ three)))

-- ---- rows

-- what is found of a cell that names a key, or says none
pub when-named : (f : ℕ → ℕ) (cell k link : ℕ) (o : Option ℕ) → o ≡ name_in cell → o ≡ Some k → link ≡ f k → link ≡ unless_none cell (f cell)
unfolding unless_none
when-named f cell k link o e q h = go (eqb cell none_cell) (sym e ∙ q)
  where
    go : (b : Bool) → cond b None (Some cell) ≡ Some k → link ≡ cond b 0 (f cell)
    go true n = absurd (false≢true (ap is_some n))
    go false n = h ∙ ap f (sym (ap (λ (x : Option ℕ). unwrap_or x 0) n))

pub when-none : (cell l link : ℕ) (o : Option ℕ) → o ≡ name_in cell → o ≡ None → link ≡ 0 → link ≡ unless_none cell l
unfolding unless_none
when-none cell l link o e q h = go (eqb cell none_cell) (sym e ∙ q)
  where
    go : (b : Bool) → cond b None (Some cell) ≡ None → link ≡ cond b 0 l
    go true n = h
    go false n = absurd (false≢true (sym (ap is_some n)))

module _ (c : Contents) (r : List ℕ) where
  pub vertex-made : (k e l : ℕ) → k ≡ get_or r 0 0 → e ≡ get_or r 4 0 → l ≡ unless_none e (by_ends c k e) → (k + 1) ∷ l ∷ [] ≡ vertex_row c r
  unfolding vertex_row
  vertex-made k e l ek ee el = rw (el, ek, ee)

  pub position-made : (x y z : ℕ) (p q s : Float) → x ≡ get_or r 1 0 → y ≡ get_or r 2 0 → z ≡ get_or r 3 0
      → p ≡ of_bits binary64 x → q ≡ of_bits binary64 y → s ≡ of_bits binary64 z → p ∷ q ∷ s ∷ [] ≡ position_row r
  unfolding position_row
  position-made x y z p q s ex ey ez ep eq es = rw (ep, eq, es, ex, ey, ez)

  pub arc-made : (a b n p f e la lb ln lp lf le : ℕ)
      → a ≡ get_or r 0 0 → b ≡ get_or r 1 0 → n ≡ get_or r 2 0 → p ≡ get_or r 3 0 → f ≡ get_or r 4 0 → e ≡ get_or r 5 0
      → la ≡ by_key c 0 a → lb ≡ by_key c 0 b → ln ≡ unless_none n (by_ends c b n) → lp ≡ unless_none p (by_ends c p a)
      → lf ≡ unless_none f (by_key c 3 f) → le ≡ by_key c 2 e → la ∷ lb ∷ ln ∷ lp ∷ lf ∷ le ∷ [] ≡ arc_row c r
  unfolding arc_row
  arc-made a b n p f e la lb ln lp lf le ea eb en ep ef ee xa xb xn xp xf xe = rw (xa, xb, xn, xp, xf, xe, ea, eb, en, ep, ef, ee)

  pub edge-made : (k a b l m : ℕ) → k ≡ get_or r 0 0 → a ≡ get_or r 1 0 → b ≡ get_or r 2 0 → l ≡ by_ends c a b → m ≡ by_ends c b a
      → (k + 1) ∷ l ∷ m ∷ [] ≡ edge_row c r
  unfolding edge_row
  edge-made k a b l m ek ea eb el em = rw (el, em, ek, ea, eb)

  pub face-made : (k a b m l : ℕ) → k ≡ get_or r 0 0 → a ≡ get_or r 1 0 → b ≡ get_or r 2 0 → m ≡ get_or r 3 0 → l ≡ by_ends c a b
      → (k + 1) ∷ l ∷ m ∷ [] ≡ face_row c r
  unfolding face_row
  face-made k a b m l ek ea eb em el = rw (el, ek, ea, eb, em)

-- the counters, one after the other
pub counters-made : (t : Text) (a b d : ℕ) → a ≡ cell_in (take 4 (drop 32 t)) → b ≡ cell_in (take 4 (drop 36 t)) → d ≡ cell_in (take 4 (drop 40 t))
    → a ∷ b ∷ d ∷ [] ≡ (contents_in t).counters
unfolding contents_in row_in
counters-made t a b d ea eb ed =
    rw (ea, eb, ed, drop-drop 4 32 t, drop-drop 4 36 t)
