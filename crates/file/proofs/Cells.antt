-- The mesh file (request L3), cell by cell, record by record, body by body: what is written is read back, and what is read is written
-- back. Said once over the widths: nothing here names a body.
use Prim.Native.Nat.{ℕ, zero, suc, ◌+◌, ◌*◌, ◌/◌, ◌%◌, ◌^◌, ◌≤◌, ◌<◌}
use native.Mathlib.Nat.{pow-suc, pow-zero, pow-le-pow_right, mul-suc, mul-zero}
use native.Mathlib.Omega.{arith}
use mathlib.Core.Path.{◌≡◌, refl, ap, sym, ◌∙◌}
use mathlib.Core.List.{List, [], ◌∷◌, ◌++◌, append_assoc}
use lib.ListN.{length, get_or, take, drop, length-append, length-take, length-drop}
use lib.Seq.{take_at, drop_at, take-add, length-take-le}
use lib.Dec.{T, ltb, ltb→lt}
use lib.Ieee.Fits.{and_l, and_r, and_i}
use borrow.Author.Tests.{lt-ltb}
use Rattle.rules.specs.Table.{Table, every}
use Rattle.rules.specs.Script.{Text}
use Rattle.proved.proofs.Rows.{true-T}
use Rattle.file.specs.File.{cell_text, cell_in, bytes_only, row_text, row_in, total, row_fits, body_text, body_in, body_length}

-- ---- tests

pub below-T : (a b : ℕ) → a < b → T (ltb a b)
below-T a b h = true-T (lt-ltb a b h)

-- ---- bytes

pub bytes-cons : (b : ℕ) (t : Text) → b < 256 → T (bytes_only t) → T (bytes_only (b ∷ t))
unfolding bytes_only every
bytes-cons b t h k = and_i (ltb b 256) (every (λ b. ltb b 256) t) (below-T b 256 h) k

pub bytes-head : (b : ℕ) (t : Text) → T (bytes_only (b ∷ t)) → b < 256
unfolding bytes_only every
bytes-head b t h = ltb→lt b 256 (and_l (ltb b 256) (every (λ b. ltb b 256) t) h)

pub bytes-tail : (b : ℕ) (t : Text) → T (bytes_only (b ∷ t)) → T (bytes_only t)
unfolding bytes_only every
bytes-tail b t h = and_r (ltb b 256) (every (λ b. ltb b 256) t) h

pub bytes-none : T (bytes_only [])
unfolding bytes_only every
bytes-none = tt

pub bytes-append : (s t : Text) → T (bytes_only s) → T (bytes_only t) → T (bytes_only (s ++ t))
bytes-append [] t h k = k
bytes-append (b ∷ s) t h k = bytes-cons b (s ++ t) (bytes-head b s h) (bytes-append s t (bytes-tail b s h) k)

pub bytes_take : (n : ℕ) (t : Text) → T (bytes_only t) → T (bytes_only (take n t))
bytes_take zero t h = bytes-none
bytes_take (suc n) [] h = bytes-none
bytes_take (suc n) (b ∷ t) h = bytes-cons b (take n t) (bytes-head b t h) (bytes_take n t (bytes-tail b t h))

pub bytes_drop : (n : ℕ) (t : Text) → T (bytes_only t) → T (bytes_only (drop n t))
bytes_drop zero t h = h
bytes_drop (suc n) [] h = h
bytes_drop (suc n) (b ∷ t) h = bytes_drop n t (bytes-tail b t h)

-- ---- cells

pub cell-length : (w n : ℕ) → length (cell_text w n) ≡ w
unfolding cell_text
cell-length zero n = refl
cell-length (suc w) n = ap suc (cell-length w (n / 256))

pub cell-bytes : (w n : ℕ) → T (bytes_only (cell_text w n))
unfolding cell_text
cell-bytes zero n = bytes-none
cell-bytes (suc w) n = bytes-cons (n % 256) (cell_text w (n / 256)) (omega arith) (cell-bytes w (n / 256))

-- a number that fits is read as it was written
pub cell-back : (w n : ℕ) → n < 256 ^ w → cell_in (cell_text w n) ≡ n
unfolding cell_text cell_in
cell-back zero n h = omega (arith, pow-zero 256)
cell-back (suc w) n h =
    let q : n / 256 < 256 ^ w = omega (arith, pow-suc 256 w) in
    omega (arith, cell-back w (n / 256) q)

-- bytes are written as they were read
pub text-back : (t : Text) → T (bytes_only t) → cell_text (length t) (cell_in t) ≡ t
unfolding cell_text cell_in
text-back [] h = refl
text-back (b ∷ t) h =
    let l : b < 256 = bytes-head b t h in
    let low : (b + 256 * cell_in t) % 256 ≡ b = omega arith in
    let high : (b + 256 * cell_in t) / 256 ≡ cell_in t = omega arith in
    rw (low, high) (ap (λ (r : Text). b ∷ r) (text-back t (bytes-tail b t h)))

-- and make a number that fits
pub cell-fits : (t : Text) → T (bytes_only t) → cell_in t < 256 ^ length t
unfolding cell_in
cell-fits [] h = omega (arith, pow-zero 256)
cell-fits (b ∷ t) h = omega (arith, pow-suc 256 (length t), bytes-head b t h, cell-fits t (bytes-tail b t h))

-- ---- records

pub row-length : (ws r : List ℕ) → length (row_text ws r) ≡ total ws
unfolding row_text total
row-length [] r = refl
row-length (w ∷ ws) r =
    length-append (cell_text w (get_or r 0 0)) (row_text ws (drop 1 r))
    ∙ omega (arith, cell-length w (get_or r 0 0), row-length ws (drop 1 r))

pub row-bytes : (ws r : List ℕ) → T (bytes_only (row_text ws r))
unfolding row_text
row-bytes [] r = bytes-none
row-bytes (w ∷ ws) r = bytes-append (cell_text w (get_or r 0 0)) (row_text ws (drop 1 r)) (cell-bytes w (get_or r 0 0)) (row-bytes ws (drop 1 r))

-- a record whose cells fit is read as it was written, whatever stands behind it
pub row_back : (ws r : List ℕ) (t : Text) → T (row_fits ws r) → row_in ws (row_text ws r ++ t) ≡ r
unfolding row_text row_in row_fits
row_back [] [] t h = refl
row_back [] (c ∷ cs) t h = absurd h
row_back (w ∷ ws) [] t h = absurd h
row_back (w ∷ ws) (c ∷ cs) t h =
    let split : (cell_text w c ++ row_text ws cs) ++ t ≡ cell_text w c ++ (row_text ws cs ++ t) = append_assoc (cell_text w c) (row_text ws cs) t in
    let front : take w (cell_text w c ++ (row_text ws cs ++ t)) ≡ cell_text w c = take_at (cell_text w c) (row_text ws cs ++ t) w (cell-length w c) in
    let back : drop w (cell_text w c ++ (row_text ws cs ++ t)) ≡ row_text ws cs ++ t = drop_at (cell_text w c) (row_text ws cs ++ t) w (cell-length w c) in
    rw (split, front, back, cell-back w c (ltb→lt c (256 ^ w) (and_l (ltb c (256 ^ w)) (row_fits ws cs) h)))
    (ap (λ (r : List ℕ). c ∷ r) (row_back ws cs t (and_r (ltb c (256 ^ w)) (row_fits ws cs) h)))

-- bytes that are enough for a record are written as they were read
pub row-text-back : (ws : List ℕ) (t : Text) → T (bytes_only t) → total ws ≤ length t → row_text ws (row_in ws t) ≡ take (total ws) t
unfolding row_text row_in total
row-text-back [] t h l = refl
row-text-back (w ∷ ws) t h l =
    let many : length (take w t) ≡ w = length-take-le w t (omega arith) in
    let cell : cell_text w (cell_in (take w t)) ≡ take w t =
    ap (λ (n : ℕ). cell_text n (cell_in (take w t))) (sym many) ∙ text-back (take w t) (bytes_take w t h) in
    let rest : row_text ws (row_in ws (drop w t)) ≡ take (total ws) (drop w t) =
    row-text-back ws (drop w t) (bytes_drop w t h) (omega (arith, length-drop w t)) in
    rw (cell, rest) (sym (take-add w (total ws) t))

-- a record that is read fits
pub row_fits_lem : (ws : List ℕ) (t : Text) → T (bytes_only t) → T (row_fits ws (row_in ws t))
unfolding row_fits row_in
row_fits_lem [] t h = tt
row_fits_lem (w ∷ ws) t h =
    let short : length (take w t) ≤ w = omega (arith, length-take w t) in
    let most : 256 ^ length (take w t) ≤ 256 ^ w = pow-le-pow_right (omega arith) short in
    let fits : cell_in (take w t) < 256 ^ w = omega (arith, cell-fits (take w t) (bytes_take w t h)) in
    and_i (ltb (cell_in (take w t)) (256 ^ w)) (row_fits ws (row_in ws (drop w t)))
    (below-T (cell_in (take w t)) (256 ^ w) fits)
    (row_fits_lem ws (drop w t) (bytes_drop w t h))

-- ---- bodies

pub body-space : (ws : List ℕ) (n : ℕ) → body_length ws (suc n) ≡ total ws + body_length ws n
unfolding body_length
body-space ws n = omega (arith, mul-suc (total ws) n)

pub body-none : (ws : List ℕ) → body_length ws 0 ≡ 0
unfolding body_length
body-none ws = mul-zero (total ws)

pub body-length : (ws : List ℕ) (rows : Table) → length (body_text ws rows) ≡ body_length ws (length rows)
unfolding body_text
body-length ws [] = sym (body-none ws)
body-length ws (r ∷ rs) =
    length-append (row_text ws r) (body_text ws rs)
    ∙ omega (arith, row-length ws r, body-length ws rs, body-space ws (length rs))

pub body_bytes : (ws : List ℕ) (rows : Table) → T (bytes_only (body_text ws rows))
unfolding body_text
body_bytes ws [] = bytes-none
body_bytes ws (r ∷ rs) = bytes-append (row_text ws r) (body_text ws rs) (row-bytes ws r) (body_bytes ws rs)

-- so many records are read as are asked for
pub body-count : (ws : List ℕ) (n : ℕ) (t : Text) → length (body_in ws n t) ≡ n
unfolding body_in
body-count ws zero t = refl
body-count ws (suc n) t = ap suc (body-count ws n (drop (total ws) t))

-- a body whose records fit is read as it was written, whatever stands behind it
pub body_back : (ws : List ℕ) (rows : Table) (t : Text) → T (every (row_fits ws) rows) → body_in ws (length rows) (body_text ws rows ++ t) ≡ rows
unfolding body_text body_in every
body_back ws [] t h = refl
body_back ws (r ∷ rs) t h =
    let split : (row_text ws r ++ body_text ws rs) ++ t ≡ row_text ws r ++ (body_text ws rs ++ t) = append_assoc (row_text ws r) (body_text ws rs) t in
    let back : drop (total ws) (row_text ws r ++ (body_text ws rs ++ t)) ≡ body_text ws rs ++ t =
    drop_at (row_text ws r) (body_text ws rs ++ t) (total ws) (row-length ws r) in
    rw (split, back, row_back ws r (body_text ws rs ++ t) (and_l (row_fits ws r) (every (row_fits ws) rs) h))
    (ap (λ (l : Table). r ∷ l) (body_back ws rs t (and_r (row_fits ws r) (every (row_fits ws) rs) h)))

-- bytes that are enough for a body are written as they were read
pub body-text-back : (ws : List ℕ) (n : ℕ) (t : Text) → T (bytes_only t) → body_length ws n ≤ length t
    → body_text ws (body_in ws n t) ≡ take (body_length ws n) t
unfolding body_text body_in
body-text-back ws zero t h l = ap (λ (k : ℕ). take k t) (sym (body-none ws))
body-text-back ws (suc n) t h l =
    let e : body_length ws (suc n) ≡ total ws + body_length ws n = body-space ws n in
    let row : row_text ws (row_in ws t) ≡ take (total ws) t = row-text-back ws t h (omega arith) in
    let rest : body_text ws (body_in ws n (drop (total ws) t)) ≡ take (body_length ws n) (drop (total ws) t) =
    body-text-back ws n (drop (total ws) t) (bytes_drop (total ws) t h) (omega (arith, length-drop (total ws) t)) in
    rw (row, rest, e) (sym (take-add (total ws) (body_length ws n) t))

-- the records that are read fit
pub body-fits : (ws : List ℕ) (n : ℕ) (t : Text) → T (bytes_only t) → T (every (row_fits ws) (body_in ws n t))
unfolding body_in every
body-fits ws zero t h = tt
body-fits ws (suc n) t h =
    and_i (row_fits ws (row_in ws t)) (every (row_fits ws) (body_in ws n (drop (total ws) t))) (row_fits_lem ws t h) (body-fits ws n (drop (total ws) t) (bytes_drop (total ws) t h))
