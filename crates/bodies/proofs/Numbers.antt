-- The number in the bytes at a place of a text, byte by byte; and that a text is made of bytes.
use Prim.Native.Nat.{ℕ, zero, suc, ◌+◌, ◌*◌, ◌≤◌, ◌<◌, zero-le, suc-le-suc}
use native.Mathlib.Numerals.{add-one}
use native.Mathlib.Omega.{arith}
use mathlib.Core.Path.{◌≡◌, refl, ap}
use mathlib.Core.List.{[], ◌∷◌}
use lib.ListN.{length, get_or, take, drop}
use lib.Seq.{drop-cons}
use lib.Dec.{T}
use Rattle.std.specs.Int.{w32, w64, from_le_bytes}
use Rattle.rules.specs.Script.{Text}
use Rattle.file.specs.File.{cell_in, bytes_only}
use Rattle.file.proofs.Cells.{bytes-cons, bytes-none}

-- bytes, each by its place
pub all-bytes : (t : Text) → ((i : ℕ) → i < length t → get_or t i 0 < 256) → T (bytes_only t)
all-bytes [] h = bytes-none
all-bytes (b ∷ t) h = bytes-cons b t (h 0 (suc-le-suc zero-le)) (all-bytes t (λ i l. h (suc i) (suc-le-suc l)))

-- a number to the text's end is its first byte, and 256 times the number behind it
byte-next : (bs : Text) (i : ℕ) → cell_in (drop i bs) ≡ get_or bs i 0 + 256 * cell_in (drop (suc i) bs)
unfolding cell_in
byte-next [] zero = omega arith
byte-next [] (suc i) = omega arith
byte-next (b ∷ bs) zero = refl
byte-next (b ∷ bs) (suc i) = byte-next bs i

none_left : (bs : Text) (i : ℕ) → length bs ≤ i → cell_in (drop i bs) ≡ 0
unfolding cell_in
none_left [] zero h = refl
none_left [] (suc i) h = refl
none_left (b ∷ bs) zero h = let z : ⊥ = omega arith in absurd z
none_left (b ∷ bs) (suc i) h = none_left bs i (omega arith)

-- a text of 4 bytes as a number, and of 8
pub four_bytes : (bs : Text) → length bs ≡ 4 → from_le_bytes w32 bs ≡ cell_in bs
four_bytes bs e =
    omega (arith, byte-next bs 0, byte-next bs 1, byte-next bs 2, byte-next bs 3, none_left bs 4 (omega arith))

pub eight_bytes : (bs : Text) → length bs ≡ 8 → from_le_bytes w64 bs ≡ cell_in bs
eight_bytes bs e =
    omega (arith, byte-next bs 0, byte-next bs 1, byte-next bs 2, byte-next bs 3, byte-next bs 4, byte-next bs 5, byte-next bs 6, byte-next bs 7, none_left bs 8 (omega arith))

-- a number is its first byte, and 256 times the number behind it
pub byte-first : (w : ℕ) (t : Text) (at : ℕ) → at < length t → cell_in (take (suc w) (drop at t)) ≡ get_or t at 0 + 256 * cell_in (take w (drop (at + 1) t))
unfolding cell_in
byte-first w t at h = rw (add-one at, drop-cons t at 0 h)

no_byte : (t : Text) (at : ℕ) → cell_in (take 0 (drop at t)) ≡ 0
unfolding cell_in
no_byte t at = refl

-- a number of 4 bytes at a place, byte by byte
pub four_bytes_at : (t : Text) (at : ℕ) → at + 4 ≤ length t
    → cell_in (take 4 (drop at t)) ≡ get_or t at 0 + 256 * (get_or t (at + 1) 0 + 256 * (get_or t (at + 2) 0 + 256 * get_or t (at + 3) 0))
four_bytes_at t at h =
    let a = byte-first 3 t at (omega arith) in
    let b = byte-first 2 t (at + 1) (omega arith) in
    let c = byte-first 1 t (at + 1 + 1) (omega arith) in
    let d = byte-first 0 t (at + 1 + 1 + 1) (omega arith) in
    let two : at + 1 + 1 ≡ at + 2 = omega arith in
    let three : at + 1 + 1 + 1 ≡ at + 3 = omega arith in
    omega (arith, no_byte t (at + 1 + 1 + 1 + 1), ap (λ (k : ℕ). get_or t k 0) two, ap (λ (k : ℕ). get_or t k 0) three)

-- a number of 8 bytes is one of 4 and, 2^32-fold, the next
pub eight-bytes : (t : Text) (at : ℕ) → at + 8 ≤ length t
    → cell_in (take 8 (drop at t)) ≡ cell_in (take 4 (drop at t)) + 4294967296 * cell_in (take 4 (drop (at + 4) t))
eight-bytes t at h =
    let a = byte-first 7 t at (omega arith) in
    let b = byte-first 6 t (at + 1) (omega arith) in
    let c = byte-first 5 t (at + 1 + 1) (omega arith) in
    let d = byte-first 4 t (at + 1 + 1 + 1) (omega arith) in
    let four : at + 1 + 1 + 1 + 1 ≡ at + 4 = omega arith in
    let two : at + 1 + 1 ≡ at + 2 = omega arith in
    let three : at + 1 + 1 + 1 ≡ at + 3 = omega arith in
    let next = ap (λ (k : ℕ). cell_in (take 4 (drop k t))) four in
    omega (arith, four_bytes_at t at (omega arith), next, ap (λ (k : ℕ). get_or t k 0) two, ap (λ (k : ℕ). get_or t k 0) three)
