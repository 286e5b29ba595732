-- A file's layout, kind by kind: what the counts ask, where offsets stand, and where a record and its cells are.
use Prim.Native.Nat.{ℕ, zero, suc, ◌+◌, ◌*◌, ◌≤◌, ◌<◌}
use native.Mathlib.Nat.{le_of_suc-le-suc, not-suc-le-zero, mul-le-mul_left, mul-suc}
use native.Mathlib.Numerals.{add-one}
use native.Mathlib.Omega.{arith}
use mathlib.Core.Path.{◌≡◌, ap, sym, subst, ◌∙◌}
use mathlib.Core.Bool.{true, false, ◌&&◌}
use mathlib.Core.List.{List, [], ◌∷◌}
use lib.ListN.{length, get_or, take, drop}
use lib.Seq.{drop-cons, drop-drop}
use lib.Dec.{eqb}
use borrow.Author.Tests.{le-leb, lt-leb, eq-eqb, ne_eqb}
use Rattle.rules.specs.Table.{Table}
use Rattle.rules.specs.Script.{Text}
use Rattle.file.specs.File.{cell_in, total, body_in, body_length, schema, count_in, offset_in, contents_in, asked, length_fits, placed, body}
use Rattle.file.proofs.Cells.{body-count, bytes_drop}
use Rattle.file.proofs.Whole.{long-enough, length-is, count_fits}
use Rattle.file.proofs.At.{cell_at, record-at, entry_at, entry_place, body_at, offset_at}
use Rattle.bodies.specs.Bodies.{widths, entry, records_in, place, Laid, Holds}

-- ---- kind by kind

next-entry : (kind : ℕ) (t : Text) → drop 8 (entry kind t) ≡ entry (kind + 1) t
next-entry kind t = let e : 8 * kind + 8 ≡ 8 * (kind + 1) = omega arith in drop-drop 8 (8 * kind) t ∙ ap (λ (k : ℕ). drop k t) e

pub offset-place : (kind : ℕ) (t : Text) → offset_in (entry kind t) ≡ cell_in (take 4 (drop (8 * kind + 4) t))
unfolding offset_in
offset-place kind t = ap (λ (r : Text). cell_in (take 4 r)) (drop-drop 4 (8 * kind) t)

-- what the counts from a kind on ask
pub asked-more : (kind : ℕ) (t : Text) → kind < 4
    → asked (drop kind schema) (entry kind t) ≡ body_length (widths kind) (count_in (entry kind t)) + asked (drop (kind + 1) schema) (entry (kind + 1) t)
unfolding asked
asked-more kind t h = rw (drop-cons schema kind [] h, next-entry kind t, add-one kind)

-- whether the bodies from a kind on stand in place
pub placed-more : (at kind : ℕ) (t : Text) → kind < 4
    → placed at (drop kind schema) (entry kind t)
    ≡ (eqb (offset_in (entry kind t)) at && placed (at + body_length (widths kind) (count_in (entry kind t))) (drop (kind + 1) schema) (entry (kind + 1) t))
unfolding placed
placed-more at kind t h = rw (drop-cons schema kind [] h, next-entry kind t, add-one kind)

-- ---- 10 and 11, a turn of the loop over the kinds

pub asked-step : (t : Text) (kind k at n s : ℕ) → kind < 4 → k ≡ kind → 44 + asked schema t ≡ at + asked (drop kind schema) (entry kind t)
    → n ≡ count_in (entry k t) → s ≡ body_length (widths k) n → 44 + asked schema t ≡ at + s + asked (drop (kind + 1) schema) (entry (kind + 1) t)
asked-step t kind k at n s h q e en es =
    let more = asked-more kind t h in
    let same : s ≡ body_length (widths kind) (count_in (entry kind t)) = es ∙ rw (en, q) in
    omega arith

none-asked : (kind : ℕ) (t : Text) → kind ≡ 4 → asked (drop kind schema) t ≡ 0
unfolding asked
none-asked kind t e = ap (λ (k : ℕ). asked (drop k schema) t) e

pub fits-is : (t : Text) (kind at : ℕ) → 44 ≤ length t → kind ≡ 4 → 44 + asked schema t ≡ at + asked (drop kind schema) (entry kind t)
    → eqb (length t) at ≡ length_fits t
unfolding length_fits
fits-is t kind at h k e =
    let none = none-asked kind (entry kind t) k in
    let same : at ≡ 44 + asked schema t = omega arith in
    ap (eqb (length t)) same ∙ rw (le-leb 44 (length t) h)

pub too_short : (t : Text) → length t < 44 → false ≡ length_fits t
unfolding length_fits
too_short t h = rw (lt-leb 44 (length t) h)

pub placed-step : (t : Text) (kind k at n s : ℕ) → kind < 4 → k ≡ kind → placed 44 schema t ≡ placed at (drop kind schema) (entry kind t)
    → offset_in (entry k t) ≡ at → n ≡ count_in (entry k t) → s ≡ body_length (widths k) n
    → placed 44 schema t ≡ placed (at + s) (drop (kind + 1) schema) (entry (kind + 1) t)
placed-step t kind k at n s h q e eo en es =
    let same : s ≡ body_length (widths kind) (count_in (entry kind t)) = es ∙ rw (en, q) in
    e ∙ placed-more at kind t h
    ∙ rw (eq-eqb (offset_in (entry kind t)) at (ap (λ (j : ℕ). offset_in (entry j t)) (sym q) ∙ eo))
    (ap (λ (j : ℕ). placed (at + j) (drop (kind + 1) schema) (entry (kind + 1) t)) (sym same))

pub placed-stop : (t : Text) (kind k at : ℕ) → kind < 4 → k ≡ kind → placed 44 schema t ≡ placed at (drop kind schema) (entry kind t)
    → (offset_in (entry k t) ≡ at → ⊥) → false ≡ placed 44 schema t
placed-stop t kind k at h q e ne =
    sym (e ∙ placed-more at kind t h ∙ rw (ne_eqb (offset_in (entry kind t)) at (λ o. ne (ap (λ (j : ℕ). offset_in (entry j t)) q ∙ o))))

pub placed_end : (t : Text) (kind at : ℕ) → kind ≡ 4 → placed 44 schema t ≡ placed at (drop kind schema) (entry kind t) → true ≡ placed 44 schema t
unfolding placed
placed_end t kind at k e = sym (e ∙ ap (λ (j : ℕ). placed at (drop j schema) (entry kind t)) k)

-- ---- a record, and its cells

-- the bodies before one and it itself are among all
asked-within : (wss : List (List ℕ)) (toc : Text) (k : ℕ) → k < length wss
    → asked (take k wss) toc + body_length (get_or wss k []) (count_in (entry_at k toc)) ≤ asked wss toc
unfolding asked entry_at
asked-within [] toc k l = absurd (not-suc-le-zero l)
asked-within (ws ∷ wss) toc zero l = omega arith
asked-within (ws ∷ wss) toc (suc k) l =
    let rest = asked-within wss (drop 8 toc) k (le_of_suc-le-suc l) in
    omega arith

module _ (t : Text) (L : Laid t) where
  pub head-there : 44 ≤ length t
  head-there = long-enough t L.fits

  -- the offset says where a body stands
  offset-is : (kind : ℕ) → kind < 4 → offset_in (entry kind t) ≡ 44 + asked (take kind schema) t
  offset-is kind h = ap offset_in (sym (entry_place kind t)) ∙ offset_at 44 schema t kind L.stands h

  pub records-are : (kind : ℕ) → kind < 4 → records_in t kind ≡ body_in (widths kind) (count_in (entry kind t)) (drop (offset_in (entry kind t)) t)
  unfolding body contents_in
  records-are kind h =
      body_at schema t (drop 44 t) kind h
      ∙ ap (λ (r : Text). body_in (widths kind) (count_in r) (drop (asked (take kind schema) t) (drop 44 t))) (entry_place kind t)
      ∙ ap (body_in (widths kind) (count_in (entry kind t))) (drop-drop (asked (take kind schema) t) 44 t ∙ ap (λ (k : ℕ). drop k t) (sym (offset-is kind h)))

  pub count-is : (kind : ℕ) → kind < 4 → count_in (entry kind t) ≡ length (records_in t kind)
  count-is kind h =
      sym (ap (λ (b : Table). length b) (records-are kind h) ∙ body-count (widths kind) (count_in (entry kind t)) (drop (offset_in (entry kind t)) t))

  -- all of a body stands in the text
  body-within : (kind : ℕ) → kind < 4 → offset_in (entry kind t) + body_length (widths kind) (count_in (entry kind t)) ≤ length t
  body-within kind h =
      let inside = asked-within schema t kind h in
      let same : body_length (widths kind) (count_in (entry_at kind t)) ≡ body_length (widths kind) (count_in (entry kind t)) =
      ap (λ (r : Text). body_length (widths kind) (count_in r)) (entry_place kind t) in
      omega (arith, offset-is kind h, length-is t L.fits)

pub few-records : (t : Text) (kind : ℕ) → Laid t → kind < 4 → length (records_in t kind) < 4294967296
few-records t kind L h = subst (λ (n : ℕ). n < 4294967296) (count-is t L kind h) (count_fits (entry kind t) (bytes_drop (8 * kind) t L.bytes))

-- so many records, one of them behind, take as much room and a record more
spaced : (ws : List ℕ) (i n : ℕ) → i < n → body_length ws i + total ws ≤ body_length ws n
unfolding body_length
spaced ws i n h = omega (arith, mul-suc (total ws) i, mul-le-mul_left (total ws) h)

module _ (t : Text) (kind i : ℕ) (H : Holds t kind i) where
  -- all of a record stands in the text
  pub record-within : place t kind i + total (widths kind) ≤ length t
  unfolding place
  record-within =
      let inside = spaced (widths kind) i (count_in (entry kind t)) (omega (arith, count-is t H.laid kind H.known, H.within)) in
      omega (arith, body-within t H.laid kind H.known)

  -- cell j of it is the number in as many bytes behind the cells before it
  pub cell-is : (j : ℕ) → j < length (widths kind)
      → get_or (get_or (records_in t kind) i []) j 0 ≡ cell_in (take (get_or (widths kind) j 0) (drop (place t kind i + total (take j (widths kind))) t))
  unfolding place
  cell-is j l =
      let off : ℕ = offset_in (entry kind t) in
      let few : i < count_in (entry kind t) = omega (arith, count-is t H.laid kind H.known, H.within) in
      ap (λ (b : Table). get_or (get_or b i []) j 0) (records-are t H.laid kind H.known)
      ∙ ap (λ (r : List ℕ). get_or r j 0) (record-at (widths kind) (count_in (entry kind t)) (drop off t) i few)
      ∙ cell_at (widths kind) (drop (body_length (widths kind) i) (drop off t)) j l
      ∙ ap (λ (r : Text). cell_in (take (get_or (widths kind) j 0) (drop (total (take j (widths kind))) r))) (drop-drop (body_length (widths kind) i) off t)
      ∙ ap (λ (r : Text). cell_in (take (get_or (widths kind) j 0) r)) (drop-drop (total (take j (widths kind))) (off + body_length (widths kind) i) t)
