-- Where a file's numbers stand: a cell of a record, a record of a body, and a body of a file, by their places in the text.
use Prim.Native.Nat.{ℕ, zero, suc, ◌+◌, ◌*◌, ◌<◌}
use native.Mathlib.Nat.{le_of_suc-le-suc, not-suc-le-zero}
use native.Mathlib.Omega.{arith}
use mathlib.Core.Path.{◌≡◌, refl, ap, sym, ◌∙◌}
use mathlib.Core.List.{List, [], ◌∷◌}
use lib.ListN.{length, get_or, take, drop}
use lib.Seq.{drop-drop}
use lib.Dec.{T, eqb, eqb→eq}
use lib.Ieee.Fits.{and_l, and_r}
use Rattle.rules.specs.Script.{Text}
use Rattle.file.specs.File.{cell_in, row_in, total, body_in, body_length, count_in, offset_in, bodies_in, asked, placed}
use Rattle.file.proofs.Cells.{body-space, body-none}

-- cell k of a record stands behind the cells before it
pub cell_at : (ws : List ℕ) (t : Text) (k : ℕ) → k < length ws → get_or (row_in ws t) k 0 ≡ cell_in (take (get_or ws k 0) (drop (total (take k ws)) t))
unfolding row_in total
cell_at [] t k l = absurd (not-suc-le-zero l)
cell_at (w ∷ ws) t zero l = refl
cell_at (w ∷ ws) t (suc k) l =
    cell_at ws (drop w t) k (le_of_suc-le-suc l)
    ∙ ap (λ (r : Text). cell_in (take (get_or ws k 0) r)) (drop-drop (total (take k ws)) w t)

-- record i of a body stands behind i records
pub record-at : (ws : List ℕ) (n : ℕ) (t : Text) (i : ℕ) → i < n → get_or (body_in ws n t) i [] ≡ row_in ws (drop (body_length ws i) t)
unfolding body_in
record-at ws zero t i l = absurd (not-suc-le-zero l)
record-at ws (suc n) t zero l = ap (λ (k : ℕ). row_in ws (drop k t)) (sym (body-none ws))
record-at ws (suc n) t (suc i) l =
    record-at ws n (drop (total ws) t) i (le_of_suc-le-suc l)
    ∙ ap (row_in ws) (drop-drop (body_length ws i) (total ws) t)
    ∙ ap (λ (k : ℕ). row_in ws (drop k t)) (sym (body-space ws i))

-- the entry of body k in the table of contents
unfoldable pub entry_at : ℕ → Text → Text
entry_at zero toc = toc
entry_at (suc k) toc = entry_at k (drop 8 toc)

pub entry_place : (k : ℕ) (toc : Text) → entry_at k toc ≡ drop (8 * k) toc
unfolding entry_at
entry_place zero toc = ap (λ (n : ℕ). drop n toc) (let e : 0 ≡ 8 * 0 = omega arith in e)
entry_place (suc k) toc =
    let e : 8 + 8 * k ≡ 8 * suc k = omega arith in
    entry_place k (drop 8 toc) ∙ drop-drop (8 * k) 8 toc ∙ ap (λ (n : ℕ). drop n toc) e

-- body k stands behind the bodies before it
pub body_at : (wss : List (List ℕ)) (toc t : Text) (k : ℕ) → k < length wss
    → get_or (bodies_in wss toc t) k [] ≡ body_in (get_or wss k []) (count_in (entry_at k toc)) (drop (asked (take k wss) toc) t)
unfolding bodies_in asked entry_at
body_at [] toc t k l = absurd (not-suc-le-zero l)
body_at (ws ∷ wss) toc t zero l = refl
body_at (ws ∷ wss) toc t (suc k) l =
    body_at wss (drop 8 toc) (drop (body_length ws (count_in toc)) t) k (le_of_suc-le-suc l)
    ∙ ap (body_in (get_or wss k []) (count_in (entry_at k (drop 8 toc)))) (drop-drop (asked (take k wss) (drop 8 toc)) (body_length ws (count_in toc)) t)

-- where offsets are in place, the offset of body k says so
pub offset_at : (at : ℕ) (wss : List (List ℕ)) (toc : Text) (k : ℕ) → T (placed at wss toc) → k < length wss → offset_in (entry_at k toc) ≡ at + asked (take k wss) toc
unfolding placed asked entry_at
offset_at at [] toc k h l = absurd (not-suc-le-zero l)
offset_at at (ws ∷ wss) toc zero h l = eqb→eq (offset_in toc) at (and_l (eqb (offset_in toc) at) _ h) ∙ (let e : at ≡ at + 0 = omega arith in e)
offset_at at (ws ∷ wss) toc (suc k) h l =
    let rest = offset_at (at + body_length ws (count_in toc)) wss (drop 8 toc) k (and_r (eqb (offset_in toc) at) _ h) (le_of_suc-le-suc l) in
    omega arith
