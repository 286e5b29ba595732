-- The mesh file (request L3) as a whole: what a file holds is read as it was written, and a file that fits and is in place is what the
-- writer would write. Said once over the schema: nothing here names a body.
use Prim.Native.Nat.{ℕ, ◌+◌, ◌^◌, ◌≤◌, ◌<◌}
use native.Mathlib.Omega.{arith}
use mathlib.Core.Path.{◌≡◌, refl, ap, sym, subst, ◌∙◌}
use mathlib.Core.Bool.{true, ◌&&◌}
use mathlib.Core.List.{List, [], ◌∷◌, ◌++◌, append_assoc, append-nil}
use lib.ListN.{length, get_or, take, drop, length-append, length-drop, take-append-drop}
use lib.Seq.{take_at, drop_at, take-add, drop-drop, take_all, length-take-le}
use lib.Dec.{T, eqb, ltb, leb, ltb→lt, leb→le, eqb→eq}
use lib.Ieee.Fits.{and_l, and_r, and_i}
use Rattle.rules.specs.Table.{Table, every}
use Rattle.rules.specs.Script.{Text}
use Rattle.file.specs.File.{Contents, cell_text, cell_in, bytes_only, row_text, row_in, total, row_fits, body_text, body_in, body_length, schema, counter_widths, key_cells, places, bodies_text, head_length, file_text, count_in, offset_in, bodies_in, contents_in, bodies_fit, contents_fit, asked, length_fits, placed, all_rise, in_place}
use Rattle.file.proofs.Cells.{below-T, bytes-append, bytes_take, bytes_drop, bytes-none, cell-length, cell-bytes, cell-back, text-back, row-length, row_back, row-text-back, row_fits_lem, body-length, body-count, body_back, body-text-back, body-fits}

-- ---- the table of contents

-- its length: a count and an offset for each body
abbrev pub toc_length : List (List ℕ) → ℕ
toc_length [] = 0
toc_length (ws ∷ wss) = 4 + (4 + toc_length wss)

pub places-length : (at : ℕ) (wss : List (List ℕ)) (bs : List Table) → length (places at wss bs) ≡ toc_length wss
unfolding places
places-length at [] bs = refl
places-length at (ws ∷ wss) bs =
    let n : ℕ = length (get_or bs 0 []) in
    let rest : Text = places (at + body_length ws n) wss (drop 1 bs) in
    length-append (cell_text 4 n) (cell_text 4 at ++ rest)
    ∙ omega (arith, length-append (cell_text 4 at) rest, cell-length 4 n, cell-length 4 at, places-length (at + body_length ws n) wss (drop 1 bs))

pub places-bytes : (at : ℕ) (wss : List (List ℕ)) (bs : List Table) → T (bytes_only (places at wss bs))
unfolding places
places-bytes at [] bs = bytes-none
places-bytes at (ws ∷ wss) bs =
    let n : ℕ = length (get_or bs 0 []) in
    let rest : Text = places (at + body_length ws n) wss (drop 1 bs) in
    bytes-append (cell_text 4 n) (cell_text 4 at ++ rest) (cell-bytes 4 n)
    (bytes-append (cell_text 4 at) rest (cell-bytes 4 at) (places-bytes (at + body_length ws n) wss (drop 1 bs)))

-- its first entry, and what stands behind that
pub entry-count : (n at : ℕ) (t : Text) → n < 256 ^ 4 → count_in (cell_text 4 n ++ (cell_text 4 at ++ t)) ≡ n
unfolding count_in
entry-count n at t h =
    ap cell_in (take_at (cell_text 4 n) (cell_text 4 at ++ t) 4 (cell-length 4 n)) ∙ cell-back 4 n h

pub entry-offset : (n at : ℕ) (t : Text) → at < 256 ^ 4 → offset_in (cell_text 4 n ++ (cell_text 4 at ++ t)) ≡ at
unfolding offset_in
entry-offset n at t h =
    ap (λ (r : Text). cell_in (take 4 r)) (drop_at (cell_text 4 n) (cell_text 4 at ++ t) 4 (cell-length 4 n))
    ∙ ap cell_in (take_at (cell_text 4 at) t 4 (cell-length 4 at))
    ∙ cell-back 4 at h

pub entry-rest : (n at : ℕ) (t : Text) → drop 8 (cell_text 4 n ++ (cell_text 4 at ++ t)) ≡ t
entry-rest n at t =
    sym (drop-drop 4 4 (cell_text 4 n ++ (cell_text 4 at ++ t)))
    ∙ ap (λ (r : Text). drop 4 r) (drop_at (cell_text 4 n) (cell_text 4 at ++ t) 4 (cell-length 4 n))
    ∙ drop_at (cell_text 4 at) t 4 (cell-length 4 at)

-- an entry with something behind the table
pub entry-before : (n at : ℕ) (s t : Text) → (cell_text 4 n ++ (cell_text 4 at ++ s)) ++ t ≡ cell_text 4 n ++ (cell_text 4 at ++ (s ++ t))
entry-before n at s t =
    append_assoc (cell_text 4 n) (cell_text 4 at ++ s) t ∙ ap (λ (r : Text). cell_text 4 n ++ r) (append_assoc (cell_text 4 at) s t)

-- the counters take 12 bytes
pub counters-length : total counter_widths ≡ 12
unfolding total
counters-length = refl

-- ---- what is written is read

-- bodies that fit are read as they were written, whatever stands behind the table of contents and behind the bodies
pub bodies-back : (at : ℕ) (wss : List (List ℕ)) (bs : List Table) (t u : Text) → T (bodies_fit wss bs)
    → bodies_in wss (places at wss bs ++ t) (bodies_text wss bs ++ u) ≡ bs
unfolding places bodies_text bodies_in bodies_fit
bodies-back at [] [] t u h = refl
bodies-back at [] (b ∷ bs) t u h = absurd h
bodies-back at (ws ∷ wss) [] t u h = absurd h
bodies-back at (ws ∷ wss) (b ∷ bs) t u h =
    let n : ℕ = length b in
    let few : n < 256 ^ 4 = ltb→lt n (256 ^ 4) (and_l (ltb n (256 ^ 4)) (every (row_fits ws) b && bodies_fit wss bs) h) in
    let rows : T (every (row_fits ws) b) = and_l (every (row_fits ws) b) (bodies_fit wss bs) (and_r (ltb n (256 ^ 4)) (every (row_fits ws) b && bodies_fit wss bs) h) in
    let others : T (bodies_fit wss bs) = and_r (every (row_fits ws) b) (bodies_fit wss bs) (and_r (ltb n (256 ^ 4)) (every (row_fits ws) b && bodies_fit wss bs) h) in
    let P : Text = places (at + body_length ws n) wss bs in
    let toc : (cell_text 4 n ++ (cell_text 4 at ++ P)) ++ t ≡ cell_text 4 n ++ (cell_text 4 at ++ (P ++ t)) = entry-before n at P t in
    let text : (body_text ws b ++ bodies_text wss bs) ++ u ≡ body_text ws b ++ (bodies_text wss bs ++ u) = append_assoc (body_text ws b) (bodies_text wss bs) u in
    let back : drop (body_length ws n) (body_text ws b ++ (bodies_text wss bs ++ u)) ≡ bodies_text wss bs ++ u =
    drop_at (body_text ws b) (bodies_text wss bs ++ u) (body_length ws n) (body-length ws b) in
    rw (toc, text, entry-count n at (P ++ t) few, entry-rest n at (P ++ t), back, body_back ws b (bodies_text wss bs ++ u) rows)
    (ap (λ (l : List Table). b ∷ l) (bodies-back (at + body_length ws n) wss bs t u others))

-- what a file holds is read as it was written
pub contents-back : (c : Contents) → T (contents_fit c) → contents_in (file_text c) ≡ c
unfolding contents_fit contents_in file_text
contents-back c h =
    let bs : List Table = c.bodies in
    let ks : List ℕ = c.counters in
    let P : Text = places 44 schema bs in
    let R : Text = row_text counter_widths ks in
    let B : Text = bodies_text schema bs in
    let bodies : T (bodies_fit schema bs) = and_l (bodies_fit schema bs) (row_fits counter_widths ks) h in
    let counters : T (row_fits counter_widths ks) = and_r (bodies_fit schema bs) (row_fits counter_widths ks) h in
    let after-toc : drop 32 (P ++ (R ++ B)) ≡ R ++ B = drop_at P (R ++ B) 32 (places-length 44 schema bs) in
    let after-head : drop 44 (P ++ (R ++ B)) ≡ B =
    sym (drop-drop 12 32 (P ++ (R ++ B))) ∙ ap (λ (r : Text). drop 12 r) after-toc ∙ drop_at R B 12 (row-length counter_widths ks ∙ counters-length) in
    let all-bodies : bodies_in schema (P ++ (R ++ B)) B ≡ bs =
    ap (λ (r : Text). bodies_in schema (P ++ (R ++ B)) r) (sym (append-nil B)) ∙ bodies-back 44 schema bs (R ++ B) [] bodies in
    rw (after-toc, after-head, row_back counter_widths ks B counters, all-bodies)

-- ---- what is read is written

-- the first entry of a table of contents is written as it was read
pub count-written : (s : Text) → T (bytes_only s) → 4 ≤ length s → cell_text 4 (count_in s) ≡ take 4 s
unfolding count_in
count-written s b q =
    ap (λ (k : ℕ). cell_text k (cell_in (take 4 s))) (sym (length-take-le 4 s q)) ∙ text-back (take 4 s) (bytes_take 4 s b)

pub offset-written : (s : Text) → T (bytes_only s) → 8 ≤ length s → cell_text 4 (offset_in s) ≡ take 4 (drop 4 s)
unfolding offset_in
offset-written s b q =
    ap (λ (k : ℕ). cell_text k (cell_in (take 4 (drop 4 s)))) (sym (length-take-le 4 (drop 4 s) (omega (arith, length-drop 4 s))))
    ∙ text-back (take 4 (drop 4 s)) (bytes_take 4 (drop 4 s) (bytes_drop 4 s b))

-- a table of contents whose offsets are in place is written as it was read
pub places-back : (at : ℕ) (wss : List (List ℕ)) (toc t : Text) → T (bytes_only toc) → toc_length wss ≤ length toc → T (placed at wss toc)
    → places at wss (bodies_in wss toc t) ≡ take (toc_length wss) toc
unfolding places bodies_in placed
places-back at [] toc t h l p = refl
places-back at (ws ∷ wss) toc t h l p =
    let n : ℕ = count_in toc in
    let many : length (body_in ws n t) ≡ n = body-count ws n t in
    let count : cell_text 4 n ≡ take 4 toc = count-written toc h (omega arith) in
    let offset : cell_text 4 at ≡ take 4 (drop 4 toc) =
    ap (λ (k : ℕ). cell_text 4 k) (sym (eqb→eq (offset_in toc) at (and_l (eqb (offset_in toc) at) _ p)))
    ∙ offset-written toc h (omega arith) in
    let rest =
    places-back (at + body_length ws n) wss (drop 8 toc) (drop (body_length ws n) t) (bytes_drop 8 toc h) (omega (arith, length-drop 8 toc)) (and_r (eqb (offset_in toc) at) _ p) in
    rw (many, count, offset, rest) (sym joined)
  where
    joined : take (4 + (4 + toc_length wss)) toc ≡ take 4 toc ++ (take 4 (drop 4 toc) ++ take (toc_length wss) (drop 8 toc))
    joined =
        take-add 4 (4 + toc_length wss) toc
        ∙ ap (λ (r : Text). take 4 toc ++ r) (take-add 4 (toc_length wss) (drop 4 toc))
        ∙ ap (λ (r : Text). take 4 toc ++ (take 4 (drop 4 toc) ++ take (toc_length wss) r)) (drop-drop 4 4 toc)

-- bytes that are enough for the bodies are written as they were read
pub bodies-text-back : (wss : List (List ℕ)) (toc t : Text) → T (bytes_only t) → asked wss toc ≤ length t
    → bodies_text wss (bodies_in wss toc t) ≡ take (asked wss toc) t
unfolding bodies_text bodies_in asked
bodies-text-back [] toc t h l = refl
bodies-text-back (ws ∷ wss) toc t h l =
    let k : ℕ = body_length ws (count_in toc) in
    let here : body_text ws (body_in ws (count_in toc) t) ≡ take k t = body-text-back ws (count_in toc) t h (omega arith) in
    let rest : bodies_text wss (bodies_in wss (drop 8 toc) (drop k t)) ≡ take (asked wss (drop 8 toc)) (drop k t) =
    bodies-text-back wss (drop 8 toc) (drop k t) (bytes_drop k t h) (omega (arith, length-drop k t)) in
    rw (here, rest) (sym (take-add k (asked wss (drop 8 toc)) t))

-- a file that fits and is in place is what the writer would write
pub long-enough : (t : Text) → T (length_fits t) → head_length ≤ length t
unfolding length_fits
long-enough t h = leb→le head_length (length t) (and_l (leb head_length (length t)) _ h)

pub length-is : (t : Text) → T (length_fits t) → length t ≡ head_length + asked schema t
unfolding length_fits
length-is t h = eqb→eq (length t) (head_length + asked schema t) (and_r (leb head_length (length t)) _ h)

pub offsets_are : (t : Text) → T (in_place t) → T (placed head_length schema t)
unfolding in_place
offsets_are t h = and_l (placed head_length schema t) _ h

pub keys-rise : (t : Text) → T (in_place t) → T (all_rise key_cells (contents_in t).bodies)
unfolding in_place
keys-rise t h = and_r (placed head_length schema t) _ h

pub file-back : (t : Text) → T (bytes_only t) → T (length_fits t) → T (in_place t) → file_text (contents_in t) ≡ t
unfolding file_text contents_in
file-back t b l p =
    let long : 44 ≤ length t = long-enough t l in
    let whole : length t ≡ 44 + asked schema t = length-is t l in
    let toc : places 44 schema (bodies_in schema t (drop 44 t)) ≡ take 32 t =
    places-back 44 schema t (drop 44 t) b (omega arith) (offsets_are t p) in
    let counters : row_text counter_widths (row_in counter_widths (drop 32 t)) ≡ take 12 (drop 32 t) =
    row-text-back counter_widths (drop 32 t) (bytes_drop 32 t b) (omega (arith, length-drop 32 t, counters-length))
    ∙ ap (λ (k : ℕ). take k (drop 32 t)) counters-length in
    let bodies : bodies_text schema (bodies_in schema t (drop 44 t)) ≡ take (asked schema t) (drop 44 t) =
    bodies-text-back schema t (drop 44 t) (bytes_drop 44 t b) (omega (arith, length-drop 44 t)) in
    let rest : take (asked schema t) (drop 44 t) ≡ drop 44 t = take_all (asked schema t) (drop 44 t) (omega (arith, length-drop 44 t)) in
    rw (toc, counters, bodies, rest)
    (ap (λ (r : Text). take 32 t ++ (take 12 (drop 32 t) ++ r)) (sym (drop-drop 12 32 t))
    ∙ ap (λ (r : Text). take 32 t ++ r) (take-append-drop 12 (drop 32 t))
    ∙ take-append-drop 32 t)

-- a count that is read fits
pub count_fits : (s : Text) → T (bytes_only s) → count_in s < 256 ^ 4
unfolding count_in row_fits row_in
count_fits s b = ltb→lt (cell_in (take 4 s)) (256 ^ 4) (and_l (ltb (cell_in (take 4 s)) (256 ^ 4)) true (row_fits_lem (4 ∷ []) s b))

-- what is read fits
pub bodies-fit : (wss : List (List ℕ)) (toc t : Text) → T (bytes_only toc) → T (bytes_only t) → T (bodies_fit wss (bodies_in wss toc t))
unfolding bodies_fit bodies_in
bodies-fit [] toc t h k = tt
bodies-fit (ws ∷ wss) toc t h k =
    let n : ℕ = count_in toc in
    let few : length (body_in ws n t) < 256 ^ 4 = subst (λ (z : ℕ). z < 256 ^ 4) (sym (body-count ws n t)) (count_fits toc h) in
    and_i (ltb (length (body_in ws n t)) (256 ^ 4)) _ (below-T (length (body_in ws n t)) (256 ^ 4) few)
    (and_i (every (row_fits ws) (body_in ws n t)) _ (body-fits ws n t k)
    (bodies-fit wss (drop 8 toc) (drop (body_length ws n) t) (bytes_drop 8 toc h) (bytes_drop (body_length ws n) t k)))

pub contents-fit : (t : Text) → T (bytes_only t) → T (contents_fit (contents_in t))
unfolding contents_fit contents_in
contents-fit t h =
    and_i (bodies_fit schema (bodies_in schema t (drop 44 t))) (row_fits counter_widths (row_in counter_widths (drop 32 t)))
    (bodies-fit schema t (drop 44 t) h (bytes_drop 44 t h))
    (row_fits_lem counter_widths (drop 32 t) (bytes_drop 32 t h))
