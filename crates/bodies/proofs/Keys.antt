-- Keys as numbers: they rise as the cells do, and a number is a key exactly where its cells are. And the kinds' keys, one kind after the other.
use Prim.Native.Nat.{ℕ, zero, suc, ◌+◌, ◌-◌, ◌*◌, ◌≤◌, ◌<◌, zero-le, suc-le-suc}
use native.Mathlib.Numerals.{add-one}
use native.Mathlib.Omega.{arith}
use native.Mathlib.Decide.{dec_lt, ℕ_discrete}
use mathlib.Core.Path.{◌≡◌, refl, ap, sym, subst, ◌∙◌}
use mathlib.Core.Bool.{Bool, true, false, ◌&&◌, ◌||◌, cond}
use mathlib.Core.List.{List, []}
use lib.ListN.{length, get_or, take, drop}
use lib.Seq.{drop-cons, drop-drop, get_or-drop}
use lib.Dec.{T, eqb, ltb, ltb→lt}
use borrow.Author.Tests.{lt-ltb, le-ltb, eq-eqb, ne_eqb}
use Rattle.rules.specs.Table.{Table, first_row}
use Rattle.rules.specs.Script.{Text}
use Rattle.file.specs.File.{cell_in, total, count_in, key_cells, contents_in, rises_by, rising, all_rise, placed, head_length, schema, in_place, body, or_nowhere, has_ends, by_key, by_ends}
use Rattle.file.proofs.Cells.{bytes_drop}
use Rattle.file.proofs.Whole.{count_fits, keys-rise}
use Rattle.file.proofs.ReadWrite.{bodies-rise}
use Rattle.rules.proofs.Sums.{all-at}
use Rattle.bodies.specs.Bodies.{widths, records_in, place, key_number, has_number, Laid, Holds, Whole}
use Rattle.bodies.proofs.Halving.{Rises, first-same}
use Rattle.bodies.proofs.Stands.{cell-is, record-within}

-- ---- one number for a key

-- a cell of 4 bytes
pub four-small : (t : Text) (L : Laid t) (at : ℕ) → cell_in (take 4 (drop at t)) < 4294967296
four-small t L at = unfold count_in in count_fits (drop at t) (bytes_drop at t L.bytes)

-- the second cell of an arc's key is such a cell
abbrev pub Small : ℕ → List ℕ → Type 0
Small kind r = kind ≡ 1 → get_or r 1 0 < 4294967296

pub record-small : (t : Text) (kind i : ℕ) → Holds t kind i → Small kind (get_or (records_in t kind) i [])
unfolding total
record-small t zero i H e = let z : ⊥ = omega arith in absurd z
record-small t (suc zero) i H e =
    subst (λ (n : ℕ). n < 4294967296) (sym (cell-is t 1 i H 1 (suc-le-suc (suc-le-suc zero-le)))) (four-small t H.laid (place t 1 i + 4))
record-small t (suc (suc kind)) i H e = let z : ⊥ = omega arith in absurd z

-- ---- where a key's cells stand

-- every record has three cells of 4 bytes or more
twelve : (kind : ℕ) → kind < 4 → 12 ≤ total (widths kind)
unfolding total
twelve zero h = omega arith
twelve (suc zero) h = omega arith
twelve (suc (suc zero)) h = omega arith
twelve (suc (suc (suc zero))) h = omega arith
twelve (suc (suc (suc (suc kind)))) h = let z : ⊥ = omega arith in absurd z

pub record-inside : (t : Text) (kind i : ℕ) → Holds t kind i → place t kind i + 12 ≤ length t
record-inside t kind i H = omega (arith, twelve kind H.known, record-within t kind i H)

pub first_cell : (t : Text) (kind i : ℕ) → Holds t kind i → get_or (get_or (records_in t kind) i []) 0 0 ≡ cell_in (take 4 (drop (place t kind i) t))
unfolding total
first_cell t kind i H = go kind H
  where
    none : (n : ℕ) → n + 0 ≡ n
    none n = omega arith

    go : (k : ℕ) → Holds t k i → get_or (get_or (records_in t k) i []) 0 0 ≡ cell_in (take 4 (drop (place t k i) t))
    go zero K = cell-is t 0 i K 0 (suc-le-suc zero-le) ∙ ap (λ (n : ℕ). cell_in (take 4 (drop n t))) (none (place t 0 i))
    go (suc zero) K = cell-is t 1 i K 0 (suc-le-suc zero-le) ∙ ap (λ (n : ℕ). cell_in (take 4 (drop n t))) (none (place t 1 i))
    go (suc (suc zero)) K = cell-is t 2 i K 0 (suc-le-suc zero-le) ∙ ap (λ (n : ℕ). cell_in (take 4 (drop n t))) (none (place t 2 i))
    go (suc (suc (suc zero))) K = cell-is t 3 i K 0 (suc-le-suc zero-le) ∙ ap (λ (n : ℕ). cell_in (take 4 (drop n t))) (none (place t 3 i))
    go (suc (suc (suc (suc k)))) K = let z : ⊥ = omega (arith, K.known) in absurd z

pub key-is-first : (t : Text) (kind i : ℕ) → Holds t kind i → (kind ≡ 1 → ⊥)
    → cell_in (take 4 (drop (place t kind i) t)) ≡ key_number kind (get_or (records_in t kind) i [])
unfolding key_number
key-is-first t kind i H ne = rw (ne_eqb kind 1 ne) (sym (first_cell t kind i H))

pub key-is-pair : (t : Text) (kind i : ℕ) → Holds t kind i → kind ≡ 1
    → cell_in (take 4 (drop (place t kind i) t)) * 4294967296 + cell_in (take 4 (drop (place t kind i + 4) t)) ≡ key_number kind (get_or (records_in t kind) i [])
unfolding key_number total
key-is-pair t zero i H e = let z : ⊥ = omega arith in absurd z
key-is-pair t (suc zero) i H e =
    let first = first_cell t 1 i H in
    let second = cell-is t 1 i H 1 (suc-le-suc (suc-le-suc zero-le)) in
    omega arith
key-is-pair t (suc (suc kind)) i H e = let z : ⊥ = omega arith in absurd z

-- ---- numbers in order

or-none : (a b : Bool) → (a || (b && false)) ≡ a
or-none true b = refl
or-none false true = refl
or-none false false = refl

one_cell : (r s : List ℕ) → rises_by 1 r s ≡ ltb (get_or r 0 0) (get_or s 0 0)
unfolding rises_by
one_cell r s = or-none (ltb (get_or r 0 0) (get_or s 0 0)) (eqb (get_or r 0 0) (get_or s 0 0))

-- the first of two that differs decides
pair-before : (a b x y : ℕ) → b < 4294967296 → y < 4294967296 → (ltb a x || (eqb a x && ltb b y)) ≡ ltb (a * 4294967296 + b) (x * 4294967296 + y)
pair-before a b x y hb hy = go (dec_lt a x) (ℕ_discrete a x) (dec_lt b y)
  where
    go : Dec (a < x) → Dec (a ≡ x) → Dec (b < y) → (ltb a x || (eqb a x && ltb b y)) ≡ ltb (a * 4294967296 + b) (x * 4294967296 + y)
    go (yes p) q r = rw (lt-ltb a x p, lt-ltb (a * 4294967296 + b) (x * 4294967296 + y) (omega arith))
    go (no p) (yes q) (yes r) = rw (le-ltb a x (omega arith), eq-eqb a x q, lt-ltb b y r, lt-ltb (a * 4294967296 + b) (x * 4294967296 + y) (omega arith))
    go (no p) (yes q) (no r) =
        rw (le-ltb a x (omega arith), eq-eqb a x q, le-ltb b y (omega arith), le-ltb (a * 4294967296 + b) (x * 4294967296 + y) (omega arith))
    go (no p) (no q) r = rw (le-ltb a x (omega arith), ne_eqb a x q, le-ltb (a * 4294967296 + b) (x * 4294967296 + y) (omega arith))

two_cells : (r s : List ℕ) → get_or r 1 0 < 4294967296 → get_or s 1 0 < 4294967296
    → rises_by 2 r s ≡ ltb (get_or r 0 0 * 4294967296 + get_or r 1 0) (get_or s 0 0 * 4294967296 + get_or s 1 0)
unfolding rises_by
two_cells r s hr hs =
    rw (get_or-drop 1 r 0 0, get_or-drop 1 s 0 0, or-none (ltb (get_or r 1 0) (get_or s 1 0)) (eqb (get_or r 1 0) (get_or s 1 0)))
    (pair-before (get_or r 0 0) (get_or r 1 0) (get_or s 0 0) (get_or s 1 0) hr hs)

-- keys rise as their numbers do
pub rises-by-number : (kind : ℕ) (r s : List ℕ) → kind < 4 → Small kind r → Small kind s
    → rises_by (get_or key_cells kind 0) r s ≡ ltb (key_number kind r) (key_number kind s)
unfolding key_number
rises-by-number zero r s h a b = one_cell r s
rises-by-number (suc zero) r s h a b = two_cells r s (a refl) (b refl)
rises-by-number (suc (suc zero)) r s h a b = one_cell r s
rises-by-number (suc (suc (suc zero))) r s h a b = one_cell r s
rises-by-number (suc (suc (suc (suc kind)))) r s h a b = let z : ⊥ = omega arith in absurd z

-- an arc's number is its two ends
pub number-of-ends : (s d : ℕ) (r : List ℕ) → get_or r 1 0 < 4294967296 → d < 4294967296 → has_number 1 (s * 4294967296 + d) r ≡ has_ends s d r
unfolding key_number
number-of-ends s d r h k = go (ℕ_discrete (get_or r 0 0) s) (ℕ_discrete (get_or r 1 0) d)
  where
    go : Dec (get_or r 0 0 ≡ s) → Dec (get_or r 1 0 ≡ d)
        → eqb (get_or r 0 0 * 4294967296 + get_or r 1 0) (s * 4294967296 + d) ≡ (eqb (get_or r 0 0) s && eqb (get_or r 1 0) d)
    go (yes p) (yes q) = rw (eq-eqb _ _ p, eq-eqb _ _ q, eq-eqb (get_or r 0 0 * 4294967296 + get_or r 1 0) (s * 4294967296 + d) (omega arith))
    go (yes p) (no q) = rw (eq-eqb _ _ p, ne_eqb _ _ q, ne_eqb (get_or r 0 0 * 4294967296 + get_or r 1 0) (s * 4294967296 + d) (λ e. q (omega arith)))
    go (no p) q = rw (ne_eqb _ _ p, ne_eqb (get_or r 0 0 * 4294967296 + get_or r 1 0) (s * 4294967296 + d) (λ e. p (omega arith)))

-- ---- one kind

-- record i and the next
abbrev pub rises_at : Text → ℕ → ℕ → Bool
rises_at t kind i = rises_by (get_or key_cells kind 0) (get_or (records_in t kind) i []) (get_or (records_in t kind) (i + 1) [])

abbrev pub number_at : Text → ℕ → ℕ → ℕ
number_at t kind i = key_number kind (get_or (records_in t kind) i [])

pub rises-at : (t : Text) (kind i : ℕ) → Holds t kind i → Holds t kind (i + 1) → rises_at t kind i ≡ ltb (number_at t kind i) (number_at t kind (i + 1))
rises-at t kind i H K =
    rises-by-number kind (get_or (records_in t kind) i []) (get_or (records_in t kind) (i + 1) []) H.known (record-small t kind i H)
    (record-small t kind (i + 1) K)

-- ---- one kind after the other

rise-more : (bs : List Table) (kind : ℕ) → kind < 4
    → all_rise (drop kind key_cells) (drop kind bs) ≡ (rising (get_or key_cells kind 0) (get_or bs kind []) && all_rise (drop (kind + 1) key_cells) (drop (kind + 1) bs))
unfolding all_rise
rise-more bs kind h =
    let here : get_or (drop kind bs) 0 [] ≡ get_or bs kind [] = get_or-drop kind bs 0 [] ∙ ap (λ (k : ℕ). get_or bs k []) (omega arith) in
    rw (drop-cons key_cells kind 0 h, here, drop-drop 1 kind bs, add-one kind)

pub none-rise : (bs : List Table) (kind : ℕ) → kind ≡ 4 → all_rise (drop kind key_cells) (drop kind bs) ≡ true
unfolding all_rise
none-rise bs kind e = ap (λ (k : ℕ). all_rise (drop k key_cells) (drop kind bs)) e

-- where offsets stand, keys decide
pub keys-decide : (t : Text) (b : Bool) → placed head_length schema t ≡ b → in_place t ≡ (b && all_rise key_cells (contents_in t).bodies)
unfolding in_place
keys-decide t b e = rw e

-- the kind at a place, whose number is k
module _ (bs : List Table) (kind k : ℕ) (h : kind < 4) (q : k ≡ kind) (e : all_rise key_cells bs ≡ all_rise (drop kind key_cells) (drop kind bs)) where
  more : all_rise key_cells bs ≡ (rising (get_or key_cells k 0) (get_or bs k []) && all_rise (drop (kind + 1) key_cells) (drop (kind + 1) bs))
  more = rw q (e ∙ rise-more bs kind h)

  pub kind-fails : rising (get_or key_cells k 0) (get_or bs k []) ≡ false → false ≡ all_rise key_cells bs
  kind-fails f = sym (more ∙ rw f)

  pub kind-passes : rising (get_or key_cells k 0) (get_or bs k []) ≡ true → all_rise key_cells bs ≡ all_rise (drop (kind + 1) key_cells) (drop (kind + 1) bs)
  kind-passes f = more ∙ rw f

-- where keys rise, the numbers of each kind do
pub numbers-rise : (t : Text) (kind : ℕ) → Whole t → kind < 4 → Rises (number_at t kind) (length (records_in t kind))
unfolding rising body
numbers-rise t kind W h i l =
    let here : Holds t kind i = record { laid = W.laid; known = h; within = omega arith } in
    let next : Holds t kind (i + 1) = record { laid = W.laid; known = h; within = l } in
    let all : T (rising (get_or key_cells kind 0) (records_in t kind)) = bodies-rise key_cells (contents_in t).bodies kind (keys-rise t W.in_place) h in
    ltb→lt (number_at t kind i) (number_at t kind (i + 1))
    (subst T (rises-at t kind i here next) (all-at (rises_at t kind) (length (records_in t kind) - 1) all i (omega arith)))

-- ---- the record with a key, by its number

pub number-is-key : (t : Text) (kind k : ℕ) → (kind ≡ 1 → ⊥) → or_nowhere (first_row (has_number kind k) (records_in t kind)) ≡ by_key (contents_in t) kind k
unfolding key_number by_key
number-is-key t kind k ne =
    ap (λ (b : Bool). or_nowhere (first_row (λ r. eqb (cond b (get_or r 0 0 * 4294967296 + get_or r 1 0) (get_or r 0 0)) k) (records_in t kind))) (ne_eqb kind 1 ne)

pub number-is-ends : (t : Text) (s d : ℕ) → Laid t → d < 4294967296
    → or_nowhere (first_row (has_number 1 (s * 4294967296 + d)) (records_in t 1)) ≡ by_ends (contents_in t) s d
unfolding by_ends
number-is-ends t s d L h =
    ap or_nowhere
    (first-same (has_number 1 (s * 4294967296 + d)) (has_ends s d) (records_in t 1)
    (λ i l. number-of-ends s d (get_or (records_in t 1) i []) (record-small t 1 i (record { laid = L; known = omega arith; within = l }) refl) h))
