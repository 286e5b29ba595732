-- Rows that are filled from the lowest: their used links are 1, 2, 3 and so on, which is their order too where keys rise; and a list by
-- its places. Nothing here speaks of a file.
use Prim.Native.Nat.{ℕ, zero, suc, ◌+◌, ◌-◌, ◌≤◌, ◌<◌, zero-le, suc-le-suc}
use native.Mathlib.Nat.{le_of_suc-le-suc, not-suc-le-zero}
use native.Mathlib.Numerals.{add-one}
use native.Mathlib.Omega.{arith}
use native.Mathlib.Decide.{dec_lt, ℕ_discrete}
use mathlib.Core.Path.{◌≡◌, refl, ap, sym, ◌∙◌}
use mathlib.Core.Bool.{Bool, true, false, cond}
use mathlib.Core.List.{List, [], ◌∷◌, ◌++◌, map}
use lib.ListN.{length, get_or, drop, replicate, length-append, length-map, length-replicate, drop_of_length-le, get_or-replicate}
use lib.Seq.{drop-cons, get_or-append-add}
use lib.Dec.{T, eqb, ltb}
use borrow.Author.Tests.{lt-ltb, le-ltb, eq-eqb, ne_eqb}
use Rattle.rules.specs.Table.{Table, first_row, there}
use Rattle.rules.specs.Records.{used_from, put_among, in_order}
use Rattle.rules.proofs.Scan.{first-le}
use Rattle.rules.proofs.Counts.{found-passes}
use Rattle.proved.proofs.Rows.{in_table}
use Rattle.file.specs.File.{filled, or_nowhere, nowhere}

-- ---- a list by its places

-- so many places from a place on
abbrev pub spelled {ℓ} : {A : Type ℓ} → A → List A → ℕ → ℕ → List A
spelled d l i zero = []
spelled d l i (suc n) = get_or l i d ∷ spelled d l (i + 1) n

pub spells {ℓ} : {A : Type ℓ} (d : A) (l : List A) (i n : ℕ) → i + n ≡ length l → spelled d l i n ≡ drop i l
spells d l i zero h = let q : length l ≤ i = omega arith in sym (drop_of_length-le l q)
spells {A = A} d l i (suc n) h =
    ap (λ (r : List A). get_or l i d ∷ r) (spells d l (i + 1) n (omega arith) ∙ ap (λ (k : ℕ). drop k l) (add-one i))
    ∙ sym (drop-cons l i d (omega arith))

-- ---- rows one after the other

-- so many links from a link on
unfoldable pub up_from : ℕ → ℕ → List ℕ
up_from l zero = []
up_from l (suc n) = l ∷ up_from (l + 1) n

-- the used links of a table whose first n rows are in use
pub used-links : (t : Table) (l n : ℕ) (rows : Table) → n ≤ length rows
    → ((i : ℕ) → i < length rows → there t (l + i) ≡ ltb i n) → used_from t l rows ≡ up_from l n
unfolding used_from up_from
used-links t l zero [] q h = refl
used-links t l (suc n) [] q h = absurd (not-suc-le-zero q)
used-links t l zero (r ∷ rs) q h =
    let here : there t l ≡ false = ap (λ (z : ℕ). there t z) (sym (omega arith)) ∙ h 0 (suc-le-suc zero-le) ∙ le-ltb 0 0 zero-le in
    rw here (used-links t (l + 1) 0 rs zero-le (λ i k. ap (λ (z : ℕ). there t z) (omega arith) ∙ h (suc i) (suc-le-suc k) ∙ le-ltb (suc i) 0 zero-le ∙ sym (le-ltb i 0 zero-le)))
used-links t l (suc n) (r ∷ rs) q h =
    let here : there t l ≡ true = ap (λ (z : ℕ). there t z) (sym (omega arith)) ∙ h 0 (suc-le-suc zero-le) ∙ lt-ltb 0 (suc n) (suc-le-suc zero-le) in
    rw here (ap (λ (r : List ℕ). l ∷ r) (used-links t (l + 1) n rs (le_of_suc-le-suc q) (λ i k. ap (λ (z : ℕ). there t z) (omega arith) ∙ h (suc i) (suc-le-suc k) ∙ same i n)))
  where
    same : (a b : ℕ) → ltb (suc a) (suc b) ≡ ltb a b
    same a b = go (dec_lt a b)
      where
        go : Dec (a < b) → ltb (suc a) (suc b) ≡ ltb a b
        go (yes p) = lt-ltb (suc a) (suc b) (suc-le-suc p) ∙ sym (lt-ltb a b p)
        go (no p) = le-ltb (suc a) (suc b) (omega arith) ∙ sym (le-ltb a b (omega arith))

-- links of which each comes before the next are in order
pub already-in-order : (before : ℕ → ℕ → Bool) (l n : ℕ) → ((i : ℕ) → i + 1 < n → before (l + i) (l + i + 1) ≡ true)
    → in_order before (up_from l n) ≡ up_from l n
unfolding in_order put_among up_from
already-in-order before l zero h = refl
already-in-order before l (suc zero) h = refl
already-in-order before l (suc (suc n)) h =
    let rest = already-in-order before (l + 1) (suc n) (λ i k. ap (λ (z : ℕ). before z (z + 1)) (omega arith) ∙ h (suc i) (omega arith)) in
    let here : before l (l + 1) ≡ true = ap (λ (z : ℕ). before z (z + 1)) (sym (omega arith)) ∙ h 0 (omega arith) in
    ap (λ (r : List ℕ). put_among before l r) rest ∙ rw here

-- what is made of each link, row by row
pub map-up {ℓ} : {B : Type ℓ} (g : B → List ℕ) (h : ℕ → B) (rows : Table) (l : ℕ)
    → ((i : ℕ) → i < length rows → g (h (l + i)) ≡ get_or rows i []) → map g (map h (up_from l (length rows))) ≡ rows
unfolding up_from
map-up g h [] l e = refl
map-up g h (r ∷ rs) l e =
    let here : g (h l) ≡ r = ap (λ (z : ℕ). g (h z)) (sym (omega arith)) ∙ e 0 (suc-le-suc zero-le) in
    let rest = map-up g h rs (l + 1) (λ i k. ap (λ (z : ℕ). g (h z)) (omega arith) ∙ e (suc i) (suc-le-suc k)) in
    rw (here, rest)

-- ---- filled tables

pub filled-length {ℓ} : {A B : Type ℓ} (n : ℕ) (z : B) (f : A → B) (rows : List A) → length rows ≤ n → length (filled n z (map f rows)) ≡ n
unfolding filled
filled-length n z f rows h =
    length-append (map f rows) (replicate (n - length (map f rows)) z)
    ∙ omega (arith, length-map rows f, length-replicate (n - length (map f rows)) z)

-- a row that was filled
pub filled_row {ℓ} : {A B : Type ℓ} (n : ℕ) (z : B) (f : A → B) (rows : List A) (k : ℕ) (d : A) (e : B) → k < length rows
    → get_or (filled n z (map f rows)) k e ≡ f (get_or rows k d)
unfolding filled
filled_row {A = A} {B = B} n z f rows k d e h = go rows k h (replicate (n - length (map f rows)) z)
  where
    go : (rs : List A) (i : ℕ) → i < length rs → (rest : List B) → get_or (map f rs ++ rest) i e ≡ f (get_or rs i d)
    go [] i l rest = absurd (not-suc-le-zero l)
    go (r ∷ rs) zero l rest = refl
    go (r ∷ rs) (suc i) l rest = go rs i (le_of_suc-le-suc l) rest

-- a further row is zero
pub filled-past : (n : ℕ) (z : List ℕ) (f : List ℕ → List ℕ) (rows : Table) (k j : ℕ) → ((i : ℕ) → get_or z i 0 ≡ 0) → length rows ≤ k
    → get_or (get_or (filled n z (map f rows)) k []) j 0 ≡ 0
unfolding filled
filled-past n z f rows k j e h =
    let s : Table = replicate (n - length (map f rows)) z in
    let q : ℕ = k - length (map f rows) in
    let at : k ≡ length (map f rows) + q = omega (arith, length-map rows f) in
    ap (λ (i : ℕ). get_or (get_or (map f rows ++ s) i []) j 0) at
    ∙ ap (λ (r : List ℕ). get_or r j 0) (get_or-append-add (map f rows) s q [])
    ∙ zeros (n - length (map f rows)) q
  where
    none : (i : ℕ) → ◌≡◌ {A = ℕ} (get_or [] i 0) 0
    none zero = refl
    none (suc i) = refl

    zeros : (m i : ℕ) → get_or (get_or (replicate m z) i []) j 0 ≡ 0
    zeros zero zero = none j
    zeros zero (suc i) = none j
    zeros (suc m) zero = e j
    zeros (suc m) (suc i) = zeros m i

-- of any kind
pub filled-rest {ℓ} : {A B : Type ℓ} (n : ℕ) (z : B) (f : A → B) (rows : List A) (k : ℕ) (e : B) → length rows ≤ k → k < length (filled n z (map f rows))
    → get_or (filled n z (map f rows)) k e ≡ z
unfolding filled
filled-rest {B = B} n z f rows k e h l =
    let s : List B = replicate (n - length (map f rows)) z in
    let q : ℕ = k - length (map f rows) in
    let at : k ≡ length (map f rows) + q = omega (arith, length-map rows f) in
    ap (λ (i : ℕ). get_or (map f rows ++ s) i e) at
    ∙ get_or-append-add (map f rows) s q e
    ∙ get_or-replicate (n - length (map f rows)) q z e (omega (arith, length-append (map f rows) s, length-replicate (n - length (map f rows)) z))

-- ---- records by their names

-- the record that passes, by its place
pub record Found (p : List ℕ → Bool) (rows : Table) (l : ℕ) : Type 0 where
  pub place : ℕ
  pub within : place < length rows
  pub link-is : l ≡ place + 1
  pub passes : p (get_or rows place []) ≡ true

-- a link that is there, in a table within the limits, names a record that passes
pub found-there : (p : List ℕ → Bool) (rows t : Table) → length t ≤ 16384 → T (there t (or_nowhere (first_row p rows))) → Found p rows (or_nowhere (first_row p rows))
unfolding or_nowhere
found-there p rows t h u = go (ℕ_discrete (first_row p rows) 0)
  where
    go : Dec (first_row p rows ≡ 0) → Found p rows (cond (eqb (first_row p rows) 0) nowhere (first_row p rows))
    go (yes e) =
        let link : cond (eqb (first_row p rows) 0) nowhere (first_row p rows) ≡ 16385 = rw (eq-eqb (first_row p rows) 0 e) in
        let last = (in_table t (cond (eqb (first_row p rows) 0) nowhere (first_row p rows)) u).1 in
        let z : ⊥ = omega (arith, link, last) in
        absurd z
    go (no ne) =
        let link : cond (eqb (first_row p rows) 0) nowhere (first_row p rows) ≡ first_row p rows = rw (ne_eqb (first_row p rows) 0 ne) in
        record {
          place = first_row p rows - 1;
          within = omega (arith, first-le p rows);
          link-is = link ∙ omega arith;
          passes = found-passes p rows [] (omega arith);
        }

-- a name leads somewhere, be it nowhere
pub or-nowhere-pos : (l : ℕ) → or_nowhere l ≡ 0 → ⊥
unfolding or_nowhere
or-nowhere-pos zero e = omega arith
or-nowhere-pos (suc l) e = let q : cond (eqb (suc l) 0) nowhere (suc l) ≡ suc l = rw (ne_eqb (suc l) 0 (λ z. omega arith)) in omega arith
