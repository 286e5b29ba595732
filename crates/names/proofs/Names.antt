-- No two rows have one name, as a fact and as the test; and what shows it: names that rise, and names that find their own rows.
use Prim.Native.Nat.{ℕ, zero, suc, ◌+◌, ◌-◌, ◌≤◌, ◌<◌}
use native.Mathlib.Nat.{not-suc-le-zero}
use native.Mathlib.Numerals.{add-one}
use native.Mathlib.Omega.{arith}
use native.Mathlib.Decide.{ℕ_discrete, dec_lt}
use mathlib.Core.Path.{◌≡◌, ap, sym, subst, ◌∙◌}
use mathlib.Core.Bool.{true, false, not, cond, ◌||◌}
use mathlib.Core.List.{List}
use lib.ListN.{get_or}
use lib.Dec.{T, eqb, ltb, eqb→eq, ltb→lt}
use borrow.Author.Tests.{eq-eqb, ne_eqb, lt-ltb, le-ltb}
use Rattle.rules.specs.Table.{all_below, or_else}
use Rattle.rules.proofs.Sums.{all-at, same_test, or_cases, or_l, or_r}
use Rattle.proved.proofs.Rows.{T_true, true-T, same-T, differ-T, all_from}
use Rattle.proved.proofs.Rows as rows
use Rattle.names.specs.Names.{alone, differ}
use Rattle.names.specs.Rising.{last_before, rises}
use Rattle.names.proofs.Probing.{two-parts}
use Rattle.names.specs.Slots.{part_of, passed_by, DifferIn, name_of, look_in, finds, single}

-- two of the first n rows that have one name are one row
abbrev pub Differ : List ℕ → ℕ → Type 0
Differ names n = (i j : ℕ) → i < n → j < n → (get_or names i 0 ≡ 0 → ⊥) → get_or names i 0 ≡ get_or names j 0 → i ≡ j

module _ (names : List ℕ) (n : ℕ) where
  -- no two, where no later row has an earlier one's name
  two_ways : ((i j : ℕ) → i < j → j < n → (get_or names i 0 ≡ 0 → ⊥) → get_or names i 0 ≡ get_or names j 0 → ⊥) → Differ names n
  two_ways h i j a b u e = go (ℕ_discrete i j) (dec_lt i j)
    where
      go : Dec (i ≡ j) → Dec (i < j) → i ≡ j
      go (yes q) d = q
      go (no q) (yes l) = absurd (h i j l b u e)
      go (no q) (no l) = absurd (h j i (omega arith) a (λ z. u (e ∙ z)) (sym e))

  pub differ-shows : T (differ names n) → Differ names n
  unfolding differ alone
  differ-shows h = two_ways (λ i j l b u e. or_cases (eqb (get_or names j 0) 0) _ (all-at (alone names) n h j b) (λ z. u (e ∙ eqb→eq _ _ z)) (λ q. rows.differ _ _ (all-at (λ k. not (eqb (get_or names k 0) (get_or names j 0))) j q i l) e))

  pub differ-from : Differ names n → T (differ names n)
  unfolding differ alone
  differ-from h = all_from (alone names) n (λ j b. go j b (ℕ_discrete (get_or names j 0) 0))
    where
      go : (j : ℕ) → j < n → Dec (get_or names j 0 ≡ 0) → T (alone names j)
      go j b (yes z) = or_l (eqb (get_or names j 0) 0) _ (same-T _ _ z)
      go j b (no z) = or_r (eqb (get_or names j 0) 0) _ (all_from (λ k. not (eqb (get_or names k 0) (get_or names j 0))) j (λ k l. differ-T _ _ (λ e. let q = h k j (omega arith) b (λ y. z (sym e ∙ y)) e in omega arith)))

  pub shown : Differ names n → true ≡ differ names n
  shown h = sym (T_true (differ names n) (differ-from h))

  -- each name of a part finds its own row: one name finds one row
  pub found-differ : (slots : List ℕ) (part : ℕ) → T (all_below (finds slots names part) n) → DifferIn names n part
  unfolding finds passed_by
  found-differ slots part h i j a b u s e = let p = row i a u s in let q = row j b (λ z. u (e ∙ z)) (ap part_of (sym e) ∙ s) in let r = ap (look_in slots names) e in omega arith
    where
      row : (k : ℕ) → k < n → (get_or names k 0 ≡ 0 → ⊥) → part_of (get_or names k 0) ≡ part → look_in slots names (get_or names k 0) ≡ k + 1
      row k l v w =
          or_cases (passed_by part (get_or names k 0)) _ (all-at (finds slots names part) n h k l)
          (λ z. absurd (or_cases (eqb (get_or names k 0) 0) _ z (λ q. v (eqb→eq _ _ q)) (λ q. rows.differ _ _ q w))) (λ z. eqb→eq _ _ z)

  -- so of both parts: a name is of one of them
  pub parts-differ : DifferIn names n 0 → DifferIn names n 1 → Differ names n
  parts-differ first second i j a b u e = go (ℕ_discrete (part_of (get_or names i 0)) 0)
    where
      go : Dec (part_of (get_or names i 0) ≡ 0) → i ≡ j
      go (yes z) = first i j a b u z e
      go (no z) = second i j a b u (omega (arith, two-parts (get_or names i 0))) e

  -- and a name that finds another row with that name stands twice
  named-row : (row : ℕ) → (name_of names row ≡ 0 → ⊥) → row ≤ 8192 → (1 ≤ row) × (name_of names row ≡ get_or names (row - 1) 0)
  unfolding name_of
  named-row row u l = go (ℕ_discrete row 0) u
    where
      go : Dec (row ≡ 0) → (cond (eqb row 0) 0 (cond (ltb 8192 row) 0 (get_or names (row - 1) 0)) ≡ 0 → ⊥) → (1 ≤ row) × (cond (eqb row 0) 0 (cond (ltb 8192 row) 0 (get_or names (row - 1) 0)) ≡ get_or names (row - 1) 0)
      go (yes z) v = absurd (v (rw (eq-eqb row 0 z)))
      go (no z) v = (omega arith, rw (ne_eqb row 0 z, le-ltb 8192 row l))

  -- the ways in which a row is single: it has no name, or the name finds no row, the row itself, one past the first n, or one with another name
  module _ (slots : List ℕ) (i : ℕ) where
    pub single-none : get_or names i 0 ≡ 0 → true ≡ single slots names n i
    unfolding single
    single-none z = rw (eq-eqb _ _ z)

    pub single-lost : (get_or names i 0 ≡ 0 → ⊥) → look_in slots names (get_or names i 0) ≡ 0 → true ≡ single slots names n i
    unfolding single name_of
    single-lost u z = rw (ne_eqb _ _ u, z, ne_eqb 0 (i + 1) (λ e. omega arith), le-ltb n 0 (omega arith), ne_eqb 0 (get_or names i 0) (λ e. u (sym e)))

    module _ (row : ℕ) (found : look_in slots names (get_or names i 0) ≡ row + 1) where
      pub single-itself : row ≡ i → true ≡ single slots names n i
      unfolding single
      single-itself e = sym (T_true _ (or_r (eqb (get_or names i 0) 0) _ (or_l (eqb (look_in slots names (get_or names i 0)) (i + 1)) _ (same-T _ _ (omega (arith, found, e))))))

      pub single-past : n ≤ row → true ≡ single slots names n i
      unfolding single
      single-past l = sym (T_true _ (or_r (eqb (get_or names i 0) 0) _ (or_r (eqb (look_in slots names (get_or names i 0)) (i + 1)) _ (or_l (ltb n (look_in slots names (get_or names i 0))) _ (true-T (lt-ltb _ _ (omega (arith, found, l))))))))

      pub single-other : (get_or names i 0 ≡ 0 → ⊥) → (row ≡ i → ⊥) → row < n → n ≤ 8192 → not (eqb (get_or names row 0) (get_or names i 0)) ≡ single slots names n i
      unfolding single name_of
      single-other u d l few =
          let q : row + 1 - 1 ≡ row = omega arith in
          rw (ne_eqb _ _ u, found, ne_eqb (row + 1) (i + 1) (λ e. d (omega arith)), le-ltb n (row + 1) (omega arith), ne_eqb (row + 1) 0 (λ e. omega arith), le-ltb 8192 (row + 1) (omega arith), q)

  differ-single : (slots : List ℕ) → n ≤ 8192 → Differ names n → (i : ℕ) → i < n → T (single slots names n i)
  unfolding single
  differ-single slots few h i l = go (ℕ_discrete (get_or names i 0) 0) (ℕ_discrete row (i + 1)) (dec_lt n row) (ℕ_discrete (name_of names row) (get_or names i 0))
    where
      row : ℕ
      row = look_in slots names (get_or names i 0)

      go : Dec (get_or names i 0 ≡ 0) → Dec (row ≡ i + 1) → Dec (n < row) → Dec (name_of names row ≡ get_or names i 0) → T (eqb (get_or names i 0) 0 || (eqb row (i + 1) || (ltb n row || not (eqb (name_of names row) (get_or names i 0)))))
      go (yes a) b c d = rw (eq-eqb (get_or names i 0) 0 a) tt
      go (no a) (yes b) c d = or_r (eqb (get_or names i 0) 0) _ (rw (eq-eqb row (i + 1) b) tt)
      go (no a) (no b) (yes c) d = or_r (eqb (get_or names i 0) 0) _ (or_r (eqb row (i + 1)) _ (rw (lt-ltb n row c) tt))
      go (no a) (no b) (no c) (no d) = or_r (eqb (get_or names i 0) 0) _ (or_r (eqb row (i + 1)) _ (or_r (ltb n row) _ (differ-T (name_of names row) (get_or names i 0) d)))
      go (no a) (no b) (no c) (yes d) =
          let w = named-row row (λ z. a (sym d ∙ z)) (omega arith) in
          let low = w.0 in
          let q = h i (row - 1) l (omega arith) a (sym d ∙ w.1) in
          let z : ⊥ = b (omega arith) in
          absurd z

  pub twin-tells : (slots : List ℕ) → n ≤ 8192 → all_below (single slots names n) n ≡ false → false ≡ differ names n
  twin-tells slots few e =
      same_test false (differ names n) (λ z. absurd z) (λ t. subst T e (all_from (single slots names n) n (differ-single slots few (differ-shows t))))

-- ---- rising

-- a name is none, or above the last before it
above : (names : List ℕ) (i : ℕ) → T (rises names i) → (get_or names i 0 ≡ 0 → ⊥) → last_before names i < get_or names i 0
unfolding rises
above names i h u = or_cases (eqb (get_or names i 0) 0) _ h (λ z. absurd (u (eqb→eq _ _ z))) (λ z. ltb→lt _ _ z)

-- names before row j that rise are at most the last of them
up-to-last : (names : List ℕ) (j : ℕ) → ((k : ℕ) → k < j → T (rises names k)) → (i : ℕ) → i < j → get_or names i 0 ≤ last_before names j
unfolding last_before
up-to-last names zero h i l = absurd (not-suc-le-zero l)
up-to-last names (suc j) h i l = go (ℕ_discrete (get_or names j 0) 0) (ℕ_discrete i j) (up-to-last names j (λ k q. h k (omega arith)) i)
  where
    last : ℕ
    last = last_before names j

    go : Dec (get_or names j 0 ≡ 0) → Dec (i ≡ j) → (i < j → get_or names i 0 ≤ last) → get_or names i 0 ≤ or_else (get_or names j 0) last
    go (yes z) (yes e) ih = rw (eq-eqb _ _ z) (let q = ap (λ (k : ℕ). get_or names k 0) e in omega arith)
    go (yes z) (no e) ih = rw (eq-eqb _ _ z) (ih (omega arith))
    go (no z) (yes e) ih = rw (ne_eqb _ _ z) (let q = ap (λ (k : ℕ). get_or names k 0) e in omega arith)
    go (no z) (no e) ih = rw (ne_eqb _ _ z) (let q = ih (omega arith) in let p = above names j (h j (omega arith)) z in omega arith)

pub rising-differ : (names : List ℕ) (n : ℕ) → T (all_below (rises names) n) → Differ names n
rising-differ names n h = two_ways names n (λ i j l b u e. let p = up-to-last names j (λ k q. all-at (rises names) n h k (omega arith)) i l in let q = above names j (all-at (rises names) n h j b) (λ z. u (e ∙ z)) in omega arith)

-- the last name, one row further
pub last_more : (names : List ℕ) (i : ℕ) → last_before names (i + 1) ≡ or_else (get_or names i 0) (last_before names i)
unfolding last_before
last_more names i = rw (add-one i)
