-- What a scan of a table ends with, and what a count has reached. One law for every scan, over any rows and any test.
use Prim.Native.Nat.{ℕ, suc, ◌+◌, ◌≤◌, ◌<◌}
use mathlib.Core.Path.{◌≡◌, refl, sym, ap, ◌∙◌}
use mathlib.Core.Bool.{Bool, true, false, cond}
use mathlib.Core.List.{List, []}
use native.Mathlib.Numerals.{add-one}
use native.Mathlib.Omega.{arith}
use lib.ListN.{length, get_or, drop, drop_of_length-le, get_or-eq_default}
use lib.Seq.{drop-cons}
use lib.Dec.{leb}
use borrow.Author.Tests.{le-leb, lt-leb}
use Rattle.std.proofs.lemmas.List.{get_or_default}
use Rattle.rules.specs.Table.{Table, row_limit, link_into, first_row, count}
use Rattle.rules.specs.Mesh.{keyed, find_key}
use Rattle.rules.proofs.Scan.{none_passes, first_passes}
use Rattle.rules.proofs.Counts.{bit, count-cons}

both_ways : (b : Bool) → ◌≡◌ {A = ℕ} 0 (cond b 0 0)
both_ways true = refl
both_ways false = refl

module _ {A : Type 0} where
  -- a table over the limit has no links to give
  pub into-large : (t : List A) (l : ℕ) → row_limit < length t → 0 ≡ link_into t l
  into-large t l h = rw (lt-leb (length t) row_limit h)

  pub into-fits : (t : List A) (l : ℕ) → length t ≤ row_limit → l ≡ link_into t l
  into-fits t l h = rw (le-leb (length t) row_limit h)

  module _ (p : A → Bool) (t : List A) (d : A) where
    -- the row that a loop has reached, with what the test says of it
    pub reached : (i : ℕ) (r : A) (b c : Bool) → i < length t → r ≡ get_or t i r → b ≡ p r → b ≡ c → p (get_or t i d) ≡ c
    reached i r b c l e t1 t2 = rw (get_or_default t i d r l, ← e, ← t1) t2

    -- the rows before i fail the test
    abbrev pub Missed : ℕ → Type 0
    Missed i = (k : ℕ) → k < i → p (get_or t k d) ≡ false

    pub into-found : (i : ℕ) → length t ≤ row_limit → i < length t → Missed i → p (get_or t i d) ≡ true → i + 1 ≡ link_into t (first_row p t)
    into-found i h l m e = add-one i ∙ sym (first_passes p t d i l m e) ∙ into-fits t (first_row p t) h

    pub into-none : (i : ℕ) → length t ≤ i → Missed i → 0 ≡ link_into t (first_row p t)
    into-none i h m = rw (none_passes p t d (λ k l. m k (omega arith))) (both_ways (leb (length t) row_limit))

    -- n rows passed before i, and the rows from i on hold the rest
    abbrev pub Counted : ℕ → ℕ → Type 0
    Counted n i = n + count p (drop i t) ≡ count p t

    count-on : (i : ℕ) → i < length t → count p (drop i t) ≡ count p (drop (i + 1) t) + bit (p (get_or t i d))
    count-on i l = rw (drop-cons t i d, add-one) (count-cons p (get_or t i d) (drop (suc i) t))

    pub counted-one : (n i : ℕ) → i < length t → p (get_or t i d) ≡ true → Counted n i → Counted (n + 1) (i + 1)
    counted-one n i l e h = omega (arith, count-on i l, ap bit e)

    pub counted_none : (n i : ℕ) → i < length t → p (get_or t i d) ≡ false → Counted n i → Counted n (i + 1)
    counted_none n i l e h = omega (arith, count-on i l, ap bit e)

    none_left : (i : ℕ) → length t ≤ i → count p (drop i t) ≡ 0
    unfolding count
    none_left i h = rw (drop_of_length-le t h)

    pub counted-all : (n i : ℕ) → length t ≤ i → Counted n i → n ≡ count p t
    counted-all n i h e = omega (arith, none_left i h)

-- ---- lookup by key

pub key-large : (t : Table) (k : ℕ) → row_limit < length t → 0 ≡ find_key t k
unfolding find_key
key-large t k h = into-large t (cond (keyed k (get_or t k [])) (k + 1) (first_row (keyed k) t)) h

module _ (t : Table) (k : ℕ) where
  -- the likely row has the key
  pub likely-found : length t ≤ row_limit → keyed k (get_or t k []) ≡ true → k + 1 ≡ find_key t k
  unfolding find_key
  likely-found h y = rw y (into-fits t (k + 1) h)

  -- it has not: the scan decides
  pub likely-missed : keyed k (get_or t k []) ≡ false → link_into t (first_row (keyed k) t) ≡ find_key t k
  unfolding find_key
  likely-missed y = rw y

  pub likely-past : length t ≤ k → link_into t (first_row (keyed k) t) ≡ find_key t k
  likely-past h = likely-missed (rw (get_or-eq_default t [] h))
