-- Free rows counted from the end of a table, and no further than the need: whether there are enough.
use Prim.Native.Nat.{ℕ, ◌+◌, ◌≤◌}
use native.Mathlib.Omega.{arith}
use native.Mathlib.Decide.{dec_le}
use mathlib.Core.Path.{◌≡◌, refl, ap, ◌∙◌}
use mathlib.Core.Bool.{Bool, true, false, cond}
use mathlib.Core.List.{List, [], ◌∷◌, ◌++◌, reverse}
use lib.ListN.{length, take, length-take}
use lib.Dec.{eqb, leb}
use borrow.Author.Tests.{eq-eqb, ne_eqb, lt-leb, le-leb}
use Rattle.std.specs.List.{filter}
use Rattle.std.proofs.lemmas.List.{reverse-append}
use Rattle.rules.specs.Table.{count}
use Rattle.rules.proofs.Counts.{bit, count-cons}

module _ {A : Type 0} (p : A → Bool) where
  pick : (b : Bool) (x : A) (xs : List A) → length (cond b (x ∷ xs) xs) ≡ length xs + bit b
  pick true x xs = omega arith
  pick false x xs = omega arith

  passing : (xs : List A) → length (filter p xs) ≡ count p xs
  unfolding count
  passing [] = refl
  passing (x ∷ xs) = omega (arith, pick (p x) x (filter p xs), passing xs, count-cons p x xs)

  count_append : (xs ys : List A) → count p (xs ++ ys) ≡ count p xs + count p ys
  unfolding count
  count_append [] ys = omega arith
  count_append (x ∷ xs) ys = omega (arith, count-cons p x xs, count-cons p x (xs ++ ys), count_append xs ys)

  backwards : (xs : List A) → count p (reverse xs) ≡ count p xs
  unfolding count
  backwards [] = refl
  backwards (x ∷ xs) =
      omega (arith, ap (count p) (reverse-append (x ∷ []) xs), count_append (reverse xs) (x ∷ []), count-cons p x [], count-cons p x xs, backwards xs)

  pub enough_told : (t : List A) (need n : ℕ) → n ≡ length (take need (filter p (reverse t))) → eqb n need ≡ leb need (count p t)
  enough_told t need n e = go (dec_le need (count p t))
    where
      all : length (filter p (reverse t)) ≡ count p t
      all = passing (reverse t) ∙ backwards t

      go : Dec (need ≤ count p t) → eqb n need ≡ leb need (count p t)
      go (yes h) = rw (le-leb need (count p t) h, eq-eqb n need (omega (arith, e, all, length-take need (filter p (reverse t)))))
      go (no h) = rw (lt-leb need (count p t) (omega arith), ne_eqb n need (omega (arith, e, all, length-take need (filter p (reverse t)))))
