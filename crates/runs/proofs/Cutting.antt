-- A byte more of a line, a turn of the loop that gathers a line's bytes, and what a newline ends. Assumes nothing.
use Prim.Native.Nat.{ℕ, ◌+◌, ◌≤◌, ◌<◌}
use native.Mathlib.Numerals.{add-one}
use native.Mathlib.Omega.{arith}
use mathlib.Core.Path.{◌≡◌, refl}
use mathlib.Core.Bool.{true, false}
use mathlib.Core.List.{[], ◌∷◌}
use lib.ListN.{length, get_or, set, take, drop, drop_of_length-le}
use lib.Seq.{drop-cons}
use borrow.Author.Tests.{lt-ltb, le-ltb, eq-eqb, ne_eqb}
use Rattle.rules.specs.Script.{Text, newline}
use Rattle.script.specs.Texts.{Written, written}
use Rattle.runs.specs.Gather.{most_held, holding, gathering, gathered_from}

-- ---- one byte more

module _ (line : Text) (n b : ℕ) where
  pub held-full : most_held ≤ n → written line n ≡ holding (written line n) b
  unfolding holding
  held-full h = rw (le-ltb n most_held h)

  pub held_more : n < most_held → written (set line n b) (n + 1) ≡ holding (written line n) b
  unfolding holding
  held_more h = rw (lt-ltb n most_held h)

-- ---- a turn of the loop

module _ (chunk : Text) (i : ℕ) (line : Written) where
  pub gather-ends : i < length chunk → get_or chunk i 0 ≡ newline → gathered_from i line (drop i chunk) ≡ gathering (i + 1) line true
  unfolding gathered_from
  gather-ends h e = rw (drop-cons chunk i 0 h, eq-eqb (get_or chunk i 0) newline e)

  pub gather-on : i < length chunk → (get_or chunk i 0 ≡ newline → ⊥)
      → gathered_from i line (drop i chunk) ≡ gathered_from (i + 1) (holding line (get_or chunk i 0)) (drop (i + 1) chunk)
  unfolding gathered_from
  gather-on h n = rw (drop-cons chunk i 0 h, ne_eqb (get_or chunk i 0) newline n, add-one i)

  pub gather_none : length chunk ≤ i → gathered_from i line (drop i chunk) ≡ gathering i line false
  unfolding gathered_from
  gather_none h = rw (drop_of_length-le chunk h)

-- ---- the newline that an unended line lacks

pub first-put : (chunk : Text) (b : ℕ) → 0 < length chunk → take 1 (set chunk 0 b) ≡ b ∷ []
first-put [] b h = let z : ⊥ = omega arith in absurd z
first-put (x ∷ chunk) b h = refl
