-- For the blocks of positions: the tests of a block put together, and what the tests of a row tell.
use Prim.Native.Nat.{ℕ, ◌+◌}
use native.Mathlib.Omega.{arith}
use mathlib.Core.Path.{◌≡◌, sym, subst, ◌∙◌}
use mathlib.Core.Bool.{Bool, true, ◌&&◌, ◌||◌}
use mathlib.Core.List.{List, []}
use lib.ListN.{get_or}
use lib.Ieee.{Float}
use Rattle.rules.specs.Table.{Table, used}
use Rattle.rules.specs.Point.{zero_position_row, finite_row}
use Rattle.proved.proofs.Rows.{there-row}
use Rattle.names.proofs.Loops.{one_more}
use Rattle.sound.specs.Tests.{position_test}
use Rattle.sound.specs.Parts.{Placed}
use Rattle.sound.proofs.HeldRuns.{and_first, and_second}

module _ (vertices : Table) (positions : List (List Float)) where
  pub no_more : (i : ℕ) → Placed vertices positions i → Placed vertices positions (i + 0)
  no_more i h = let q : i ≡ i + 0 = omega arith in subst (λ (z : ℕ). Placed vertices positions z) q h

  -- t tells of the k rows gone through, s of the row that follows
  place-more : (i k : ℕ) (t s : Bool) → (s ≡ true → position_test vertices (get_or positions (i + k) []) (i + k + 1) ≡ true) → (t ≡ true → Placed vertices positions i → Placed vertices positions (i + k)) → (t && s) ≡ true → Placed vertices positions i → Placed vertices positions (i + (k + 1))
  place-more i k t s p h e before =
      let q : i + k + 1 ≡ i + (k + 1) = omega arith in
      subst (λ (z : ℕ). Placed vertices positions z) q (one_more (λ j. position_test vertices (get_or positions j []) (j + 1)) (i + k) (h (and_first t s e) before) (p (and_second t s e)))

  -- a vertex with finite coordinates passes, and what is a vertex or zero
  used-passes : (j : ℕ) → used (get_or vertices j []) ≡ true → finite_row (get_or positions j []) ≡ true → position_test vertices (get_or positions j []) (j + 1) ≡ true
  unfolding position_test
  used-passes j u f = rw (there-row vertices j, u) f

  place-passes : (j : ℕ) → ((used (get_or vertices j []) || zero_position_row (get_or positions j [])) && finite_row (get_or positions j [])) ≡ true → position_test vertices (get_or positions j []) (j + 1) ≡ true
  unfolding position_test
  place-passes j e = rw (there-row vertices j) e

  pub used-more : (i k : ℕ) (t f : Bool) → f ≡ finite_row (get_or positions (i + k) []) → (t ≡ true → Placed vertices positions i → Placed vertices positions (i + k)) → (t && (used (get_or vertices (i + k) []) && f)) ≡ true → Placed vertices positions i → Placed vertices positions (i + (k + 1))
  used-more i k t f ef =
      let u : Bool = used (get_or vertices (i + k) []) in
      place-more i k t (u && f) (λ e. used-passes (i + k) (and_first u f e) (sym ef ∙ and_second u f e))

  pub passed-more : (i k : ℕ) (t s : Bool) → s ≡ ((used (get_or vertices (i + k) []) || zero_position_row (get_or positions (i + k) [])) && finite_row (get_or positions (i + k) [])) → (t ≡ true → Placed vertices positions i → Placed vertices positions (i + k)) → (t && s) ≡ true → Placed vertices positions i → Placed vertices positions (i + (k + 1))
  passed-more i k t s es = place-more i k t s (λ e. place-passes (i + k) (sym es ∙ e))
