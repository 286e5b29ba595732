-- `pairs::met_before` meets its contract. The loop keeps that no pair passed by joins the two; laws of Below and Steps. Assumes nothing.
use Prim.Native.Nat.{ℕ, ◌+◌, ◌<◌}
use mathlib.Core.Path.{◌≡◌}
use mathlib.Core.Bool.{Bool, false}
use lib.ListN.{get_or}
use Rattle.rules.specs.Table.{some_below}
use Rattle.pairs.specs.Pairs.{same_two}
use Rattle.pairs.proofs.met_before.Given as goal

abbrev pub invariant-loop-j : goal.invariant-loop-j
invariant-loop-j l = (p : ℕ → Bool) → ((k : ℕ) → k < l.i → p k ≡ same_two (get_or l.at k 0) (get_or l.at (k + 1) 0) l.a l.b) → some_below p l.j ≡ false
