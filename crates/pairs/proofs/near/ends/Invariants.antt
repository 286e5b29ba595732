-- `pairs::near::ends` meets its contract. The loop keeps where the pairs passed by lead; a law of Lookup. Assumes nothing.
use Prim.Native.Nat.{ℕ, ◌<◌}
use mathlib.Core.Path.{◌≡◌}
use lib.ListN.{length, get_or}
use Rattle.rules.specs.Table.{after}
use Rattle.pairs.proofs.near.ends.Given as goal

abbrev pub invariant-loop-i : goal.invariant-loop-i
invariant-loop-i l = (length l.to ≡ 64) × ((j : ℕ) → j < l.i → get_or l.to j 0 ≡ get_or l.per.at (after l.n j) 0)
