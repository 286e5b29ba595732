use mathlib.Core.Path.{◌≡◌}
use lib.ListN.{length}
use Rattle.edits.proofs.near.sources.Given as goal

abbrev pub invariant-loop-i : goal.invariant-loop-i
invariant-loop-i l = length l.at ≡ 64
