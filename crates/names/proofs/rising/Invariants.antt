use mathlib.Core.Path.{◌≡◌}
use Rattle.names.specs.Rising.{last_before, rises}
use Rattle.names.proofs.Loops.{Passed}
use Rattle.names.proofs.rising.Given as goal

abbrev pub invariant-loop-i : goal.invariant-loop-i
invariant-loop-i l = (l.last ≡ last_before l.names l.i) × Passed (rises l.names) l.i
