-- `fills::fill::fill` meets its contract. The loop keeps that each row passed by is one that was made, and the rows behind. Assumes nothing.
use mathlib.Core.Path.{◌≡◌}
use lib.ListN.{length, drop}
use Rattle.fills.specs.Fills.{MadeBelow}
use Rattle.fills.proofs.fill.fill.Given as goal

abbrev pub invariant-loop-i : goal.invariant-loop-i
invariant-loop-i g l =
    (length l.table ≡ length l.initial.table)
    × (MadeBelow (λ i row. (before : _) × goal.F-post g l.make i before row) l.table l.i × (drop l.i l.table ≡ drop l.i l.initial.table))
