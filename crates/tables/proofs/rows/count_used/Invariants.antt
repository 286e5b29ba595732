-- `tables::rows::count_used` meets its contract. The invariant: n of the rows gone through count, and the rest holds the others. Assumes nothing.
use Prim.Native.Nat.{◌≤◌}
use mathlib.Core.List.{[]}
use Rattle.rules.specs.Table.{used}
use Rattle.tables.proofs.Scans.{Counted}
use Rattle.tables.proofs.rows.count_used.Given as goal

abbrev pub invariant-loop-row : goal.invariant-loop-row
invariant-loop-row g l = (l.n ≤ l.row-index) × Counted used l.t [] l.n l.row-index
