-- No row before i is unused.
use mathlib.Core.List.{[]}
use Rattle.rules.specs.Table.{unused}
use Rattle.tables.proofs.Scans.{Missed}
use Rattle.edges.proofs.free.free_row.Given as goal

abbrev pub invariant-loop-i : goal.invariant-loop-i
invariant-loop-i g l = Missed unused l.rows [] l.i
