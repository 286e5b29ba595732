-- `tables::rows::scan_key` meets its contract. The invariant: no row before i has the key. Assumes nothing.
use mathlib.Core.List.{[]}
use Rattle.rules.specs.Mesh.{keyed}
use Rattle.tables.proofs.Scans.{Missed}
use Rattle.tables.proofs.rows.scan_key.Given as goal

abbrev pub invariant-loop-i : goal.invariant-loop-i
invariant-loop-i g l = Missed (keyed l.key) l.t [] l.i
