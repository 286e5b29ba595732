-- `tables::rows::find_arc` meets its contract. The invariant: no row before it joins a to b. Assumes nothing.
use mathlib.Core.List.{[]}
use Rattle.rules.specs.Mesh.{joins}
use Rattle.tables.proofs.Scans.{Missed}
use Rattle.tables.proofs.rows.find_arc.Given as goal

abbrev pub invariant-loop-arc : goal.invariant-loop-arc
invariant-loop-arc l = Missed (joins l.a l.b) l.arcs [] l.arc
