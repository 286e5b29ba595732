-- The interior of the pairs passed by.
use mathlib.Core.Path.{◌≡◌}
use lib.ListN.{length, take}
use Rattle.rules.specs.Table.{up_to}
use Rattle.insert.proofs.Loops.{interior_in}
use Rattle.insert.proofs.perimeter.interior.Given as goal

abbrev pub invariant-loop-i : goal.invariant-loop-i
invariant-loop-i l = (length l.arcs ≡ length l.initial.arcs) × (l.arcs ≡ up_to (interior_in (take l.n l.at) l.face) l.i l.initial.arcs)
