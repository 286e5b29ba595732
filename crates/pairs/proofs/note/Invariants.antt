-- `pairs::note` meets its contract. The loop keeps the arc noted at as many pairs as it passed; laws of Steps. Assumes nothing.
use mathlib.Core.Path.{◌≡◌}
use Rattle.rules.specs.Table.{up_to}
use Rattle.rules.specs.Mesh.{list_of}
use Rattle.pairs.specs.Pairs.{note_at}
use Rattle.pairs.proofs.note.Given as goal

abbrev pub invariant-loop-i : goal.invariant-loop-i
invariant-loop-i l = l.at ≡ up_to (note_at (list_of l.per) l.s l.d l.x) l.i l.initial.at
