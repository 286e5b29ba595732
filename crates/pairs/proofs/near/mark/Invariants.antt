-- `pairs::near::mark` meets its contract. The loop keeps the marks of as many numbers as it passed. Assumes nothing.
use mathlib.Core.Path.{◌≡◌}
use Rattle.rules.specs.Table.{up_to}
use Rattle.rules.specs.Mesh.{list_of}
use Rattle.pairs.proofs.Steps.{mark_at}
use Rattle.pairs.proofs.near.mark.Given as goal

abbrev pub invariant-loop-i : goal.invariant-loop-i
invariant-loop-i l = l.seen ≡ up_to (mark_at (list_of l.list)) l.i l.initial.seen
