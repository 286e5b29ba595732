-- `lists::all_differ` meets its contract. The loop keeps that the list is distinct if what is left of it is. Assumes nothing.
use mathlib.Core.Path.{◌≡◌}
use lib.ListN.{drop}
use Rattle.rules.specs.Table.{distinct}
use Rattle.lists.proofs.all_differ.Given as goal

abbrev pub invariant-loop-i : goal.invariant-loop-i
invariant-loop-i l = distinct l.x-items ≡ distinct (drop l.i l.x-items)
