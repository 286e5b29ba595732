-- `checks::extrude::moved_finite` meets its contract. The loop keeps that each vertex passed by is finite once moved; laws of Scan. Assumes nothing.
use Prim.Native.Nat.{ℕ, ◌<◌}
use mathlib.Core.Path.{◌≡◌}
use mathlib.Core.Bool.{true}
use mathlib.Core.List.{List}
use lib.ListN.{get_or}
use Rattle.rules.specs.Table.{Table}
use Rattle.rules.specs.Mesh.{mesh, list_of}
use Rattle.rules.specs.Point.{finite_position}
use Rattle.rules.specs.Extrude.{moved_position}
use Rattle.checks.proofs.extrude.moved_finite.Given as goal

abbrev pub invariant-loop-i : goal.invariant-loop-i
invariant-loop-i l = (j : ℕ) → j < l.i → (vs ar es fs : Table) (ks : List ℕ) → finite_position (moved_position (mesh vs l.positions ar es fs ks) l.mv (get_or (list_of l.list) j 0)) ≡ true
