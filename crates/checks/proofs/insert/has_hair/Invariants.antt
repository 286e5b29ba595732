-- `checks::insert::has_hair` meets its contract. The loop keeps that no pair passed by is in one spot; laws of Below. Assumes nothing.
use Prim.Native.Nat.{ℕ}
use mathlib.Core.Path.{◌≡◌}
use mathlib.Core.Bool.{false}
use mathlib.Core.List.{List}
use Rattle.rules.specs.Table.{Table, some_below}
use Rattle.rules.specs.Mesh.{mesh}
use Rattle.rules.specs.Insert.{in_one_spot}
use Rattle.checks.proofs.insert.has_hair.Given as goal

abbrev pub invariant-loop-i : goal.invariant-loop-i
invariant-loop-i l = (vs ar es fs : Table) (ks : List ℕ) → some_below (in_one_spot (mesh vs l.positions ar es fs ks) l.per) l.i ≡ false
