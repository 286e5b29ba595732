-- `checks::insert::conflict` meets its contract. The loop keeps that no pair passed by has a conflict; laws of Below. Assumes nothing.
use Prim.Native.Nat.{ℕ}
use mathlib.Core.Path.{◌≡◌}
use mathlib.Core.Bool.{false}
use mathlib.Core.List.{List}
use lib.Ieee.{Float}
use Rattle.rules.specs.Table.{Table, some_below}
use Rattle.rules.specs.Mesh.{mesh}
use Rattle.checks.proofs.Pairs.{clash}
use Rattle.checks.proofs.insert.conflict.Given as goal

abbrev pub invariant-loop-i : goal.invariant-loop-i
invariant-loop-i l = (vs : Table) (ps : List (List Float)) (es fs : Table) (ks : List ℕ) → some_below (clash (mesh vs ps l.arcs es fs ks) l.per) l.i ≡ false
