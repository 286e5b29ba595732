-- `checks::split::held_by_other` meets its contract. The loop keeps that no pair passed by is (held l) by another face; laws of Below. Assumes nothing.
use Prim.Native.Nat.{ℕ}
use mathlib.Core.Path.{◌≡◌}
use mathlib.Core.Bool.{false}
use mathlib.Core.List.{List}
use lib.Ieee.{Float}
use Rattle.rules.specs.Table.{Table, some_below}
use Rattle.rules.specs.Mesh.{mesh, list_of}
use Rattle.checks.proofs.Pairs.{taken}
use Rattle.pairs.specs.Pairs.{arcs_of}
use Rattle.checks.proofs.split.held_by_other.Given as goal

abbrev pub invariant-loop-i : goal.invariant-loop-i
invariant-loop-i l = (vs : Table) (ps : List (List Float)) (es fs : Table) (ks per : List ℕ) → list_of l.xs ≡ arcs_of l.arcs per → some_below (taken (mesh vs ps l.arcs es fs ks) l.f per) l.i ≡ false
