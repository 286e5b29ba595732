-- `checks::bridge::corners_faced` meets its contract. The loop keeps that no pair passed by has a face; laws of Below and Pairs. Assumes nothing.
use Prim.Native.Nat.{ℕ}
use mathlib.Core.Path.{◌≡◌}
use mathlib.Core.Bool.{false}
use mathlib.Core.List.{List}
use lib.Ieee.{Float}
use Rattle.rules.specs.Table.{Table, some_below}
use Rattle.rules.specs.Mesh.{mesh, list_of}
use Rattle.rules.specs.Insert.{has_face}
use Rattle.pairs.specs.Pairs.{arcs_of}
use Rattle.checks.proofs.bridge.corners_faced.Given as goal

abbrev pub invariant-loop-i : goal.invariant-loop-i
invariant-loop-i l = (vs : Table) (ps : List (List Float)) (es fs : Table) (ks four : List ℕ) → list_of l.xs ≡ arcs_of l.arcs four → some_below (has_face (mesh vs ps l.arcs es fs ks) four) l.i ≡ false
