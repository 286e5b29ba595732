-- `bodies::layout::offsets_stand` meets its contract. The loop keeps whether the bodies that are left stand in place. Assumes nothing.
use Prim.Native.Nat.{◌+◌, ◌*◌, ◌≤◌}
use mathlib.Core.Path.{◌≡◌}
use lib.ListN.{drop}
use Rattle.file.specs.File.{schema, placed}
use Rattle.bodies.specs.Bodies.{entry}
use Rattle.bodies.proofs.layout.offsets_stand.Given as goal

abbrev pub invariant-loop-kind : goal.invariant-loop-kind
invariant-loop-kind l =
    (l.at ≤ 44 + l.kind-index * 137438953440) × (placed 44 schema l.text ≡ placed l.at (drop l.kind-index schema) (entry l.kind-index l.text))
