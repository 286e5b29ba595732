-- `bodies::layout::length_fits` meets its contract. The loop keeps what the counts that are left ask. Assumes nothing.
use Prim.Native.Nat.{◌+◌, ◌*◌, ◌≤◌}
use mathlib.Core.Path.{◌≡◌}
use lib.ListN.{drop}
use Rattle.file.specs.File.{schema, asked}
use Rattle.bodies.specs.Bodies.{entry}
use Rattle.bodies.proofs.layout.length_fits.Given as goal

abbrev pub invariant-loop-counted : goal.invariant-loop-counted
invariant-loop-counted l =
    (l.end ≤ 44 + l.counted-index * 137438953440) × (44 + asked schema l.text ≡ l.end + asked (drop l.counted-index schema) (entry l.counted-index l.text))
