-- The loop stands where the definition stands at the same place of the chunk.
use Rattle.std.proofs.Common.{◌≡◌, ◌≤◌, ◌+◌, drop, length}
use Rattle.runs.specs.Gather.{gathered_from}
use Rattle.runs.proofs.held.Held.gather.Given as goal

abbrev pub invariant-loop-i : goal.invariant-loop-i
invariant-loop-i l =
    (l.from ≤ l.i) × (l.i ≤ l.from + length (drop l.from l.chunk))
    × (gathered_from l.from l.initial.self (drop l.from l.chunk) ≡ gathered_from l.i l.self (drop l.i l.chunk))
