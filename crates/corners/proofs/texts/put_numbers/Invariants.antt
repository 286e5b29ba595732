-- The place is at most 1024.
use Rattle.std.proofs.Common.{◌≤◌}
use Rattle.corners.proofs.texts.put_numbers.Given as goal

abbrev pub invariant-loop : goal.invariant-loop
invariant-loop l = l.at ≤ 1024
