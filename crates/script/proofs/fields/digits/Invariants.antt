-- What is read is the digits that are left, after those whose value is at hand, which the limit bounds.
use Rattle.std.proofs.Common.{◌≡◌, ◌≤◌, drop}
use Rattle.rules.specs.Script.{digits_up_to}
use Rattle.script.proofs.Values.{digits_on}
use Rattle.script.proofs.fields.digits.Given as goal

abbrev pub invariant-loop-c : goal.invariant-loop-c
invariant-loop-c l = (l.value ≤ l.limit) × (digits_up_to l.limit l.field ≡ digits_on l.limit l.value (drop l.c-index l.field))
