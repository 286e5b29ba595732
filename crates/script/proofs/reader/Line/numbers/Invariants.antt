-- All numbers are those in hand and then those that are left; the places past those in hand are 0. Each number takes two bytes or more,
-- so there is room. The measure is how many may still be read.
use Rattle.std.proofs.Common.{◌≡◌, ◌-◌}
use Rattle.script.proofs.Left.{InHand}
use Rattle.script.proofs.reader.Line.numbers.Given as goal

abbrev pub invariant-loop-count : goal.invariant-loop-count
invariant-loop-count l = InHand l.initial.self.text.now l.initial.self.at l.most l.values l.count l.ahead.at × (l.ahead.text ≡ l.initial.self.text)

abbrev pub decreases-loop-count : goal.decreases-loop-count
decreases-loop-count l = l.most - l.count
