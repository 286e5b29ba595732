-- `bodies::search::find` meets its contract. The loop keeps where the key can still be; what is left is halved. Assumes nothing.
use Prim.Native.Nat.{◌-◌}
use lib.ListN.{length}
use Rattle.bodies.specs.Bodies.{records_in}
use Rattle.bodies.specs.Kinds.{number}
use Rattle.bodies.proofs.Keys.{number_at}
use Rattle.bodies.proofs.Halving.{Between}
use Rattle.bodies.proofs.search.find.Given as goal

abbrev pub invariant-loop-low : goal.invariant-loop-low
invariant-loop-low l =
    Between (number_at l.whole.file.text.now (number l.kind)) (length (records_in l.whole.file.text.now (number l.kind))) l.key l.low l.high

abbrev pub decreases-loop-low : goal.decreases-loop-low
decreases-loop-low l = l.high - l.low
