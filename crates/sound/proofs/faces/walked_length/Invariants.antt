use Rattle.sound.proofs.RingLinked.{Going}
use Rattle.sound.proofs.faces.walked_length.Given as goal

abbrev pub invariant-loop-n : goal.invariant-loop-n
invariant-loop-n l = Going l.arcs l.first l.f l.sources l.n l.x l.before l.end
