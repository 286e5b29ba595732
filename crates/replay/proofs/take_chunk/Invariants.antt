-- It is the same mesh.
use Rattle.rules.specs.Lent.{SameMesh}
use Rattle.replay.proofs.take_chunk.Given as goal

abbrev pub invariant-loop : goal.invariant-loop
invariant-loop g l = SameMesh l.initial.mesh l.mesh
