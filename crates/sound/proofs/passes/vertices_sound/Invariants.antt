use Rattle.rules.specs.Lent.{mesh_in}
use Rattle.names.proofs.Loops.{Passed}
use Rattle.sound.proofs.Rows.{vertex_passes}
use Rattle.sound.proofs.Named.{Risen}
use Rattle.sound.proofs.passes.vertices_sound.Given as goal

abbrev pub invariant-loop-i : goal.invariant-loop-i
invariant-loop-i l = Passed (vertex_passes (mesh_in l.mesh)) l.i × Risen l.mesh.vertices.now l.i l.keys.so l.keys.last
