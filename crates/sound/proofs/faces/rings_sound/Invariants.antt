use Rattle.rules.specs.Lent.{mesh_in}
use Rattle.names.proofs.Loops.{Passed}
use Rattle.sound.proofs.Rows.{face_passes}
use Rattle.sound.proofs.Named.{Risen}
use Rattle.sound.proofs.RingFull.{Going}
use Rattle.sound.proofs.faces.rings_sound.Given as goal

abbrev pub invariant-loop-i : goal.invariant-loop-i
invariant-loop-i l =
    Going (mesh_in l.mesh) l.left l.i
    × (Passed (face_passes (mesh_in l.mesh)) l.i × Risen l.mesh.faces.now l.i l.keys.so l.keys.last)
