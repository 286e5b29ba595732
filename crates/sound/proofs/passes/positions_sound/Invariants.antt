use Rattle.rules.specs.Lent.{mesh_in}
use Rattle.names.proofs.Loops.{Passed}
use Rattle.sound.proofs.Rows.{position_passes}
use Rattle.sound.proofs.passes.positions_sound.Given as goal

abbrev pub invariant-loop-i : goal.invariant-loop-i
invariant-loop-i l = Passed (position_passes (mesh_in l.mesh)) l.i
