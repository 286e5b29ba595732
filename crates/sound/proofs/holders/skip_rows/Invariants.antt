-- `sound::holders::skip_rows` meets its contract. The loop keeps that every row gone through holds a face; laws of Runs. Assumes nothing.
use Rattle.sound.specs.Parts.{AllHold}
use Rattle.sound.proofs.holders.skip_rows.Given as goal

abbrev pub invariant-loop-i : goal.invariant-loop-i
invariant-loop-i l = AllHold l.arcs l.from l.i
