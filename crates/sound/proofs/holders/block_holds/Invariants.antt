-- `sound::holders::block_holds` meets its contract. The loop keeps that, with all tests passed so far, every row gone through holds a face; laws
-- of Runs. Assumes nothing.
use Prim.Native.Nat.{◌+◌}
use mathlib.Core.Path.{◌≡◌}
use mathlib.Core.Bool.{true}
use Rattle.sound.specs.Parts.{AllHold}
use Rattle.sound.proofs.holders.block_holds.Given as goal

abbrev pub invariant-loop-k : goal.invariant-loop-k
invariant-loop-k l = l.all ≡ true → AllHold l.arcs l.i (l.i + l.k)
