-- `sound::places::block_used` meets its contract. The loop keeps that, with all tests passed so far, every row gone through passes; laws of
-- Placing. Assumes nothing.
use Prim.Native.Nat.{◌+◌}
use mathlib.Core.Path.{◌≡◌}
use mathlib.Core.Bool.{true}
use Rattle.sound.specs.Parts.{Placed}
use Rattle.sound.proofs.places.block_used.Given as goal

abbrev pub invariant-loop-k : goal.invariant-loop-k
invariant-loop-k l = l.all ≡ true → Placed l.vertices l.positions l.i → Placed l.vertices l.positions (l.i + l.k)
