-- `names::end_of` meets its contract. The loop keeps that the lookup of the name, also with a row put into any free slot, comes to the slot at hand;
-- laws of Seats. Assumes nothing.
use Prim.Native.Nat.{◌-◌, ◌<◌}
use Rattle.names.proofs.Seats.{Search}
use Rattle.names.proofs.end_of.Given as goal

abbrev pub invariant-loop : goal.invariant-loop
invariant-loop l = (l.slot < 8192) × Search l.slots l.names l.name (128 - l.counter) l.slot
