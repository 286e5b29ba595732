-- `pairs::near::note_listed` meets its contract. The loop keeps the link noted at as many pairs as it passed; laws of Lookup. Assumes nothing.
use Rattle.pairs.specs.Near.{LinkNoted}
use Rattle.pairs.proofs.near.note_listed.Given as goal

abbrev pub invariant-loop-i : goal.invariant-loop-i
invariant-loop-i l = LinkNoted l.from l.to l.s l.d l.x l.initial.at l.i l.at
