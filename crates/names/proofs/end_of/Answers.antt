-- `names::end_of` meets its contract. The loop keeps that the lookup of the name, also with a row put into any free slot, comes to the slot at hand;
-- laws of Seats. Assumes nothing.
use Prim.Native.Nat.{◌+◌, ◌-◌}
use native.Mathlib.Omega.{arith}
use mathlib.Core.Path.{sym, ◌∙◌}
use Rattle.names.proofs.Probing.{slot-of-below, slot-after-below}
use Rattle.names.proofs.Seats.{search-start, search-on, search-free, search-met, search-end}
use Rattle.names.proofs.end_of.Goals.{then-row-eq0-via-then-row-eq0, then-row-eq0-via-else-row-eq0+then-name_of-name}
use Rattle.names.proofs.end_of.Goals as goal

pub loop-init : goal.loop-init
loop-init c =
    let a = c.args in
    rw c.slot_of-slot.ensures (slot-of-below _, search-start a.slots.now a.names.now a.name)

pub returns-then-row-eq0 : goal.returns-then-row-eq0
returns-then-row-eq0 c =
    let a = c.args in
    let p = c.loop in
    elim c.then-row-eq0.branch [ then-row-eq0-via-then-row-eq0 w ↦ search-free a.slots.now a.names.now a.name (128 - p.counter) (127 - p.counter) p.slot (omega arith) p.invariant.0 p.invariant.1 c.told-slots w.if-row-eq0.true | then-row-eq0-via-else-row-eq0+then-name_of-name w ↦ search-met a.slots.now a.names.now a.name (128 - p.counter) (127 - p.counter) p.slot (omega arith) p.invariant.0 p.invariant.1 w.if-row-eq0.false (sym w.name_of.ensures ∙ w.if-name_of-name.true) ]

pub loop-preserved : goal.loop-preserved
loop-preserved c =
    let a = c.args in
    let p = c.loop in
    rw c.slot_after-slot.ensures (slot-after-below _, search-on a.slots.now a.names.now a.name (128 - p.counter) (128 - (p.counter + 1)) p.slot (omega arith) p.invariant.0 p.invariant.1 c.if-row-eq0.false (λ z. c.if-name_of-name.false (c.name_of.ensures ∙ z)))

pub returns : goal.returns
returns c =
    let a = c.args in
    search-end a.slots.now a.names.now a.name _ c.loop.slot (omega arith) c.loop.invariant.1
