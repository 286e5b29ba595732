-- `names::single_at` meets its contract: a law of Names for each way out. Assumes nothing.
use mathlib.Core.Path.{sym}
use Rattle.names.proofs.Names.{single-none, single-lost, single-itself, single-past, single-other}
use Rattle.names.proofs.single_at.Goals.{then-row-i-via-then-row-i, then-row-i-via-else-row-i+then-row-n}
use Rattle.names.proofs.single_at.Goals as goal

pub returns-then-name-eq0 : goal.returns-then-name-eq0
returns-then-name-eq0 c = single-none _ _ c.args.slots.now c.args.i c.if-name-eq0.true

pub returns-in_default : goal.returns-in_default
returns-in_default c =
    single-lost _ _ c.args.slots.now c.args.i c.if-name-eq0.false (sym c.in_default.ensures)

pub returns-then-row-i : goal.returns-then-row-i
returns-then-row-i c =
    let a = c.args in
    elim c.then-row-i.branch [ then-row-i-via-then-row-i w ↦ single-itself a.names.now a.n a.slots.now a.i c.in-Some.row (sym c.in-Some.ensures) w.if-row-i.true | then-row-i-via-else-row-i+then-row-n w ↦ single-past a.names.now a.n a.slots.now a.i c.in-Some.row (sym c.in-Some.ensures) w.if-row-n.true ]

pub returns : goal.returns
returns c =
    let a = c.args in
    single-other a.names.now a.n a.slots.now a.i c.in-Some.row (sym c.in-Some.ensures) c.if-name-eq0.false c.if-row-i.false c.if-row-n.false c.requires.0
