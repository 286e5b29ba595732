-- `names::seated` meets its contract: laws of Seats for a row without a name, and for one that is put. Assumes nothing.
use mathlib.Core.Path.{sym, ◌∙◌}
use Rattle.names.proofs.Seats.{none-seated, one-seated}
use Rattle.names.proofs.seated.Goals as goal

pub returns-then-passed_by : goal.returns-then-passed_by
returns-then-passed_by c =
    let a = c.args in
    λ e h. none-seated a.slots.now a.names.now a.part a.i h (sym c.passed_by.ensures ∙ c.if-passed_by.true)

pub returns : goal.returns
returns c =
    let a = c.args in
    λ e h. one-seated a.slots.now a.names.now a.part a.i h c.in-Some.slot c.requires c.in-Some.ensures.1
