-- `checks::insert::leads_back` meets its contract. The tests of the code, in their order. Assumes nothing.
use mathlib.Core.Path.{◌∙◌}
use borrow.Author.Tests.{eq-eqb, ne_eqb}
use Rattle.checks.proofs.Slices.{any_is}
use Rattle.checks.proofs.insert.leads_back.Goals as goal

pub returns-then-y-ne0 : goal.returns-then-y-ne0
returns-then-y-ne0 c =
    rw (ne_eqb _ _ c.if-x-eq0.false, eq-eqb _ _ c.if-w-ne0.false, ← c.cell-y.ensures, ne_eqb _ _ c.if-y-ne0.true, ← c.cell.ensures) (c.contains.ensures.value ∙ any_is c.args.per.now c.cell.result)
