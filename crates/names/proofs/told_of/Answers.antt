-- `names::told_of` meets its contract: a part whose names find their rows, and a name that finds another row. Assumes nothing.
use mathlib.Core.Path.{sym, ◌∙◌}
use Rattle.proved.proofs.Rows.{true-T}
use Rattle.names.proofs.Names.{found-differ, twin-tells}
use Rattle.names.proofs.told_of.Goals as goal

pub returns-then-all_seated : goal.returns-then-all_seated
returns-then-all_seated c =
    let a = c.args in
    found-differ a.names.now a.n _ a.part (true-T (c.all_seated.ensures c.if-all_seated.true))

pub returns-else-no_twin : goal.returns-else-no_twin
returns-else-no_twin c =
    let a = c.args in
    twin-tells a.names.now a.n _ c.requires (sym c.no_twin.ensures ∙ c.if-no_twin.false)
