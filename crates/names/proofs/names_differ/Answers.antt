-- `names::names_differ` meets its contract: names that rise differ, and the rest is sorted out. Assumes nothing.
use mathlib.Core.Path.{◌∙◌, sym}
use Rattle.proved.proofs.Rows.{true-T}
use Rattle.names.proofs.Names.{rising-differ, shown}
use Rattle.names.proofs.names_differ.Goals as goal

pub returns-then-rising : goal.returns-then-rising
returns-then-rising c =
    let a = c.args in
    λ l. c.if-rising.true ∙ shown a.names.now a.n (rising-differ a.names.now a.n (true-T (sym c.rising.ensures ∙ c.if-rising.true)))
