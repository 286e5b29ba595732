-- `insert::search::is_held` meets its contract. A law of Seeking for each way out. Assumes nothing.
use mathlib.Core.Bool.{not, true≢false}
use borrow.Author.Tests.{ne_eqb}
use mathlib.Core.Path.{ap, sym, ◌∙◌}
use Rattle.insert.proofs.Seeking.{any_is, held-face, held-mine, held-others}
use Rattle.insert.proofs.search.is_held.Goals as goal
use Rattle.insert.proofs.search.is_held.Goals.{then-cell-ne0, else-cell-ne0}

pub returns-then-contains : goal.returns-then-contains
returns-then-contains c =
    let a = c.args in
    let f = c.cell in
    elim c.if-cell-ne0.branch [
      | then-cell-ne0 w ↦ c.if-contains.true ∙ held-face a.arcs.now a.mine.now a.others.now a.x f.result f.ensures w.if-cell-ne0.true
      | else-cell-ne0 w ↦ c.if-contains.true ∙ held-mine a.arcs.now a.mine.now a.others.now a.x f.result f.ensures w.if-cell-ne0.false
          (sym (w.contains.ensures.value ∙ any_is a.mine.now a.x) ∙ sym w.value-is ∙ c.if-contains.true)
    ]

pub returns-else-contains : goal.returns-else-contains
returns-else-contains c =
    let a = c.args in
    let f = c.cell in
    let g = c.contains-else-contains in
    elim c.if-cell-ne0.branch [
      | then-cell-ne0 w ↦ elim (true≢false (sym (ap not (ne_eqb _ _ w.if-cell-ne0.true)) ∙ sym w.value-is ∙ c.if-contains.false)) [ ]
      | else-cell-ne0 w ↦ held-others a.arcs.now a.mine.now a.others.now a.x f.result f.ensures g.result w.if-cell-ne0.false
          (sym (w.contains.ensures.value ∙ any_is a.mine.now a.x) ∙ sym w.value-is ∙ c.if-contains.false) (g.ensures.value ∙ any_is a.others.now a.x)
    ]
