-- `tables::sets::copy` meets its contract: the first rows of the one before the rest of the other. Assumes nothing.
use mathlib.Core.Path.{ap, ◌∙◌}
use native.Mathlib.Omega.{arith}
use lib.ListN.{set, length-set}
use borrow.Author.Rules.{rules}
use Rattle.tables.proofs.Lists.{upto, upto-more, upto_all}
use Rattle.tables.proofs.sets.copy.Goals as goal

pub loop-i-preserved : goal.loop-i-preserved
loop-i-preserved g c =
    let a = c.args in
    let i = c.loop-i.i in
    let row = c.index-from-i in (
      simp length-set (search rules),
      search rules,
      ap (λ t. set t i row.result) c.loop-i.invariant.2
          ∙ ap (λ r. set (upto a.from.now i a.to.now) i r) row.is
          ∙ upto-more i a.from.now a.to.now row.result (omega arith) (omega arith),
    )

pub returns : goal.returns
returns g c =
    let a = c.args in
    c.loop-i.invariant.2 ∙ upto_all c.loop-i.i a.from.now a.to.now (omega arith)
