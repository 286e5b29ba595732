-- `pairs::near::lesser` meets its contract: a law of Lookup for each way. Assumes nothing.
use mathlib.Core.Path.{sym, ◌∙◌}
use borrow.Author.Tests.{eq-eqb, ne_eqb}
use Rattle.pairs.proofs.Lookup.{least_other, least-lower}
use Rattle.pairs.proofs.near.lesser.Goals as goal
use Rattle.pairs.proofs.near.lesser.Goals.{else-cell-a-via-then-cell-a+else-cell-b, else-cell-a-via-else-cell-a}

pub returns-then-cell-b : goal.returns-then-cell-b
returns-then-cell-b c =
    let f = c.cell in
    let t = c.cell-then-cell-a in
    let a = c.args in
    λ list h. rw c.lower.ensures (least-lower a.arcs.now a.a a.b list a.m a.x h f.result t.result c.requires f.ensures t.ensures c.if-cell-a.true c.if-cell-b.true)

pub returns-else-cell-a : goal.returns-else-cell-a
returns-else-cell-a c =
    let a = c.args in
    λ list h. least_other a.arcs.now a.a a.b list a.m a.x h
    (elim c.else-cell-a.branch [
      | else-cell-a-via-then-cell-a+else-cell-b w ↦
          rw (eq-eqb _ _ (sym c.cell.ensures ∙ w.if-cell-a.true), ne_eqb _ _ (λ e. w.if-cell-b.false (w.cell-then-cell-a.ensures ∙ e)))
      | else-cell-a-via-else-cell-a w ↦ rw (ne_eqb _ _ (λ e. w.if-cell-a.false (c.cell.ensures ∙ e)))
    ])
