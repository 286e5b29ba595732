-- `tables::sets::zero` meets its contract. The invariant: the first i rows are zero, and the rest is as it was; at the start they were zero before. Assumes nothing.
use mathlib.Core.List.{[]}
use mathlib.Core.Path.{◌≡◌, ◌∙◌}
use lib.ListN.{replicate}
use borrow.Author.Rules.{rules}
use Rattle.tables.proofs.Lists.{fill_more, fill-all, fill-same}
use Rattle.tables.proofs.sets.zero.Goals as goal

pub loop-i-init : goal.loop-i-init
loop-i-init g c =
    let z = c.skip-i.ensures in
    (z.0, fill-same c.skip-i.result (replicate g.row.N 0) [] c.args.to.now z.0 (λ k q. z.1 k (search rules) q))

pub loop-i-preserved : goal.loop-i-preserved
loop-i-preserved g c =
    let row : c.fill.new.self ≡ replicate g.row.N 0 = search rules in
    (search rules, rw (row, c.loop-i.invariant.1) (fill_more c.loop-i.i (replicate g.row.N 0) c.args.to.now (search rules)))

pub returns : goal.returns
returns g c =
    c.loop-i.invariant.1 ∙ fill-all c.loop-i.i (replicate g.row.N 0) c.args.to.now (search rules) (search rules)
