-- `fills::fill::fill` meets its contract. The loop keeps that each row passed by is one that was made, and the rows behind. Assumes nothing.
use lib.ListN.{length-set}
use borrow.Author.Rules.{rules}
use Rattle.fills.proofs.Over.{made-next, rest-next}
use Rattle.fills.proofs.fill.fill.Given as given
use Rattle.fills.proofs.fill.fill.Goals as goal

pub loop-i-preserved : goal.loop-i-preserved
loop-i-preserved g c =
    let l = c.loop-i in
    let row = c.make-row.result in (
      simp length-set l.invariant.0,
      (
        made-next (λ i r. (before : _) × given.F-post g c.args.make i before r) l.table l.i row (search rules) l.invariant.1.0 (l.before, c.make-row.ensures),
        rest-next l.table c.args.table.now l.i row l.invariant.1.1,
      ),
    )

pub returns-clause-made : goal.returns-clause-made
returns-clause-made g c = λ i d m. c.loop-i.invariant.1.0 i d (search rules)
