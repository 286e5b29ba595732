-- `pairs::near::ends` meets its contract. The loop keeps where the pairs passed by lead; a law of Lookup. Assumes nothing.
use borrow.Author.Rules.{rules}
use native.Mathlib.Omega.{arith}
use Rattle.lists.proofs.Laws.{list-size}
use Rattle.pairs.proofs.Lookup.{ends-are}
use Rattle.pairs.proofs.near.ends.Goals as goal

pub returns : goal.returns
returns c =
    ends-are c.args.per c.min-n.result c.loop-i.to (list-size c.args.per c.min-n.result (search rules) c.min-n.ensures) (λ j q. c.loop-i.invariant.1 j (omega (arith, c.loop-i-test.false)))
