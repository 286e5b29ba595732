-- `pairs::near::lower` meets its contract: the tests are those of the definition. Assumes nothing.
use borrow.Author.Rules.{rules}
use Rattle.pairs.specs.Near.{lower_link}
use Rattle.pairs.proofs.near.lower.Goals as goal

pub returns-then-x-m : goal.returns-then-x-m
unfolding lower_link
returns-then-x-m c = search rules

pub returns-else-x-m : goal.returns-else-x-m
unfolding lower_link
returns-else-x-m c = search rules
