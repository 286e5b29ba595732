-- `lists::item` meets its contract. A law of Laws for each way out. Assumes nothing.
use borrow.Author.Rules.{rules}
use native.Mathlib.Omega.{arith}
use mathlib.Core.Path.{sym}
use Rattle.lists.proofs.Laws.{item_in, item-past}
use Rattle.lists.proofs.item.Goals as goal

pub returns-then-i-min : goal.returns-then-i-min
returns-then-i-min c =
    let a = c.args in
    sym (item_in a.list a.i (omega (arith, c.min.ensures, c.if-i-min.true)))

pub returns-else-i-min : goal.returns-else-i-min
returns-else-i-min c =
    let a = c.args in
    sym (item-past a.list a.i (search rules) (omega (arith, c.min.ensures, c.if-i-min.false)))
