-- The numbers after the first, copied, and the 0 behind them.
use Rattle.std.proofs.Common.{◌≡◌, length}
use borrow.Author.Rules.{rules}
use Rattle.script.proofs.Says.{after-all}
use Rattle.script.proofs.lines.after_first.Goals as goal

pub returns : goal.returns
returns c = λ n ns e.
    let full : length c.args.values ≡ 256 = search rules in
    after-all _ _ n ns full c.copy_from_slice.ensures.after e
