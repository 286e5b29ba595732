use mathlib.Core.Path.{◌∙◌}
use lib.ListN.{length-set}
use Rattle.edits.proofs.near.sources.Goals as goal

pub loop-i-preserved : goal.loop-i-preserved
loop-i-preserved c =
    let l = c.loop-i in
    length-set l.at l.i c.cell.result ∙ l.invariant
