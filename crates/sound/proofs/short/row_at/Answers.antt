-- `sound::short::row_at` meets its contract: the row that the link names, or zero where there is none. Assumes nothing.
use Rattle.sound.proofs.RingLinked.{row-or_zero}
use Rattle.sound.proofs.short.row_at.Goals as goal

pub returns : goal.returns
returns c =
    λ k. rw c.unwrap_or.ensures (row-or_zero c.args.arcs.now c.args.x c.row_of.result c.row_of.ensures k)
