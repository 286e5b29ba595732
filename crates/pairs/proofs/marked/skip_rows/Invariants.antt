-- `pairs::marked::skip_rows` meets its contract. The loop keeps that no row gone through has a mark; laws of Runs. Assumes nothing.
use Rattle.pairs.specs.Pairs.{NoMarks}
use Rattle.pairs.proofs.marked.skip_rows.Given as goal

abbrev pub invariant-loop-i : goal.invariant-loop-i
invariant-loop-i l = NoMarks l.arcs l.seen l.from l.i
