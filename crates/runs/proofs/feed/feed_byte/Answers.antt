-- A byte is held; where it is a newline, the line that is held is run.
use Rattle.runs.proofs.Passing.{byte-held, byte-ends}
use Rattle.std.proofs.Common.{arith}
use Rattle.runs.proofs.feed.feed_byte.Goals as goal

pub returns-then-b-ne10-clause-fed_after : goal.returns-then-b-ne10-clause-fed_after
returns-then-b-ne10-clause-fed_after c = byte-held _ _ _ _ _ _ _ c.if-b-ne10.true (omega (arith, c.requires)) _ c.push.ensures

pub returns-clause-fed_after : goal.returns-clause-fed_after
returns-clause-fed_after c = byte-ends _ _ _ _ _ _ _ c.if-b-ne10.false _ c.text.ensures _ c.clear.ensures _ _ _ _ c.run_line-next.ensures.line_after
