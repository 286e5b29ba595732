-- What was read is fed as it is, and at the end of the input a newline where a line has not ended.
use Rattle.std.proofs.Common.{sym, ◌∙◌}
use borrow.Author.Tests.{eq-eqb, ne_eqb}
use Rattle.runs.specs.Gather.{lacking}
use Rattle.runs.proofs.Cutting.{first-put}
use Rattle.runs.proofs.feed.closed.Goals as goal

pub returns-then-read-ne0-clause-chunk_after : goal.returns-then-read-ne0-clause-chunk_after
returns-then-read-ne0-clause-chunk_after c = rw (ne_eqb c.args.read 0 c.if-read-ne0.true)

pub returns-then-held-eq0-clause-chunk_after : goal.returns-then-held-eq0-clause-chunk_after
unfolding lacking
returns-then-held-eq0-clause-chunk_after c = rw (eq-eqb c.args.read 0 c.if-read-ne0.false, eq-eqb c.args.held 0 c.if-held-eq0.true)

pub returns-clause-chunk_after : goal.returns-clause-chunk_after
unfolding lacking
returns-clause-chunk_after c =
    rw (eq-eqb c.args.read 0 c.if-read-ne0.false, ne_eqb c.args.held 0 c.if-held-eq0.false) (first-put c.args.chunk.now 10 c.requires.0)
