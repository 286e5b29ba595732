-- `bodies::records::LaidFile::keys_rise` meets its contract. The loop keeps what is asked of the kinds that are left. Assumes nothing.
use borrow.Author.Rules.{rules}
use mathlib.Core.Path.{sym, ◌∙◌}
use Rattle.file.specs.File.{contents_in, body}
use Rattle.bodies.proofs.InOrder.{number-at}
use Rattle.bodies.proofs.Keys.{kind-fails, kind-passes, none-rise}
use Rattle.bodies.proofs.records.LaidFile.keys_rise.Goals as goal

pub returns-then-not-rises : goal.returns-then-not-rises
unfolding body
returns-then-not-rises c =
    let l = c.loop-kind in
    kind-fails (contents_in c.args.self.text.now).bodies l.kind-index _ c.loop-kind-test.true (number-at l.kind-index c.loop-kind-test.true) l.invariant
    (sym c.rises.ensures ∙ c.if-not-rises.true)

pub loop-kind-preserved : goal.loop-kind-preserved
unfolding body
loop-kind-preserved c =
    let l = c.loop-kind in
    kind-passes (contents_in c.args.self.text.now).bodies l.kind-index _ c.loop-kind-test.true (number-at l.kind-index c.loop-kind-test.true) l.invariant
    (sym c.rises.ensures ∙ c.if-not-rises.false)

pub returns : goal.returns
returns c =
    let l = c.loop-kind in
    sym (l.invariant ∙ none-rise (contents_in c.args.self.text.now).bodies l.kind-index (search rules))
