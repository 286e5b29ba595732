-- What is read is the digits that are left, after those whose value is at hand, which the limit bounds.
use Rattle.std.proofs.Common.{ap, sym, ◌∙◌}
use Rattle.script.specs.Fields.{digits_of}
use Rattle.script.proofs.Values.{none-is, some-is, here-low, here-high, here-next, here-over, here_end, here-none, digits-begun}
use borrow.Author.Rules.{rules}
use Rattle.script.proofs.fields.digits.Goals.{then-c-lt48-via-then-c-lt48, then-c-lt48-via-else-c-lt48+then-c-gt57}
use Rattle.script.proofs.fields.digits.Goals as goal

pub returns-then-is_empty : goal.returns-then-is_empty
unfolding digits_of
returns-then-is_empty c = sym (ap digits_of (here-none _ _ (none-is _ c.if-is_empty.ensures)))

pub loop-c-init : goal.loop-c-init
loop-c-init c = (search rules, digits-begun _ _ (some-is _ c.if-is_empty.ensures))

pub returns-then-c-lt48 : goal.returns-then-c-lt48
unfolding digits_of
returns-then-c-lt48 c =
    sym (ap digits_of (c.loop-c.invariant.1 ∙ elim c.then-c-lt48.branch [
      | then-c-lt48-via-then-c-lt48 w ↦ here-low _ _ _ _ c.loop-c-test.true w.if-c-lt48.true
      | then-c-lt48-via-else-c-lt48+then-c-gt57 w ↦ here-high _ _ _ _ c.loop-c-test.true w.if-c-gt57.true
    ]))

pub returns-then-value-most : goal.returns-then-value-most
unfolding digits_of
returns-then-value-most c =
    sym (ap digits_of (c.loop-c.invariant.1 ∙ here-over _ _ _ _ c.loop-c-test.true c.if-c-lt48.false c.if-c-gt57.false c.if-value-most.true))

pub loop-c-preserved : goal.loop-c-preserved
loop-c-preserved c = (search rules, c.loop-c.invariant.1 ∙ here-next _ _ _ _ c.loop-c-test.true c.if-c-lt48.false c.if-c-gt57.false)

pub returns : goal.returns
unfolding digits_of
returns c = sym (ap digits_of (c.loop-c.invariant.1 ∙ here_end _ _ _ _ c.loop-c-test.false c.loop-c.invariant.0))
