use mathlib.Core.Path.{sym, ◌∙◌}
use Rattle.sound.specs.Tests.{arc_test}
use Rattle.sound.proofs.passes.arc_row.Goals as goal

pub returns-else-blank : goal.returns-else-blank
unfolding arc_test
returns-else-blank c = rw (sym c.blank.ensures ∙ c.if-blank.false) c.if-blank.false

pub returns-then-blank : goal.returns-then-blank
unfolding arc_test
returns-then-blank c = rw (sym c.blank.ensures ∙ c.if-blank.true) c.loose_row.ensures
