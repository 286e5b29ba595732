use mathlib.Core.Path.{sym, ◌∙◌}
use Rattle.sound.specs.Tests.{edge_test}
use Rattle.sound.proofs.passes.edge_row.Goals as goal

pub returns-else-blank : goal.returns-else-blank
unfolding edge_test
returns-else-blank c = rw (sym c.blank.ensures ∙ c.if-blank.false) c.if-blank.false

pub returns-else-key_below : goal.returns-else-key_below
unfolding edge_test
returns-else-key_below c = rw (sym c.blank.ensures ∙ c.if-blank.true, sym c.key_below.ensures ∙ c.if-key_below.false) c.if-key_below.false

pub returns-then-key_below : goal.returns-then-key_below
unfolding edge_test
returns-then-key_below c = rw (sym c.blank.ensures ∙ c.if-blank.true, sym c.key_below.ensures ∙ c.if-key_below.true) c.edge_arcs.ensures
