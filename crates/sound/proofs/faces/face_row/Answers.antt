use mathlib.Core.Path.{sym, ◌∙◌}
use Rattle.sound.specs.Tests.{face_test}
use Rattle.sound.proofs.faces.face_row.Goals as goal

pub returns-else-blank : goal.returns-else-blank
unfolding face_test
returns-else-blank c = rw (sym c.blank.ensures ∙ c.if-blank.false) c.if-blank.false

pub returns-then-blank : goal.returns-then-blank
unfolding face_test
returns-then-blank c = rw (sym c.blank.ensures ∙ c.if-blank.true) c.key_below.ensures
