-- One line of a script run: what it leaves, and what is written for it.
use Rattle.std.specs.Prelude.{ℕ}
use Rattle.rules.specs.declared.Edit.{Edit}
use Rattle.rules.specs.Mesh.{Mesh, Room}
use Rattle.rules.specs.Call.{Outcome, call, called}
use Rattle.rules.specs.Script.{Text, Line, unreadable, says, line_in}
use Rattle.script.specs.Texts.{Written, wrote, answer_line, unreadable_line}

-- the text that is written for a line; the mesh with its counters, and both rooms
pub record Ran : Type 0 where
  pub text : Text
  pub mesh : Mesh
  pub one : Room
  pub two : Room

abbrev pub ran : Text → Mesh → Room → Room → Ran
ran t m one two = record { text = t; mesh = m; one = one; two = two }

-- what a call leaves, with the line that answers its edit
unfoldable pub answered : Edit → Outcome → Ran
answered e o = ran (answer_line e o.answer) o.mesh o.one o.two

-- one line, one call. A line that can't be read is answered 2, and leaves everything as it was
unfoldable pub ran_for : Mesh → Room → Room → Line → Ran
ran_for m one two unreadable = ran unreadable_line m one two
ran_for m one two (says e keys) = answered e (called m one two (call e) keys)

unfoldable pub ran_line : Mesh → Room → Room → Text → Ran
ran_line m one two text = ran_for m one two (line_in text)

-- what a line leaves, with its text in a buffer from a place on
pub record Printed : Type 0 where
  pub buffer : Written
  pub mesh : Mesh
  pub one : Room
  pub two : Room

abbrev pub printed : Written → Mesh → Room → Room → Printed
printed w m one two = record { buffer = w; mesh = m; one = one; two = two }

unfoldable pub printed_at : Text → ℕ → Ran → Printed
printed_at out at r = printed (wrote out at r.text) r.mesh r.one r.two
