-- What a public call leaves, with its answer as numbers.
use Rattle.rules.specs.declared.Reply.{Reply}
use Rattle.rules.specs.Mesh.{Mesh, Room}
use Rattle.rules.specs.Step.{told}
use Rattle.rules.specs.Call.{Outcome}

pub record Shown : Type 0 where
  pub reply : Reply
  pub mesh : Mesh
  pub one : Room
  pub two : Room

abbrev pub shown : Reply → Mesh → Room → Room → Shown
shown r m one two = record { reply = r; mesh = m; one = one; two = two }

unfoldable pub replied : Outcome → Shown
replied o = shown (told o.answer) o.mesh o.one o.two
