-- An answer told in numbers, beside what the call left.
use mathlib.Core.Path.{◌≡◌, ap, ◌∙◌}
use Rattle.rules.specs.Answer.{Answer}
use Rattle.rules.specs.declared.Reply.{Reply}
use Rattle.rules.specs.Mesh.{Mesh, Room}
use Rattle.rules.specs.Step.{told}
use Rattle.rules.specs.Call.{Outcome, outcome}
use Rattle.calls.specs.Replied.{shown, replied}

pub replied-by : {o : Outcome} (a : Answer) (r : Reply) (m : Mesh) (one two : Room) → r ≡ told a → outcome a m one two ≡ o → shown r m one two ≡ replied o
unfolding replied
replied-by a r m one two er eo = ap (λ (x : Reply). shown x m one two) er ∙ ap replied eo
