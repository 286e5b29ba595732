-- An input fed to the program: each line that ends is run, and what is written for it follows on what was written before.
use Rattle.std.specs.Prelude.{ℕ, [], ◌++◌}
use Rattle.rules.specs.Mesh.{Mesh, Room}
use Rattle.rules.specs.Script.{Text}
use Rattle.script.specs.Texts.{Written, wrote}
use Rattle.runs.specs.Run.{Ran, ran, ran_line}
use Rattle.runs.specs.Gather.{Cut, cut, cut_all}

-- one line more
unfoldable pub ran_on : Ran → Text → Ran
ran_on s text =
    let r = ran_line s.mesh s.one s.two text in
    ran (s.text ++ r.text) r.mesh r.one r.two

-- where a script stands: what is written, the mesh, both rooms, and what is held of the line that has not ended
abbrev pub Feeding : Type 0
Feeding = Cut Ran

abbrev pub feeding : Text → Mesh → Room → Room → Written → Feeding
feeding t m one two l = cut (ran t m one two) l

-- nothing written yet
abbrev pub unwritten : Mesh → Room → Room → Written → Feeding
unwritten m one two l = feeding [] m one two l

abbrev pub fed : Feeding → Text → Feeding
fed s bs = cut_all ran_on s bs

-- with a text written before
unfoldable pub after : Text → Ran → Ran
after t s = ran (t ++ s.text) s.mesh s.one s.two

abbrev pub prefixed : Text → Feeding → Feeding
prefixed t s = cut (after t s.done) s.line

-- ---- as the code has it: what is written stands in a buffer

pub record Handed : Type 0 where
  pub buffer : Written
  pub mesh : Mesh
  pub one : Room
  pub two : Room
  pub line : Written

abbrev pub handed : Written → Mesh → Room → Room → Written → Handed
handed w m one two l = record { buffer = w; mesh = m; one = one; two = two; line = l }

unfoldable pub handed_at : Text → ℕ → Feeding → Handed
handed_at out at s = handed (wrote out at s.done.text) s.done.mesh s.done.one s.done.two s.line
