-- The check before `end` leaves the script's text as it was: every mesh that a script reaches from an empty one is sound, so that 1 never comes.
-- Assumes nothing.
use Prim.Native.Nat.{ℕ, ◌≤◌}
use mathlib.Core.Path.{◌≡◌, sym, ◌∙◌}
use mathlib.Core.Bool.{true≢false}
use mathlib.Core.List.{List, [], ◌∷◌}
use lib.Dec.{T}
use borrow.Author.Tests.{ne_eqb}
use Rattle.rules.specs.Mesh.{Mesh, Room, vertex_limit, edge_limit, face_limit}
use Rattle.rules.specs.Step.{told}
use Rattle.rules.specs.Sound.{sound}
use Rattle.rules.specs.Call.{call, check_mesh}
use Rattle.rules.specs.Dump.{dumped_on}
use Rattle.rules.specs.Script.{Text, Line, unreadable, says, line_in, lines_of, empty_room, empty_mesh, State, state, after_line, after_lines, after_script, end_text, checked_end, program_on}
use Rattle.rules.proofs.Promises.{check-exactly}
use Rattle.proved.specs.Unchecked.{program_unchecked, dumped_unchecked}
use Rattle.proved.proofs.Rows.{T_true}
use Rattle.proved.proofs.Reached.{empty-sound, called-sound}

-- ---- the mesh of a script is sound

line-sound : (r : Room) (s : State) → T (sound s.mesh) → (line : Line) → T (sound (after_line r s line).mesh)
unfolding after_line
line-sound r s t unreadable = t
line-sound r s t (says e keys) = called-sound s.mesh t r r (call e) keys

lines-sound : (r : Room) (s : State) → T (sound s.mesh) → (ls : List Text) → T (sound (after_lines r s ls).mesh)
unfolding after_lines
lines-sound r s t [] = t
lines-sound r s t (l ∷ ls) = lines-sound r (after_line r s (line_in l)) (line-sound r s t (line_in l)) ls

-- ---- on a sound mesh the check does not answer 1

checked-sound : (m : Mesh) → T (sound m) → checked_end m ≡ end_text m
unfolding checked_end
checked-sound m t = rw (ne_eqb (told (check_mesh m)).number 1 (λ h. true≢false (sym (T_true (sound m) t) ∙ (check-exactly m).answers-1.0 h)))

-- ---- the whole text

module _ (v e f : ℕ) (vs : v ≤ vertex_limit) (es : e ≤ edge_limit) (fs : f ≤ face_limit) (input : Text) where
  script-sound : T (sound (after_script v e f input).mesh)
  unfolding after_script
  script-sound = lines-sound (empty_room v e f) (state [] (empty_mesh v e f)) (empty-sound v e f vs es fs) (lines_of input)

  -- of meshrun
  pub end_stays : program_on v e f input ≡ program_unchecked v e f input
  unfolding program_on program_unchecked
  end_stays = rw (checked-sound (after_script v e f input).mesh script-sound)

  -- of meshdump
  pub dump-stays : dumped_on v e f input ≡ dumped_unchecked v e f input
  unfolding dumped_on dumped_unchecked
  dump-stays = rw (checked-sound (after_script v e f input).mesh script-sound)
