-- What is written at the end of a script: nothing where the check answers 1, else the line with the counts. Assumes nothing.
use Prim.Native.Nat.{ℕ}
use mathlib.Core.Path.{◌≡◌, refl}
use mathlib.Core.Bool.{Bool, true, false}
use lib.Dec.{eqb}
use Rattle.rules.specs.Table.{count, used}
use Rattle.rules.specs.Mesh.{Mesh}
use Rattle.rules.specs.Step.{told}
use Rattle.rules.specs.Call.{check_mesh}
use Rattle.rules.specs.Script.{Text, checked_end}
use Rattle.script.specs.Texts.{written, wrote, end_line}
use Rattle.script.proofs.Writes.{end-text}

module _ (m : Mesh) (one : Bool) (answered : one ≡ eqb (told (check_mesh m)).number 1) where
  pub nothing_written : one ≡ true → (out : Text) → written out 0 ≡ wrote out 0 (checked_end m)
  unfolding checked_end wrote
  nothing_written h out = rw (← answered, h) refl

  pub end-written : one ≡ false
      → (v e f : ℕ)
      → v ≡ count used m.vertices
      → e ≡ count used m.edges
      → f ≡ count used m.faces
      → end_line v e f ≡ checked_end m
  unfolding checked_end
  end-written h v e f p q r = rw (← answered, h, end-text m, p, q, r)
