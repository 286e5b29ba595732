-- What one line leaves and writes, for a line that can't be read and for one that says an edit. Assumes nothing.
use Prim.Native.Nat.{ℕ, ◌-◌, ◌≤◌}
use native.Mathlib.Omega.{arith}
use mathlib.Core.Path.{◌≡◌, ap}
use mathlib.Core.List.{List, ◌++◌}
use lib.ListN.{length, replicate, length-append}
use Rattle.rules.specs.Answer.{Answer}
use Rattle.rules.specs.declared.Edit.{Edit}
use Rattle.rules.specs.Mesh.{Mesh, Room}
use Rattle.rules.specs.Call.{outcome, call, called}
use Rattle.rules.specs.Script.{Text, Line, unreadable, says, line_in}
use Rattle.script.specs.Texts.{Written, wrote, answer_line, unreadable_line}
use Rattle.std.specs.Prelude.{Some}
use Rattle.script.specs.declared.Parsed.{Parsed}
use Rattle.script.specs.Fields.{padded}
use Rattle.script.specs.Lines.{parsed_of}
use Rattle.runs.specs.Run.{answered, ran_for, ran_line, printed, printed_at}

-- ---- the keys of a line that was read

pub keys-within : (l : Line) (r : Parsed) → Some r ≡ parsed_of l → r.count ≤ length r.keys
unfolding parsed_of padded
keys-within unreadable r h = let z : ◌≡◌ {A = ℕ} 0 1 = cc in let b : ⊥ = omega arith in absurd b
keys-within (says e ks) r h =
    let p : ◌≡◌ {A = Parsed} r (record { edit = e; keys = ks ++ replicate (256 - length ks) 0; count = length ks }) = cc in
    rw (ap (λ (x : Parsed). x.count) p, ap (λ (x : Parsed). x.keys) p) (omega (arith, length-append ks (replicate (256 - length ks) 0)))

-- ---- what is left and written

module _ (out : Text) (at : ℕ) (text : Text) (m : Mesh) (one two : Room) (w : Written) where
  pub unread-prints : line_in text ≡ unreadable → w ≡ wrote out at unreadable_line → printed w m one two ≡ printed_at out at (ran_line m one two text)
  unfolding printed_at ran_line ran_for
  unread-prints e ew = rw (e, ew)

  pub said-prints : (e : Edit) (keys : List ℕ) (a : Answer) (m' : Mesh) (one' two' : Room) → line_in text ≡ says e keys
      → outcome a m' one' two' ≡ called m one two (call e) keys → w ≡ wrote out at (answer_line e a)
      → printed w m' one' two' ≡ printed_at out at (ran_line m one two text)
  unfolding printed_at ran_line ran_for answered
  said-prints e keys a m' one' two' el eo ew = rw (el, ← eo, ew)
