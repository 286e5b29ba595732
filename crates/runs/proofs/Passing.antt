-- A chunk that is fed line by line leaves what it leaves byte by byte, and what is written follows on what was written before.
-- Assumes nothing.
use Prim.Native.Nat.{ℕ, ◌+◌, ◌≤◌, ◌<◌}
use native.Mathlib.Omega.{arith}
use mathlib.Core.Path.{◌≡◌, refl, ap, sym, ◌∙◌}
use mathlib.Core.Bool.{Bool, true, false, cond}
use mathlib.Core.List.{[], ◌∷◌, ◌++◌, append_assoc, append-nil}
use lib.ListN.{length, get_or, take, drop, length-append, drop_of_length-le}
use lib.Seq.{drop-cons, take_at, drop_at, drop-drop, length-take-le}
use lib.Dec.{eqb}
use native.Mathlib.Numerals.{add-one}
use borrow.Author.Tests.{eq-eqb, ne_eqb}
use Rattle.rules.specs.Mesh.{Mesh, Room}
use Rattle.rules.specs.Script.{Text, newline}
use Rattle.script.specs.Texts.{Written, written, wrote}
use Rattle.script.proofs.Writes.{wrote_none}
use Rattle.runs.specs.Run.{Ran, ran_line, Printed, printed, printed_at}
use Rattle.runs.specs.Gather.{held_in, none_held, line_ended, holds, holding, cut_byte, cut_all}
use Rattle.runs.specs.Feed.{ran_on, Feeding, feeding, unwritten, fed, after, prefixed, Handed, handed, handed_at}

-- ---- what is written

line-prefixed : (t : Text) (s : Ran) (text : Text) → ran_on (after t s) text ≡ after t (ran_on s text)
unfolding after ran_on
line-prefixed t s text = rw (append_assoc t s.text (ran_line s.mesh s.one s.two text).text)

byte-prefixed : (t : Text) (s : Feeding) (b : ℕ) → cut_byte ran_on (prefixed t s) b ≡ prefixed t (cut_byte ran_on s b)
unfolding cut_byte line_ended
byte-prefixed t s b = go (eqb b newline)
  where
    go : (u : Bool) → cond u (line_ended ran_on (prefixed t s)) (holds (prefixed t s) (holding s.line b)) ≡ prefixed t (cond u (line_ended ran_on s) (holds s (holding s.line b)))
    go true = unfold line_ended in rw (line-prefixed t s.done (held_in s.line))
    go false = refl

pub fed-prefixed : (t : Text) (s : Feeding) (bs : Text) → fed (prefixed t s) bs ≡ prefixed t (fed s bs)
unfolding cut_all
fed-prefixed t s [] = refl
fed-prefixed t s (b ∷ bs) = rw (byte-prefixed t s b) (fed-prefixed t (cut_byte ran_on s b) bs)

-- a text that follows on another in a buffer
wrote_on : (d : Text) (at : ℕ) (b : Text) (n : ℕ) (t u : Text) → at ≤ length d → written b n ≡ wrote d at t → wrote d at (t ++ u) ≡ wrote b n u
unfolding wrote
wrote_on d at b n t u h e =
    let en : n ≡ at + length t = ap (λ (w : Written). w.next) e in
    let eb : b ≡ (take at d ++ t) ++ drop (at + length t) d = ap (λ (w : Written). w.bytes) e in
    let el : length (take at d ++ t) ≡ at + length t = rw (length-append (take at d) t, length-take-le at d h) in
    let ef : take n b ≡ take at d ++ t = rw (eb, en) (take_at (take at d ++ t) (drop (at + length t) d) (at + length t) el) in
    let eg : drop (n + length u) b ≡ drop (at + length (t ++ u)) d =
    rw (← drop-drop (length u) n b, eb, en, drop_at (take at d ++ t) (drop (at + length t) d) (at + length t) el, drop-drop (length u) (at + length t) d, length-append t u)
    (let es : at + length t + length u ≡ at + (length t + length u) = omega arith in ap (λ (k : ℕ). drop k d) es) in
    let ek : n + length u ≡ at + length (t ++ u) = omega (arith, length-append t u) in
    rw (ef, eg, ek, append_assoc (take at d) t u)

handed-on : (d : Text) (at : ℕ) (b : Text) (n : ℕ) (t : Text) (s : Feeding) → at ≤ length d → written b n ≡ wrote d at t
    → handed_at d at (prefixed t s) ≡ handed_at b n s
unfolding handed_at after
handed-on d at b n t s h e = rw (wrote_on d at b n t s.done.text h e)

-- ---- one byte of the chunk

module _ (out : Text) (at : ℕ) (m : Mesh) (one two : Room) (line : Written) (b : ℕ) where
  pub byte-held : (b ≡ newline → ⊥) → at ≤ length out → (line' : Written) → line' ≡ holding line b
      → handed (written out at) m one two line' ≡ handed_at out at (cut_byte ran_on (unwritten m one two line) b)
  unfolding cut_byte handed_at
  byte-held n l line' e = rw (ne_eqb b newline n, e, ← wrote_none out at l)

  pub byte-ends : b ≡ newline → (text : Text) → text ≡ held_in line → (line' : Written) → line' ≡ none_held line
      → (w : Written) (m' : Mesh) (one' two' : Room) → printed w m' one' two' ≡ printed_at out at (ran_line m one two text)
      → handed w m' one' two' line' ≡ handed_at out at (cut_byte ran_on (unwritten m one two line) b)
  unfolding cut_byte handed_at line_ended ran_on printed_at
  byte-ends n text et line' el w m' one' two' p =
      rw (eq-eqb b newline n, ← et, el) (ap (λ (x : Printed). handed x.buffer x.mesh x.one x.two (none_held line)) p)

-- ---- a turn of the loop

module _ (chunk : Text) (i : ℕ) (lt : i < length chunk) (out : Text) (at : ℕ) (m : Mesh) (one two : Room) (line : Written)
    (out' : Text) (at' : ℕ) (m' : Mesh) (one' two' : Room) (line' : Written)
    (e : handed (written out' at') m' one' two' line' ≡ handed_at out at (cut_byte ran_on (unwritten m one two line) (get_or chunk i 0))) where
  s : Feeding
  s = cut_byte ran_on (unwritten m one two line) (get_or chunk i 0)

  here : drop i chunk ≡ get_or chunk i 0 ∷ drop (i + 1) chunk
  here = rw (add-one i) (drop-cons chunk i 0 lt)

  text-is : written out' at' ≡ wrote out at s.done.text
  unfolding handed_at s
  text-is = ap (λ (h : Handed). h.buffer) e

  state-is : s ≡ prefixed s.done.text (unwritten m' one' two' line')
  unfolding handed_at s after
  state-is = rw append-nil (sym (ap (λ (h : Handed). feeding s.done.text h.mesh h.one h.two h.line) e))

  on-it : fed (unwritten m one two line) (drop i chunk) ≡ fed s (drop (i + 1) chunk)
  unfolding s cut_all
  on-it = rw here

  pub turn-again : at ≤ length out
      → handed_at out at (fed (unwritten m one two line) (drop i chunk)) ≡ handed_at out' at' (fed (unwritten m' one' two' line') (drop (i + 1) chunk))
  turn-again h =
      let u : Feeding = unwritten m' one' two' line' in
      let rest : Text = drop (i + 1) chunk in
      ap (handed_at out at) on-it
      ∙ ap (λ (x : Feeding). handed_at out at (fed x rest)) state-is
      ∙ ap (handed_at out at) (fed-prefixed s.done.text u rest)
      ∙ handed-on out at out' at' s.done.text (fed u rest) h text-is

-- the chunk's end
pub chunk-ends : (chunk : Text) (i : ℕ) (out : Text) (at : ℕ) (m : Mesh) (one two : Room) (line : Written) → length chunk ≤ i → at ≤ length out
    → handed (written out at) m one two line ≡ handed_at out at (fed (unwritten m one two line) (drop i chunk))
unfolding handed_at cut_all
chunk-ends chunk i out at m one two line h r = rw (drop_of_length-le chunk h, ← wrote_none out at r)
