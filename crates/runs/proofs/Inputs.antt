-- An input cut into lines chunk by chunk has the lines that the definition gives it, and the program run so writes what the definition
-- of the program writes. Assumes nothing.
use Prim.Native.Nat.{ℕ, ◌≤◌, ◌<◌}
use native.Mathlib.Numerals.{add-one}
use native.Mathlib.Omega.{arith}
use native.Mathlib.Decide.{ℕ_discrete, dec_lt, dec_le}
use mathlib.Core.Path.{◌≡◌, refl, ap, sym, ◌∙◌}
use mathlib.Core.Bool.{Bool, true, false, cond}
use mathlib.Core.List.{List, [], ◌∷◌, ◌++◌, map, foldl, append_assoc, append-nil}
use lib.ListN.{length, take, length-append, length-take, length-set, length-replicate}
use lib.Seq.{take_all, length-take-le, take-append-le, take-suc-set}
use lib.Dec.{eqb}
use borrow.Author.Tests.{lt-ltb, le-ltb, eq-eqb, ne_eqb}
use Rattle.rules.specs.Mesh.{Mesh, Room}
use Rattle.rules.specs.Step.{told}
use Rattle.rules.specs.declared.Call.{Call}
use Rattle.rules.specs.Call.{called, call, zeroed}
use Rattle.rules.specs.Dump.{dumped, dumped_on}
use Rattle.rules.specs.Script.{Text, newline, with_head, parts_at, without_last_empty, lines_of, Line, unreadable, says, line_in, empty_room, empty_mesh, State, state, after_line, after_lines, after_script, program, program_on}
use Rattle.rules.proofs.Promises.{rooms-end-zero, one-untouched}
use Rattle.script.specs.Texts.{Written}
use Rattle.script.proofs.Says.{line-long}
use Rattle.script.proofs.Writes.{after-unreadable, after-says}
use Rattle.runs.specs.Run.{Ran, ran, answered, ran_for, ran_line}
use Rattle.runs.specs.Gather.{most_held, holding, held_in, none_held, Cut, cut, line_ended, cut_byte, cut_all, lacking}
use Rattle.runs.specs.Feed.{ran_on, Feeding, unwritten, fed, after, prefixed}
use Rattle.runs.specs.Whole.{joined, fresh, one_more_line, cut_chunks, lines_cut, chunk_fed, input_fed, begin, meshrun_writes, meshdump_writes}
use Rattle.runs.proofs.Passing.{fed-prefixed}

-- ---- of a line its first 513 bytes are held

record Keeps (l : Written) (t : Text) : Type 0 where
  size : length l.bytes ≡ most_held
  few : l.next ≤ most_held
  kept : held_in l ≡ take most_held t

module _ (l : Written) (t : Text) (k : Keeps l t) where
  held-count : l.next ≡ length (take most_held t)
  held-count = sym (length-take-le l.next l.bytes (omega (arith, k.few, k.size))) ∙ ap length k.kept

  none-keeps : Keeps (none_held l) []
  none-keeps = record { size = k.size; few = omega arith; kept = refl }

  more-keeps : (b : ℕ) → Keeps (holding l b) (t ++ (b ∷ []))
  unfolding holding
  more-keeps b = go (dec_lt l.next most_held)
    where
      go : Dec (l.next < most_held) → Keeps (holding l b) (t ++ (b ∷ []))
      go (yes h) = unfold holding in
          (let s : length t < most_held = omega (arith, held-count, length-take most_held t) in
          let w : take most_held t ≡ t = take_all most_held t (omega arith) in
          let v : take most_held (t ++ (b ∷ [])) ≡ t ++ (b ∷ []) = take_all most_held (t ++ (b ∷ [])) (omega (arith, length-append t (b ∷ []))) in
          rw (lt-ltb l.next most_held h)
          (record {
            size = length-set l.bytes l.next b ∙ k.size;
            few = omega arith;
            kept = rw (v, add-one l.next) (take-suc-set l.bytes l.next b (omega (arith, k.size)) ∙ ap (λ (r : Text). r ++ (b ∷ [])) (k.kept ∙ w));
          }))
      go (no m) = unfold holding in
          (let f : most_held ≤ l.next = omega arith in
          let s : most_held ≤ length t = omega (arith, held-count, length-take most_held t) in
          rw (le-ltb l.next most_held f)
          (record { size = k.size; few = k.few; kept = rw (take-append-le most_held t (b ∷ []) s) k.kept }))

-- a line that was longer is told by them: it can't be read
pub told-longer : (t : Text) → line_in (take most_held t) ≡ line_in t
told-longer t = go (dec_le (length t) 512)
  where
    go : Dec (length t ≤ 512) → line_in (take most_held t) ≡ line_in t
    go (yes h) = ap line_in (take_all most_held t (omega arith))
    go (no m) = line-long (take most_held t) (omega (arith, length-take most_held t)) ∙ sym (line-long t (omega arith))

-- ---- the lines of a text that stands behind the begin of a line

-- the parts of a text are one or more
record First (ps : List Text) : Type 0 where
  head : Text
  tail : List Text
  is : ps ≡ head ∷ tail

first_part : (bs : Text) → First (parts_at newline bs)
unfolding parts_at
first_part [] = record { head = []; tail = []; is = refl }
first_part (b ∷ bs) = go (eqb b newline) (first_part bs)
  where
    go : (u : Bool) → First (parts_at newline bs) → First (cond u ([] ∷ parts_at newline bs) (with_head b (parts_at newline bs)))
    go true p = record { head = []; tail = parts_at newline bs; is = refl }
    go false p = record { head = b ∷ p.head; tail = p.tail; is = unfold with_head in rw p.is }

-- a begin before the first part
with_front : Text → List Text → List Text
with_front t [] = t ∷ []
with_front t (p ∷ ps) = (t ++ p) ∷ ps

front-none : (ps : List Text) → First ps → with_front [] ps ≡ ps
unfolding with_front
front-none ps p = rw p.is

front-more : (t : Text) (b : ℕ) (ps : List Text) → First ps → with_front t (with_head b ps) ≡ with_front (t ++ (b ∷ [])) ps
unfolding with_front with_head
front-more t b ps p = rw (p.is, append_assoc t (b ∷ []) p.head)

lines_then : (t : Text) (ps : List Text) → First ps → without_last_empty (with_front t ([] ∷ ps)) ≡ t ∷ without_last_empty ps
unfolding with_front without_last_empty
lines_then t ps p = rw (p.is, append-nil t)

lines_from : Text → Text → List Text
lines_from t bs = without_last_empty (with_front t (parts_at newline bs))

from-none : (bs : Text) → lines_from [] bs ≡ without_last_empty (parts_at newline bs)
unfolding lines_from
from-none bs = ap without_last_empty (front-none (parts_at newline bs) (first_part bs))

-- ---- cut byte by byte

module _ {ℓ} {A : Type ℓ} (f : A → Text → A) where
  lines-done : A → List Text → A
  lines-done a ls = foldl f a (map (take most_held) ls)

  -- at the end of the input
  cut_end : Cut A → Cut A
  cut_end s = cut_all f s (lacking s.line.next)

  none-lacks : (a : A) (l : Written) → Keeps l [] → (cut_end (cut a l)).done ≡ a
  unfolding cut_end lacking cut_all
  none-lacks a l k = rw (eq-eqb l.next 0 (held-count l [] k))

  some-lacks : (a : A) (l : Written) (t : Text) → Keeps l t → 0 < length t → (cut_end (cut a l)).done ≡ f a (take most_held t)
  unfolding cut_end lacking cut_all cut_byte line_ended
  some-lacks a l t k h =
      let n : l.next ≡ 0 → ⊥ = λ e. omega (arith, held-count l t k, length-take most_held t) in
      rw (ne_eqb l.next 0 n, k.kept)

  cut-lines : (bs t : Text) (a : A) (l : Written) → Keeps l t → (cut_end (cut_all f (cut a l) bs)).done ≡ lines-done a (lines_from t bs)
  unfolding cut_all lines_from parts_at
  cut-lines [] t a l k = go t k
    where
      go : (t : Text) → Keeps l t → (cut_end (cut a l)).done ≡ lines-done a (without_last_empty (with_front t ([] ∷ [])))
      go [] k = unfold lines-done in unfold with_front in unfold without_last_empty in none-lacks a l k
      go (c ∷ cs) k = unfold lines-done in unfold with_front in unfold without_last_empty in
          rw (append-nil cs) (some-lacks a l (c ∷ cs) k (omega arith))
  cut-lines (b ∷ bs) t a l k =
      go (eqb b newline) refl (cut-lines bs [] (f a (take most_held t)) (none_held l) (none-keeps l t k)) (cut-lines bs (t ++ (b ∷ [])) a (holding l b) (more-keeps l t k b))
    where
      go : (u : Bool) → eqb b newline ≡ u
          → (cut_end (cut_all f (cut (f a (take most_held t)) (none_held l)) bs)).done ≡ lines-done (f a (take most_held t)) (lines_from [] bs)
          → (cut_end (cut_all f (cut a (holding l b)) bs)).done ≡ lines-done a (lines_from (t ++ (b ∷ [])) bs)
          → (cut_end (cut_all f (cut_byte f (cut a l) b) bs)).done
          ≡ lines-done a (without_last_empty (with_front t (cond (eqb b newline) ([] ∷ parts_at newline bs) (with_head b (parts_at newline bs)))))
      go true e ended held =
          unfold cut_byte in unfold line_ended in unfold lines-done in
          rw (e, k.kept, lines_then t (parts_at newline bs) (first_part bs))
          (ended ∙ ap (lines-done (f a (take most_held t))) (from-none bs))
      go false e ended held =
          unfold cut_byte in
          rw (e, front-more t b (parts_at newline bs) (first_part bs)) (unfold lines_from in held)

  -- ---- chunk by chunk

  cut-append : (s : Cut A) (xs ys : Text) → cut_all f s (xs ++ ys) ≡ cut_all f (cut_all f s xs) ys
  unfolding cut_all
  cut-append s [] ys = refl
  cut-append s (x ∷ xs) ys = cut-append (cut_byte f s x) xs ys

  chunks-joined : (s : Cut A) (chunks : List Text) → cut_chunks f s chunks ≡ cut_end (cut_all f s (joined chunks))
  unfolding cut_chunks joined cut_end
  chunks-joined s [] = unfold cut_all in refl
  chunks-joined s (c ∷ cs) = rw (cut-append s c (joined cs)) (chunks-joined (cut_all f s c) cs)

  -- what is done with the lines of an input, in whatever chunks it comes
  pub input-lines : (a : A) (chunks : List Text) → (cut_chunks f (cut a fresh) chunks).done ≡ foldl f a (map (take most_held) (lines_of (joined chunks)))
  unfolding lines_of lines-done
  input-lines a chunks =
      ap (λ (s : Cut A). s.done) (chunks-joined (cut a fresh) chunks)
      ∙ cut-lines (joined chunks) [] a fresh (record { size = length-replicate {A = ℕ} most_held 0; few = omega arith; kept = refl })
      ∙ ap (lines-done a) (from-none (joined chunks))

all_lines : (xs ys : List Text) → foldl one_more_line xs ys ≡ xs ++ ys
unfolding one_more_line
all_lines xs [] = sym (append-nil xs)
all_lines xs (y ∷ ys) = all_lines (xs ++ (y ∷ [])) ys ∙ append_assoc xs (y ∷ []) ys

-- each line of at most 512 bytes whole, and of a longer one its first 513
pub lines_cut_lem : (chunks : List Text) → lines_cut chunks ≡ map (take most_held) (lines_of (joined chunks))
unfolding lines_cut
lines_cut_lem chunks = input-lines one_more_line [] chunks ∙ all_lines [] (map (take most_held) (lines_of (joined chunks)))

-- ---- the rooms stay zero

empty-zeroed : (v e f : ℕ) → zeroed (empty_room v e f) ≡ empty_room v e f
unfolding zeroed empty_room
empty-zeroed v e f = simp length-replicate

module _ (r : Room) (z : zeroed r ≡ r) where
  room-one : (m : Mesh) (c : Call) (keys : List ℕ) → (called m r r c keys).one ≡ r
  room-one m c keys = go (ℕ_discrete (told (called m r r c keys).answer).number 1)
    where
      go : Dec ((told (called m r r c keys).answer).number ≡ 1) → (called m r r c keys).one ≡ r
      go (yes h) = (one-untouched m r r c keys h).one-stands
      go (no n) = (rooms-end-zero m r r c keys n).one-zero ∙ z

  room-two : (m : Mesh) (c : Call) (keys : List ℕ) → (called m r r c keys).two ≡ r
  room-two m c keys = go (ℕ_discrete (told (called m r r c keys).answer).number 1)
    where
      go : Dec ((told (called m r r c keys).answer).number ≡ 1) → (called m r r c keys).two ≡ r
      go (yes h) = (one-untouched m r r c keys h).two-stands
      go (no n) = (rooms-end-zero m r r c keys n).two-zero ∙ z

  -- ---- a line run is the definition's line

  standing : State → Ran
  standing s = ran s.written s.mesh r r

  -- ran_on, of the line that was read
  on_for : Ran → Line → Ran
  on_for s line =
      let x = ran_for s.mesh s.one s.two line in
      ran (s.text ++ x.text) x.mesh x.one x.two

  said-on : (s : State) (line : Line) → on_for (standing s) line ≡ standing (after_line r s line)
  unfolding on_for standing ran_for
  said-on s unreadable = rw (after-unreadable r s)
  said-on s (says e keys) = unfold answered in rw (after-says r s e keys, room-one s.mesh (call e) keys, room-two s.mesh (call e) keys)

  line_on : (s : State) (t : Text) → ran_on (standing s) (take most_held t) ≡ standing (after_line r s (line_in t))
  unfolding ran_on ran_line on_for
  line_on s t = rw (told-longer t) (said-on s (line_in t))

  lines-on : (s : State) (ls : List Text) → foldl ran_on (standing s) (map (take most_held) ls) ≡ standing (after_lines r s ls)
  unfolding after_lines
  lines-on s [] = refl
  lines-on s (l ∷ ls) =
      ap (λ (x : Ran). foldl ran_on x (map (take most_held) ls)) (line_on s l) ∙ lines-on (after_line r s (line_in l)) ls

-- ---- what is written for a chunk follows on what was written before

chunk-on : (s : Feeding) (chunk : Text) → chunk_fed s chunk ≡ fed s chunk
unfolding chunk_fed
chunk-on s chunk =
    sym (fed-prefixed s.done.text (unwritten s.done.mesh s.done.one s.done.two s.line) chunk)
    ∙ ap (λ (x : Feeding). fed x chunk) back
  where
    back : prefixed s.done.text (unwritten s.done.mesh s.done.one s.done.two s.line) ≡ s
    back = unfold after in rw (append-nil s.done.text)

chunks-on : (s : Feeding) (chunks : List Text) → input_fed s chunks ≡ cut_chunks ran_on s chunks
unfolding input_fed cut_chunks
chunks-on s [] = chunk-on s (lacking s.line.next)
chunks-on s (c ∷ cs) = rw (chunk-on s c) (chunks-on (fed s c) cs)

-- ---- the programs

input-ends : (chunks : List Text)
    → (input_fed begin chunks).done ≡ standing (empty_room 64 128 64) (empty-zeroed 64 128 64) (after_script 64 128 64 (joined chunks))
unfolding begin after_script standing
input-ends chunks =
    ap (λ (s : Feeding). s.done) (chunks-on begin chunks)
    ∙ input-lines ran_on begin.done chunks
    ∙ lines-on (empty_room 64 128 64) (empty-zeroed 64 128 64) (state [] (empty_mesh 64 128 64)) (lines_of (joined chunks))

-- meshrun writes what document 01's program writes, in whatever chunks the input comes
pub program_runs : (chunks : List Text) → meshrun_writes chunks ≡ program (joined chunks)
unfolding meshrun_writes program program_on
program_runs chunks = rw (input-ends chunks) (unfold standing in refl)

-- and meshdump the same with all records before the last line
pub program-dumps : (chunks : List Text) → meshdump_writes chunks ≡ dumped (joined chunks)
unfolding meshdump_writes dumped dumped_on
program-dumps chunks = rw (input-ends chunks) (unfold standing in refl)
