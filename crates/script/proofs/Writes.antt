-- The laws of texts written into a buffer one after the other, and of a number's decimal digits. Assumes nothing.
use Prim.Native.Nat.{ℕ, zero, suc, ◌+◌, ◌*◌, ◌/◌, ◌%◌, ◌^◌, ◌≤◌, ◌<◌}
use native.Mathlib.Nat.{pow-suc}
use native.Mathlib.Numerals.{add-one}
use native.Mathlib.Omega.{arith}
use native.Mathlib.Decide.{dec_lt}
use mathlib.Core.Path.{◌≡◌, refl, ap, sym, ◌∙◌}
use mathlib.Core.Bool.{Bool, true, false, cond}
use mathlib.Core.List.{List, [], ◌∷◌, ◌++◌, append_assoc, append-nil}
use lib.ListN.{length, take, drop, set, length-append}
use lib.Seq.{sets, sets-eq, length-sets, take_at}
use lib.Dec.{ltb}
use borrow.Author.Tests.{lt-ltb, le-ltb}
use Rattle.rules.specs.Answer.{Answer}
use Rattle.rules.specs.Answer.{Key, Arc, Mark, Arity, Done, Refused}
use Rattle.rules.specs.declared.Edit.{Edit}
use Rattle.rules.specs.declared.Edit.TheVariants.{VertexInsert, FaceInsert, FaceRemove, FaceSplit, FacePoke, FaceBridge, FaceExtrude, ArcBridge, ArcExtrude}
use Rattle.rules.specs.Table.{count, used}
use Rattle.rules.specs.Mesh.{Mesh, Room}
use Rattle.rules.specs.Call.{call, called}
use Rattle.rules.specs.Step.{number_of}
use Rattle.rules.specs.Script.{Text, bytes, digit_zero, digits_before, decimal, spaced, returned, shown_keys, answer_text, end_text, State, state, unreadable, says, after_line}
use Rattle.script.specs.declared.Words.TheVariants.{No}
use Rattle.script.specs.Texts.{Written, written, wrote, words_of, bare_of, shows_keys, shown_words, words_text, answer_line, unreadable_line, end_line}

-- ---- one text after another

wrote-sets : (d : Text) (at : ℕ) (t : Text) → at + length t ≤ length d → wrote d at t ≡ written (sets d at t) (at + length t)
unfolding wrote
wrote-sets d at t h = rw (sets-eq t d at h)

sets-append : (d : Text) (i : ℕ) (t u : Text) → sets (sets d i t) (i + length t) u ≡ sets d i (t ++ u)
sets-append d i [] u = let e : i + 0 ≡ i = omega arith in rw e
sets-append d i (c ∷ t) u = let e : i + suc (length t) ≡ suc i + length t = omega arith in rw e (sets-append (set d i c) (suc i) t u)

place_of : (d : Text) (at : ℕ) (b : Text) (n : ℕ) (t : Text) → written b n ≡ wrote d at t → n ≡ at + length t
unfolding wrote
place_of d at b n t e = ap (λ (w : Written). w.next) e

pub wrote_none : (d : Text) (at : ℕ) → at ≤ length d → written d at ≡ wrote d at []
wrote_none d at h = let e : at + 0 ≡ at = omega arith in sym (wrote-sets d at [] (rw e h) ∙ ap (written d) e)

module _ (d : Text) (at : ℕ) where
  pub wrote-byte : (c : ℕ) → at < length d → written (set d at c) (at + 1) ≡ wrote d at (c ∷ [])
  wrote-byte c h = sym (wrote-sets d at (c ∷ []) (omega arith))

  pub wrote-two : (a b : ℕ) → at + 2 ≤ length d → written (set (set d at a) (at + 1) b) (at + 2) ≡ wrote d at (a ∷ b ∷ [])
  wrote-two a b h = rw (add-one at) (sym (wrote-sets d at (a ∷ b ∷ []) h))

  -- where the next text begins
  pub next-at : (b : Text) (n : ℕ) (t : Text) → written b n ≡ wrote d at t → n ≡ at + length t
  next-at b n t e = place_of d at b n t e

  bytes-at : (b : Text) (n : ℕ) (t : Text) → at + length t ≤ length d → written b n ≡ wrote d at t → b ≡ sets d at t
  bytes-at b n t h e = ap (λ (w : Written). w.bytes) (e ∙ wrote-sets d at t h)

  pub wrote_then : (b b' : Text) (n n' : ℕ) (t u : Text) → n' ≤ length d → written b n ≡ wrote d at t → written b' n' ≡ wrote b n u
      → written b' n' ≡ wrote d at (t ++ u)
  wrote_then b b' n n' t u r e e' =
      let en : n ≡ at + length t = next-at b n t e in
      let en' : n' ≡ n + length u = place_of b n b' n' u e' in
      let h : at + length t + length u ≤ length d = omega arith in
      let ht : at + length t ≤ length d = omega arith in
      let eb : b ≡ sets d at t = bytes-at b n t ht e in
      let hu : at + length t + length u ≤ length (sets d at t) = rw (length-sets d at t) h in
      let ha : at + length (t ++ u) ≤ length d = rw (length-append t u) (omega arith) in
      let el : at + length t + length u ≡ at + length (t ++ u) = rw (length-append t u) (omega arith) in
      let first : wrote b n u ≡ written (sets (sets d at t) (at + length t) u) (at + length t + length u) = rw (eb, en) (wrote-sets (sets d at t) (at + length t) u hu) in
      let second : written (sets (sets d at t) (at + length t) u) (at + length t + length u) ≡ wrote d at (t ++ u) = rw (sets-append d at t u, el) (sym (wrote-sets d at (t ++ u) ha)) in
      e' ∙ first ∙ second

-- a text that begins a buffer is its first bytes
pub front : (d b : Text) (n : ℕ) (t : Text) → length t ≤ length d → written b n ≡ wrote d 0 t → take n b ≡ t
unfolding wrote
front d b n t h e =
    let en : n ≡ length t = ap (λ (w : Written). w.next) e ∙ omega arith in
    let eb : b ≡ t ++ drop (0 + length t) d = ap (λ (w : Written). w.bytes) e in
    rw (eb, en) (take_at t (drop (0 + length t) d) (length t) refl)

-- ---- decimal digits

digits_append : (b n : ℕ) (l : Text) → digits_before b n l ≡ digits_before b n [] ++ l
unfolding digits_before
digits_append zero n l = refl
digits_append (suc b) n l =
    let x : ℕ = digit_zero + n % 10 in
    go (ltb n 10) (digits_append b (n / 10) (x ∷ l) ∙ sym (append_assoc (digits_before b (n / 10) []) (x ∷ []) l) ∙ ap (λ (k : Text). k ++ l) (sym (digits_append b (n / 10) (x ∷ []))))
  where
    go : (t : Bool) → digits_before b (n / 10) ((digit_zero + n % 10) ∷ l) ≡ digits_before b (n / 10) ((digit_zero + n % 10) ∷ []) ++ l
        → cond t ((digit_zero + n) ∷ l) (digits_before b (n / 10) ((digit_zero + n % 10) ∷ l)) ≡ cond t ((digit_zero + n) ∷ []) (digits_before b (n / 10) ((digit_zero + n % 10) ∷ [])) ++ l
    go true e = refl
    go false e = e

tenth : (k n : ℕ) → n < 10 ^ suc k → n / 10 < 10 ^ k
tenth k n h = let p : n < 10 ^ k * 10 = rw pow-suc at h in omega arith

-- one more place changes nothing, where there were enough
digits-fuel : (b n : ℕ) (l : Text) → n < 10 ^ suc b → digits_before (suc b) n l ≡ digits_before (suc (suc b)) n l
unfolding digits_before
digits-fuel zero n l h = let s : n < 10 = h in rw (lt-ltb n 10 s)
digits-fuel (suc b) n l h = go (dec_lt n 10) (digits-fuel b (n / 10) ((digit_zero + n % 10) ∷ l) (tenth (suc b) n h))
  where
    go : Dec (n < 10) → digits_before (suc b) (n / 10) ((digit_zero + n % 10) ∷ l) ≡ digits_before (suc (suc b)) (n / 10) ((digit_zero + n % 10) ∷ l)
        → digits_before (suc (suc b)) n l ≡ digits_before (suc (suc (suc b))) n l
    go (yes s) e = rw (lt-ltb n 10 s)
    go (no m) e = let s : 10 ≤ n = omega arith in rw (le-ltb n 10 s) e

pub decimal-one : (n : ℕ) → n < 10 → decimal n ≡ (48 + n) ∷ []
unfolding decimal digits_before
decimal-one n h = rw (lt-ltb n 10 h)

pub decimal-more : (n : ℕ) → 10 ≤ n → n < 4294967296 → decimal n ≡ decimal (n / 10) ++ ((48 + n % 10) ∷ [])
unfolding decimal
decimal-more n h l =
    step ∙ digits_append 19 (n / 10) ((48 + n % 10) ∷ []) ∙ ap (λ (k : Text). k ++ ((48 + n % 10) ∷ [])) (digits-fuel 18 (n / 10) [] enough)
  where
    step : digits_before 20 n [] ≡ digits_before 19 (n / 10) ((48 + n % 10) ∷ [])
    step = unfold digits_before in rw (le-ltb n 10 h)

    enough : n / 10 < 10 ^ 19
    enough = omega arith

pub decimal-length : (k n : ℕ) → n < 10 ^ suc k → n < 4294967296 → length (decimal n) ≤ suc k
decimal-length zero n h l = let s : n < 10 = h in rw (decimal-one n s) (omega arith)
decimal-length (suc k) n h l = go (dec_lt n 10) (decimal-length k (n / 10) (tenth (suc k) n h) (omega arith))
  where
    go : Dec (n < 10) → length (decimal (n / 10)) ≤ suc k → length (decimal n) ≤ suc (suc k)
    go (yes s) e = rw (decimal-one n s) (omega arith)
    go (no m) e =
        let s : 10 ≤ n = omega arith in
        rw (decimal-more n s l, length-append (decimal (n / 10)) ((48 + n % 10) ∷ [])) (omega arith)

pub decimal-short : (n : ℕ) → n < 4294967296 → length (decimal n) ≤ 10
decimal-short n h = decimal-length 9 n (omega arith) h

-- ---- words

pub spaced-one : (n : ℕ) → (32 ∷ []) ++ decimal n ≡ spaced (n ∷ [])
unfolding spaced
spaced-one n = rw (append-nil (decimal n))

spaced-more : (n : ℕ) (ns : List ℕ) → spaced (n ∷ []) ++ spaced ns ≡ spaced (n ∷ ns)
unfolding spaced
spaced-more n ns = rw (append-nil (decimal n))

pub spaced-two : (a b : ℕ) → spaced (a ∷ []) ++ spaced (b ∷ []) ≡ spaced (a ∷ b ∷ [])
spaced-two a b = spaced-more a (b ∷ [])

pub spaced-three : (a b c : ℕ) → (spaced (a ∷ []) ++ spaced (b ∷ [])) ++ spaced (c ∷ []) ≡ spaced (a ∷ b ∷ c ∷ [])
spaced-three a b c =
    append_assoc (spaced (a ∷ [])) (spaced (b ∷ [])) (spaced (c ∷ []))
    ∙ ap (λ (l : Text). spaced (a ∷ []) ++ l) (spaced-more b (c ∷ []))
    ∙ spaced-more a (b ∷ c ∷ [])

-- ---- an answer's text

shown-keys : (e : Edit) (a : Answer) → shown_keys e a ≡ cond (shows_keys e) (returned a) []
unfolding shown_keys shows_keys
shown-keys (VertexInsert p) a = refl
shown-keys (FaceInsert mark) a = refl
shown-keys (FaceRemove f) a = refl
shown-keys (FaceSplit f s d) a = refl
shown-keys (FacePoke f p) a = refl
shown-keys (FaceBridge f g) a = refl
shown-keys (FaceExtrude f move) a = refl
shown-keys (ArcBridge x y z w) a = refl
shown-keys (ArcExtrude s d move) a = refl

words-told : (shows : Bool) (a : Answer) → words_text (cond shows (words_of a) (bare_of (words_of a))) ≡ answer_text (cond shows (returned a) []) a
unfolding words_text words_of bare_of answer_text returned spaced bytes
words-told true (Key k) = refl
words-told true (Arc s d) = refl
words-told true (Mark n) = refl
words-told true (Arity n) = refl
words-told true Done = refl
words-told true (Refused r) = refl
words-told false (Key k) = refl
words-told false (Arc s d) = refl
words-told false (Mark n) = refl
words-told false (Arity n) = refl
words-told false Done = refl
words-told false (Refused r) = refl

pub words-answer : (e : Edit) (a : Answer) → words_text (shown_words e a) ++ (10 ∷ []) ≡ answer_line e a
unfolding shown_words answer_line
words-answer e a = rw (shown-keys e a) (ap (λ (t : Text). t ++ (10 ∷ [])) (words-told (shows_keys e) a))

pub words-unreadable : words_text (No 2) ++ (10 ∷ []) ≡ unreadable_line
unfolding words_text unreadable_line answer_text number_of
words-unreadable = refl

pub end-parts : (v e f : ℕ) → (((101 ∷ 110 ∷ []) ++ (100 ∷ [])) ++ spaced (v ∷ e ∷ f ∷ [])) ++ (10 ∷ []) ≡ end_line v e f
unfolding end_line bytes
end-parts v e f = refl

pub end-text : (m : Mesh) → end_text m ≡ end_line (count used m.vertices) (count used m.edges) (count used m.faces)
unfolding end_text end_line
end-text m = refl

-- what a line adds to the text that is written
pub after-unreadable : (r : Room) (s : State) → after_line r s unreadable ≡ state (s.written ++ unreadable_line) s.mesh
unfolding after_line unreadable_line
after-unreadable r s = refl

pub after-says : (r : Room) (s : State) (e : Edit) (keys : List ℕ)
    → after_line r s (says e keys)
    ≡ state (s.written ++ answer_line e (called s.mesh r r (call e) keys).answer) (called s.mesh r r (call e) keys).mesh
unfolding after_line answer_line
after-says r s e keys = refl
