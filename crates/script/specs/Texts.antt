-- Texts written into a buffer, and what is told of an answer.
use Rattle.std.specs.Prelude.{ℕ, ◌+◌, Bool, true, false, cond, [], ◌∷◌, ◌++◌, length, take, drop}
use Rattle.rules.specs.Answer.{Answer}
use Rattle.rules.specs.Answer.{Key, Arc, Mark, Arity, Done, Refused}
use Rattle.rules.specs.declared.Refusal.TheVariants.{Argument}
use Rattle.rules.specs.declared.Edit.{Edit}
use Rattle.rules.specs.declared.Edit.TheVariants.{VertexInsert, FaceInsert, FaceRemove, FaceSplit, FacePoke, FaceBridge, FaceExtrude, ArcBridge, ArcExtrude}
use Rattle.rules.specs.Step.{number_of}
use Rattle.rules.specs.Script.{Text, bytes, newline, spaced, shown_keys, answer_text}
use Rattle.script.specs.declared.Words.{Words}
use Rattle.script.specs.declared.Words.TheVariants.{No, Bare, One, Two}

-- ---- a buffer

-- the bytes of a buffer, and the place reached in it
pub record Written : Type 0 where
  pub bytes : Text
  pub next : ℕ

abbrev pub written : Text → ℕ → Written
written b n = record { bytes = b; next = n }

-- a text written into a buffer from a place on: what stands before it and behind it stays
unfoldable pub wrote : Text → ℕ → Text → Written
wrote out at text = written (take at out ++ text ++ drop (at + length text) out) (at + length text)

-- ---- an answer

unfoldable pub words_of : Answer → Words
words_of (Key k) = One k
words_of (Arc s d) = Two s d
words_of (Mark n) = One n
words_of (Arity n) = One n
words_of Done = Bare
words_of (Refused r) = No (number_of r)

-- with the numbers left out
unfoldable pub bare_of : Words → Words
bare_of (No n) = No n
bare_of Bare = Bare
bare_of (One a) = Bare
bare_of (Two a b) = Bare

-- none are shown for b
unfoldable pub shows_keys : Edit → Bool
shows_keys (VertexInsert p) = true
shows_keys (FaceInsert mark) = true
shows_keys (FaceRemove f) = true
shows_keys (FaceSplit f s d) = true
shows_keys (FacePoke f p) = true
shows_keys (FaceBridge f g) = false
shows_keys (FaceExtrude f move) = true
shows_keys (ArcBridge a b c d) = true
shows_keys (ArcExtrude s d move) = true

unfoldable pub shown_words : Edit → Answer → Words
shown_words e a = cond (shows_keys e) (words_of a) (bare_of (words_of a))

unfoldable pub words_text : Words → Text
words_text (No n) = bytes "no" ++ spaced (n ∷ [])
words_text Bare = bytes "ok"
words_text (One a) = bytes "ok" ++ spaced (a ∷ [])
words_text (Two a b) = bytes "ok" ++ spaced (a ∷ b ∷ [])

-- the line that answers an edit, the line that answers what can't be read, and the last line
unfoldable pub answer_line : Edit → Answer → Text
answer_line e a = answer_text (shown_keys e a) a ++ (newline ∷ [])

unfoldable pub unreadable_line : Text
unreadable_line = answer_text [] (Refused Argument) ++ (newline ∷ [])

unfoldable pub end_line : ℕ → ℕ → ℕ → Text
end_line v e f = bytes "end" ++ (spaced (v ∷ e ∷ f ∷ []) ++ (newline ∷ []))
