-- The lines of an input, cut out of the chunks in which it is read: of a line its first 513 bytes are held, in a buffer with the place
-- reached in it, and with each line that ended something is done.
use Rattle.std.specs.Prelude.{ℕ, ◌+◌, Bool, true, false, Option, None, Some, cond, [], ◌∷◌, set, take, eqb, ltb}
use Rattle.rules.specs.Script.{Text, newline}
use Rattle.script.specs.Texts.{Written, written}

-- one more than a line may have before its newline, so that a longer one is told
abbrev pub most_held : ℕ
most_held = 513

-- one byte more, which is held unless so many are
unfoldable pub holding : Written → ℕ → Written
holding line b = cond (ltb line.next most_held) (written (set line.bytes line.next b) (line.next + 1)) line

-- the bytes that are held, and a line of which none is
abbrev pub held_in : Written → Text
held_in line = take line.next line.bytes

abbrev pub none_held : Written → Written
none_held line = written line.bytes 0

-- ---- byte by byte

-- what was done with the lines that ended, and what is held of the one that has not
pub record Cut {ℓ} (A : Type ℓ) : Type ℓ where
  pub done : A
  pub line : Written

abbrev pub cut {ℓ} : {A : Type ℓ} → A → Written → Cut A
cut a l = record { done = a; line = l }

-- with another line held
abbrev pub holds {ℓ} : {A : Type ℓ} → Cut A → Written → Cut A
holds s l = cut s.done l

unfoldable pub line_ended {ℓ} : {A : Type ℓ} → (A → Text → A) → Cut A → Cut A
line_ended f s = cut (f s.done (held_in s.line)) (none_held s.line)

-- a newline ends the line that is held; any other byte is held
unfoldable pub cut_byte {ℓ} : {A : Type ℓ} → (A → Text → A) → Cut A → ℕ → Cut A
cut_byte f s b = cond (eqb b newline) (line_ended f s) (holds s (holding s.line b))

unfoldable pub cut_all {ℓ} : {A : Type ℓ} → (A → Text → A) → Cut A → Text → Cut A
cut_all f s [] = s
cut_all f s (b ∷ bs) = cut_all f (cut_byte f s b) bs

-- at the end of the input, the newline that an unended line lacks
unfoldable pub lacking : ℕ → Text
lacking held = cond (eqb held 0) [] (newline ∷ [])

-- ---- up to the next newline at once

-- where a line stands after some bytes of a chunk: the place after them, what is held of it, and whether a newline ended it
pub record Gathering : Type 0 where
  pub next : ℕ
  pub line : Written
  pub ended : Bool

abbrev pub gathering : ℕ → Written → Bool → Gathering
gathering n l e = record { next = n; line = l; ended = e }

-- the bytes from a place on, up to the next newline, which is passed by, or to the chunk's end
unfoldable pub gathered_from : ℕ → Written → Text → Gathering
gathered_from at line [] = gathering at line false
gathered_from at line (b ∷ bs) =
    let rest = gathered_from (at + 1) (holding line b) bs in
    cond (eqb b newline) (gathering (at + 1) line true) rest

-- as the code has it: the place after a line that ended, or none where the bytes end first
unfoldable pub gathered_to : ℕ → Option ℕ → Written → Gathering
gathered_to end None line = gathering end line false
gathered_to end (Some next) line = gathering next line true
