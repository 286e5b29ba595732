-- An answer's number and values, and an edit in progress.
use Rattle.std.specs.Prelude.{ℕ, Bool, true, false, cond}
use Rattle.rules.specs.declared.Refusal.{Refusal}
use Rattle.rules.specs.declared.Refusal.TheVariants.{Tables, Argument, TopologyMalformed, TopologyNotFound, TopologyConflict, ArityNonUniform, NoRoom, WouldBreak, SamePlace}
use Rattle.rules.specs.Answer.{Answer}
use Rattle.rules.specs.Answer.{Key, Arc, Mark, Arity, Done, Refused}
use Rattle.rules.specs.declared.Reply.{Reply}
use Rattle.rules.specs.Mesh.{Mesh}

-- ---- answers

-- document 01's number for each refusal, and document 02's
unfoldable pub number_of : Refusal → ℕ
number_of Tables = 1
number_of Argument = 2
number_of TopologyMalformed = 3
number_of TopologyNotFound = 4
number_of TopologyConflict = 5
number_of ArityNonUniform = 6
number_of NoRoom = 7
number_of WouldBreak = 8
number_of SamePlace = 13

-- a reply: number, key, arc (source, destination), mark, arity
abbrev pub reply : ℕ → ℕ → ℕ → ℕ → ℕ → ℕ → Reply
reply number key source destination mark arity =
    record { number = number; key = key; source = source; destination = destination; mark = mark; arity = arity }

-- each answer's number and values. Every refusal returns key 0 (arity 0, mark 0, arc (0,0))
unfoldable pub told : Answer → Reply
told (Key k) = reply 0 k 0 0 0 0
told (Arc s d) = reply 0 0 s d 0 0
told (Mark n) = reply 0 0 0 0 n 0
told (Arity n) = reply 0 0 0 0 0 n
told Done = reply 0 0 0 0 0 0
told (Refused r) = reply (number_of r) 0 0 0 0 0

-- no refusal
unfoldable pub accepted : Answer → Bool
accepted (Key k) = true
accepted (Arc s d) = true
accepted (Mark n) = true
accepted (Arity n) = true
accepted Done = true
accepted (Refused r) = false

-- ---- an edit in progress: the tables as it has them now, and its answer so far

pub record Step : Type 0 where
  pub tables : Mesh
  pub answer : Answer

abbrev pub step : Mesh → Answer → Step
step m a = record { tables = m; answer = a }

abbrev pub stops : Mesh → Refusal → Step
stops m r = step m (Refused r)

-- the next part of an edit, unless it was refused
unfoldable pub and_then : Step → (Mesh → Step) → Step
and_then s f = cond (accepted s.answer) (f s.tables) s

-- the answer of the whole, unless it was refused
unfoldable pub answering : Answer → Step → Step
answering a s = cond (accepted s.answer) (step s.tables a) s

-- an edit behind its checks
unfoldable pub checked : Mesh → Answer → Step → Step
checked m checks s = cond (accepted checks) s (step m checks)
