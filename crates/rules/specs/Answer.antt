-- What a call answers: a key, an arc by its two vertex keys, a mark, an arity, done with nothing to tell, or a refusal.
use Rattle.std.specs.Prelude.{ℕ}
use Rattle.rules.specs.declared.Refusal.{Refusal}

pub data Answer : Type 0 where
  Key : ℕ → Answer
  Arc : ℕ → ℕ → Answer
  Mark : ℕ → Answer
  Arity : ℕ → Answer
  Done : Answer
  Refused : Refusal → Answer
