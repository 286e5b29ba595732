-- `script::texts::words_of` meets its contract. The definition at each answer. Assumes nothing.
use Rattle.std.proofs.Common.{rules}
use Rattle.script.specs.Texts.{words_of}
use Rattle.script.proofs.texts.words_of.Goals as goal

pub returns-in-Ok-Key : goal.returns-in-Ok-Key
unfolding words_of
returns-in-Ok-Key c = search rules

pub returns-in-Ok-Arc : goal.returns-in-Ok-Arc
unfolding words_of
returns-in-Ok-Arc c = search rules

pub returns-in-Ok-Mark : goal.returns-in-Ok-Mark
unfolding words_of
returns-in-Ok-Mark c = search rules

pub returns-in-Ok-Arity : goal.returns-in-Ok-Arity
unfolding words_of
returns-in-Ok-Arity c = search rules

pub returns-in-Ok-Done : goal.returns-in-Ok-Done
unfolding words_of
returns-in-Ok-Done c = search rules

pub returns-in-Err : goal.returns-in-Err
unfolding words_of
returns-in-Err c = search rules
