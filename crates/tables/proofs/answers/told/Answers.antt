-- `tables::answers::told` meets its contract. The definition at each answer. Assumes nothing.
use Rattle.std.proofs.Common.{rules}
use Rattle.rules.specs.Step.{told}
use Rattle.tables.proofs.answers.told.Goals as goal

pub returns-in-Ok-Key : goal.returns-in-Ok-Key
unfolding told
returns-in-Ok-Key c = search rules

pub returns-in-Ok-Arc : goal.returns-in-Ok-Arc
unfolding told
returns-in-Ok-Arc c = search rules

pub returns-in-Ok-Mark : goal.returns-in-Ok-Mark
unfolding told
returns-in-Ok-Mark c = search rules

pub returns-in-Ok-Arity : goal.returns-in-Ok-Arity
unfolding told
returns-in-Ok-Arity c = search rules

pub returns-in-Ok-Done : goal.returns-in-Ok-Done
unfolding told
returns-in-Ok-Done c = search rules

pub returns-in-Err : goal.returns-in-Err
unfolding told
returns-in-Err c = search rules
