-- `checks::call::given` meets its contract. Each arm by its variant. Assumes nothing.
use Rattle.std.proofs.Common.{rules}
use Rattle.rules.specs.Call.{given}
use Rattle.checks.proofs.call.given.Goals as goal

pub returns-in-FaceInsert : goal.returns-in-FaceInsert
unfolding given
returns-in-FaceInsert c = search rules

pub returns-in_default : goal.returns-in_default
unfolding given
returns-in_default c = search rules

pub returns-in-FaceExtrude : goal.returns-in-FaceExtrude
unfolding given
returns-in-FaceExtrude c = search rules

pub returns-in-VertexInsert : goal.returns-in-VertexInsert
unfolding given
returns-in-VertexInsert c = search rules
