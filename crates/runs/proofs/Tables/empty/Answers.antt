-- The definitions.
use Rattle.std.proofs.Common.{refl}
use Rattle.rules.specs.Script.{empty_room, empty_mesh}
use Rattle.runs.proofs.Tables.empty.Goals as goal

pub returns-clause-is_mesh : goal.returns-clause-is_mesh
unfolding empty_mesh empty_room
returns-clause-is_mesh c = refl

pub returns-clause-is_room : goal.returns-clause-is_room
unfolding empty_room
returns-clause-is_room c = refl
