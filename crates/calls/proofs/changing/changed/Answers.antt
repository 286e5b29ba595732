-- The call replies what `change` answers, told in numbers, and leaves what it leaves. Assumes nothing.
use Rattle.rules.specs.Lent.{mesh_of, room_of, answered}
use Rattle.calls.proofs.Replying.{replied-by}
use Rattle.calls.proofs.changing.changed.Goals as goal

pub returns-clause-shown : goal.returns-clause-shown
returns-clause-shown c =
    let w = c.change in
    replied-by (answered w.result) c.told.result (mesh_of w.new.mesh) (room_of w.new.room1) (room_of w.new.room2) c.told.ensures w.ensures.outcome
