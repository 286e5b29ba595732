-- `order::decide::has_room` meets its contract. Room for the most is room for the need. Assumes nothing.
use mathlib.Core.Path.{sym, ◌∙◌}
use Rattle.rules.specs.Lent.{mesh_in}
use Rattle.rules.specs.Call.{need}
use Rattle.checks.specs.Most.{needed}
use Rattle.checks.proofs.Most.{room-for-less}
use Rattle.order.proofs.decide.has_room.Goals as goal

pub returns-then-room_for : goal.returns-then-room_for
returns-then-room_for c =
    let x = c.args in
    let m = mesh_in x.mesh in
    let most = c.most_of-most.ensures m.vertices m.positions m.edges m.counters in
    λ few. c.if-room_for.true ∙ sym (room-for-less m (need m x.edit x.keys.now) (needed c.most_of-most.result) most.1 (sym c.room_for.ensures ∙ c.if-room_for.true))
