-- `order::decide::is_ready` meets its contract. The tests in another order than the definition's. Assumes nothing.
use mathlib.Core.Path.{sym, ◌∙◌}
use Rattle.rules.specs.Lent.{mesh_in, room_in}
use Rattle.order.proofs.Deciding.{rooms-first, rooms-short}
use Rattle.order.proofs.decide.is_ready.Goals as goal

pub returns-then-room_enough : goal.returns-then-room_enough
returns-then-room_enough c =
    let x = c.args in
    c.is_sound.ensures ∙ rooms-first (mesh_in x.mesh) (room_in x.room1) (room_in x.room2) (sym c.room_enough.ensures ∙ c.if-room_enough.true)

pub returns-else-room_enough : goal.returns-else-room_enough
returns-else-room_enough c =
    let x = c.args in
    c.if-room_enough.false ∙ rooms-short (mesh_in x.mesh) (room_in x.room1) (room_in x.room2) (sym c.room_enough.ensures ∙ c.if-room_enough.false)
