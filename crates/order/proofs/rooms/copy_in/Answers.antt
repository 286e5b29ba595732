-- `order::rooms::copy_in` meets its contract. A set copied over one of the same sizes. Assumes nothing.
use mathlib.Core.Path.{◌∙◌}
use Rattle.rules.specs.Lent.{mesh_in, room_of, tables_of}
use Rattle.order.proofs.Settling.{set_same}
use Rattle.order.proofs.rooms.copy_in.Goals as goal

pub returns-clause-value : goal.returns-clause-value
returns-clause-value c =
    let x = c.args in
    c.copy_set.ensures.copied ∙ set_same (tables_of (mesh_in x.mesh)) (room_of x.room.now) c.requires
