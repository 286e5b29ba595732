-- `fills::fill::fill_room` meets its contract. Assumes nothing.
use Rattle.rules.specs.Mesh.{room}
use Rattle.rules.specs.Lent.{room_of}
use Rattle.file.specs.File.{contents_in}
use Rattle.fills.proofs.Over.{set-filled}
use Rattle.fills.proofs.fill.fill_room.Goals as goal

pub returns-clause-filled : goal.returns-clause-filled
returns-clause-filled c =
    let x = c.args in
    let z = c.zero_set.new.room in
    let o = c.fill_tables.new in
    set-filled (contents_in x.file.whole.file.text.now) (room_of x.room.now) (room_of z)
    (room o.vertices o.positions o.arcs o.edges o.faces) c.zero_set.ensures.zeroed c.fill_tables.ensures
