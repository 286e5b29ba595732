-- `mesh::call::change` meets its contract: 1, or what is decided and worked, and both rooms zero. Assumes nothing.
use mathlib.Core.Path.{◌≡◌, refl, sym, ◌∙◌}
use mathlib.Core.Bool.{true, false}
use Rattle.std.proofs.Common.{rules}
use Rattle.rules.specs.Lent.{mesh_of, room_of, answered}
use Rattle.rules.specs.Mesh.{Mesh, Room, room}
use Rattle.rules.specs.Call.{ready}
use Rattle.mesh.proofs.Calling.{called-not, called-done, ready-fits, ready-sound}
use Rattle.mesh.proofs.call.change.Goals as goal

pub returns-then-not-is_ready-clause-outcome : goal.returns-then-not-is_ready-clause-outcome
returns-then-not-is_ready-clause-outcome c =
    let x = c.args in
    let no : ready (mesh_of x.mesh.now) (room_of x.room1.now) (room_of x.room2.now) ≡ false = search rules in
    called-not (mesh_of x.mesh.now) (room_of x.room1.now) (room_of x.room2.now) x.call x.keys.now no

pub perform_in_parts-told-requires-clause-whole : goal.perform_in_parts-told-requires-clause-whole
perform_in_parts-told-requires-clause-whole c =
    let x = c.args in
    let yes : ready (mesh_of x.mesh.now) (room_of x.room1.now) (room_of x.room2.now) ≡ true = search rules in
    ready-sound (mesh_of x.mesh.now) (room_of x.room1.now) (room_of x.room2.now) yes

pub perform_in_parts-told-requires-clause-fits : goal.perform_in_parts-told-requires-clause-fits
perform_in_parts-told-requires-clause-fits c =
    let x = c.args in
    let yes : ready (mesh_of x.mesh.now) (room_of x.room1.now) (room_of x.room2.now) ≡ true = search rules in
    ready-fits (mesh_of x.mesh.now) (room_of x.room1.now) (room_of x.room2.now) yes

pub returns-clause-outcome : goal.returns-clause-outcome
returns-clause-outcome c =
    let x = c.args in
    let w = c.perform_in_parts-told in
    let o = c.clear in
    let one : Room = room_of x.room1.now in
    let two : Room = room_of x.room2.now in
    let yes : ready (mesh_of x.mesh.now) one two ≡ true = search rules in
    called-done (mesh_of x.mesh.now) one two x.call x.keys.now (answered w.result) (mesh_of w.new.mesh)
    (room w.new.v w.new.p w.new.a w.new.e w.new.f) two
    (room_of o.new.room1) (room_of o.new.room2) yes
    w.ensures.left
    (record { vertices = w.auto.v; positions = w.auto.p; arcs = w.auto.a; edges = w.auto.e; faces = w.auto.f })
    (record { vertices = refl; positions = refl; arcs = refl; edges = refl; faces = refl })
    o.ensures.one o.ensures.two
