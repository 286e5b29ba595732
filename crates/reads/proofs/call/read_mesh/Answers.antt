-- `reads::call::read_mesh` meets its contract: 1, or what is decided and judged, and both rooms zero. Assumes nothing.
use mathlib.Core.Path.{◌≡◌, sym, ◌∙◌}
use Rattle.rules.specs.Lent.{mesh_of, room_of}
use Rattle.file.specs.File.{sizes_serve}
use Rattle.verdicts.specs.Refusals.{number_of}
use Rattle.reads.proofs.Rooms.{serve-limits, serve-fits, read-not, read_done}
use Rattle.reads.proofs.call.read_mesh.Goals as goal

pub returns-then-not-sizes_serve-clause-read : goal.returns-then-not-sizes_serve-clause-read
returns-then-not-sizes_serve-clause-read c =
    let x = c.args in
    let one = room_of x.room1.now in
    let two = room_of x.room2.now in
    read-not (mesh_of x.mesh.now) one two x.text.now
    ((λ i. sizes_serve (sym c.view.ensures i) (sym c.view-2.ensures i) (sym c.view-3.ensures i)) ∙ sym c.sizes_serve.ensures ∙ c.if-not-sizes_serve.true)

pub read_in_parts-read-requires : goal.read_in_parts-read-requires
read_in_parts-read-requires c =
    let x = c.args in
    let m = mesh_of x.mesh.now in
    let one = room_of x.room1.now in
    let two = room_of x.room2.now in
    let serve : sizes_serve m one two ≡ _ =
    (λ i. sizes_serve (sym c.view.ensures i) (sym c.view-2.ensures i) (sym c.view-3.ensures i)) ∙ sym c.sizes_serve.ensures ∙ c.if-not-sizes_serve.false in
    record {
      counters_value = serve-limits m one two serve;
      fits = serve-fits m one two serve;
    }

pub returns-clause-read : goal.returns-clause-read
returns-clause-read c =
    let x = c.args in
    let m = mesh_of x.mesh.now in
    let one = room_of x.room1.now in
    let two = room_of x.room2.now in
    let w = c.read_in_parts-read in
    let s = w.ensures.same_room in
    read_done m one two x.text.now (number_of w.result) (mesh_of w.new.mesh) (room_of w.new.room) (room_of c.zero_set.new.room) (room_of c.zero_set-2.new.room)
    ((λ i. sizes_serve (sym c.view.ensures i) (sym c.view-2.ensures i) (sym c.view-3.ensures i)) ∙ sym c.sizes_serve.ensures ∙ c.if-not-sizes_serve.false)
    w.ensures.taken
    (record {
      vertices = s.long_vertices;
      positions = s.long_positions;
      arcs = s.long_arcs;
      edges = s.long_edges;
      faces = s.long_faces;
    })
    c.zero_set.ensures.zeroed c.zero_set-2.ensures.zeroed
