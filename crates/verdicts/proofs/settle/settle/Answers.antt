-- `verdicts::settle::settle` meets its contract. Assumes nothing.
use mathlib.Core.Path.{◌≡◌, sym, ap, ◌∙◌}
use Rattle.bodies.proofs.Stands.{head-there}
use Rattle.rules.specs.Mesh.{Mesh, Room, room}
use Rattle.rules.specs.Sound.{sound}
use Rattle.rules.specs.Lent.{mesh_in, mesh_of, room_of, tables_of}
use Rattle.tables.specs.Sets.{set_over, tables_in}
use Rattle.file.specs.File.{contents_in}
use Rattle.fills.specs.Fills.{as_mesh}
use Rattle.verdicts.proofs.Filled.{rows-for, mesh-filled, judged-unsound, judged-sound}
use Rattle.verdicts.proofs.settle.settle.Goals as goal

pub counters-counters-requires : goal.counters-counters-requires
counters-counters-requires c = head-there c.args.file.whole.file.text.now c.args.file.whole.file.laid

pub fill_room-requires : goal.fill_room-requires
fill_room-requires c =
    let x = c.args in
    let q = c.requires in
    rows-for (mesh_of x.mesh.now) (room_of x.room.now) (contents_in x.file.whole.file.text.now) q.few q.counters_value q.same_size

pub returns-then-not-is_sound-clause-judged : goal.returns-then-not-is_sound-clause-judged
returns-then-not-is_sound-clause-judged c =
    let x = c.args in
    let t = x.file.whole.file.text.now in
    let n = mesh-filled (mesh_of x.mesh.now) (room_of x.room.now) (room_of c.fill_room.new.room) (contents_in t) c.counters-counters.result c.requires.same_size c.fill_room.ensures.filled c.counters-counters.ensures in
    let found : mesh_in c.seen-found.result ≡ as_mesh (room_of c.fill_room.new.room) c.counters-counters.result =
    c.seen-found.ensures ∙ ap (λ (r : Room). as_mesh r c.counters-counters.result) c.view.ensures in
    judged-unsound (mesh_of x.mesh.now) _ t n (ap sound (sym found) ∙ sym c.is_sound.ensures ∙ c.if-not-is_sound.true)

pub returns-clause-judged : goal.returns-clause-judged
unfolding set_over
returns-clause-judged c =
    let x = c.args in
    let t = x.file.whole.file.text.now in
    let m = mesh_of x.mesh.now in
    let o = room_of c.fill_room.new.room in
    let f = c.seen-found.result in
    let left = room c.copy.new.to c.copy-2.new.to c.copy-3.new.to c.copy-4.new.to c.copy-5.new.to in
    let z = c.requires.same_size in
    let w = c.fill_room.ensures.same in
    let n = mesh-filled m (room_of x.room.now) o (contents_in t) c.counters-counters.result z c.fill_room.ensures.filled c.counters-counters.ensures in
    let copied : left ≡ set_over (tables_in f) (tables_of m) =
    λ i. room (c.copy.ensures i) (c.copy-2.ensures i) (c.copy-3.ensures i) (c.copy-4.ensures i) (c.copy-5.ensures i) in
    let found : mesh_in c.seen-found.result ≡ as_mesh (room_of c.fill_room.new.room) c.counters-counters.result =
    c.seen-found.ensures ∙ ap (λ (r : Room). as_mesh r c.counters-counters.result) c.view.ensures in
    judged-sound m o left c.counters-counters.result t n
    (ap sound (sym found) ∙ sym c.is_sound.ensures ∙ c.if-not-is_sound.false)
    (copied ∙ ap (λ (q : Mesh). set_over (tables_of q) (tables_of m)) found)
    (record {
      vertices = w.long_vertices ∙ sym z.vertices;
      positions = w.long_positions ∙ sym z.positions;
      arcs = w.long_arcs ∙ sym z.arcs;
      edges = w.long_edges ∙ sym z.edges;
      faces = w.long_faces ∙ sym z.faces;
    })
