-- `nearby::vertices::mark_edit` meets its contract. Each arm by its variant. Assumes nothing.
use Rattle.std.proofs.Common.{rules}
use Rattle.kept.specs.Local.{among}
use Rattle.rules.specs.Call.{by_keys}
use Rattle.nearby.proofs.Marking.{marks-none, marks-both}
use Rattle.nearby.proofs.vertices.mark_edit.Goals as goal

pub mark_keys-requires : goal.mark_keys-requires
mark_keys-requires c = c.requires c.in-FaceInsert.field-0 c.in-FaceInsert.is

pub returns-in-VertexInsert : goal.returns-in-VertexInsert
unfolding among
returns-in-VertexInsert c = rw c.in-VertexInsert.is (marks-none _)

pub returns-in-FaceInsert : goal.returns-in-FaceInsert
unfolding among
returns-in-FaceInsert c =
    let m = c.args.mesh in
    rw c.in-FaceInsert.is (c.mark_keys.ensures m.positions.now m.arcs.now m.edges.now m.faces.now m.counters.now)

pub returns-in-FaceRemove : goal.returns-in-FaceRemove
unfolding among
returns-in-FaceRemove c = search rules

pub returns-in-FaceBridge : goal.returns-in-FaceBridge
unfolding among
returns-in-FaceBridge c =
    let m = c.args.mesh in
    rw c.in-FaceBridge.is (marks-both (c.mark_ring.ensures m.vertices.now m.positions.now m.edges.now m.counters.now) (c.mark_ring-in-FaceBridge.ensures m.vertices.now m.positions.now m.edges.now m.counters.now))

pub returns-in-ArcBridge : goal.returns-in-ArcBridge
unfolding among by_keys
returns-in-ArcBridge c =
    let m = c.args.mesh in
    rw c.in-ArcBridge.is (c.mark_keys-in-ArcBridge.ensures m.positions.now m.arcs.now m.edges.now m.faces.now m.counters.now)

pub returns-in-ArcExtrude : goal.returns-in-ArcExtrude
unfolding among by_keys
returns-in-ArcExtrude c =
    let m = c.args.mesh in
    rw c.in-ArcExtrude.is (c.mark_keys-in-ArcExtrude.ensures m.positions.now m.arcs.now m.edges.now m.faces.now m.counters.now)
