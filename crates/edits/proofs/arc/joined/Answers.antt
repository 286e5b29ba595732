-- The edge, then the arc bridge, by one list.
use mathlib.Core.Path.{subst}
use Rattle.rules.specs.Mesh.{Mesh}
use Rattle.rules.specs.Lent.{mesh_of}
use Rattle.rules.specs.Link.{get_or_insert_edge}
use Rattle.insert.proofs.Filled.{filled-get}
use Rattle.edits.specs.Known.{Known}
use Rattle.edits.proofs.Known.{known-then, joined_by_lem}
use Rattle.edits.proofs.arc.joined.Goals as goal

pub edge_near-y-requires : goal.edge_near-y-requires
edge_near-y-requires c =
    let k = subst (λ (m : Mesh). Known m c.near_edit-around.result) c.view.ensures c.near_edit-around.ensures in
    record { near = k.listed; used_before = (k.arcs-used, k.edges-used) }

pub arc_bridge-requires : goal.arc_bridge-requires
arc_bridge-requires c =
    let a = c.args in
    let m = mesh_of a.mesh.now in
    let k = c.near_edit-around.result in
    let known = subst (λ (n : Mesh). Known n k) c.view.ensures c.near_edit-around.ensures in
    known-then m (mesh_of c.edge_near-y.new.mesh) (get_or_insert_edge m a.c a.d) k (filled-get m a.c a.d) c.edge_near-y.ensures.edge known

pub returns-clause-told : goal.returns-clause-told
returns-clause-told c =
    let a = c.args in
    let y = c.edge_near-y in
    joined_by_lem (mesh_of a.mesh.now) (mesh_of y.new.mesh) _ a.x a.c a.d y.result y.ensures.edge y.ensures.arc c.arc_bridge.ensures.told
