-- The corners as they were found for the checks, then the insert.
use mathlib.Core.Path.{refl, ap, subst, ◌∙◌}
use Rattle.rules.specs.Mesh.{Mesh}
use Rattle.rules.specs.Lent.{mesh_of}
use Rattle.rules.specs.Edit.{corners}
use Rattle.checks.specs.Between.{Told}
use Rattle.makers.specs.Makers.{searching, arc_bridge_work_by}
use Rattle.edges.proofs.Searches.{used-none}
use Rattle.edits.proofs.Whole.{corners-bridged}
use Rattle.edits.proofs.arc.arc_bridge_work.Goals as goal

pub insert_by-requires : goal.insert_by-requires
insert_by-requires c =
    let m = mesh_of c.args.mesh.now in
    let none = c.default.ensures in
    let found = subst (λ (n : Mesh). Told n.arcs c.args.four c.corners_between-between.result) c.view.ensures c.corners_between-between.ensures.0 in
    record {
      found_value = found.found;
      used_before = rw (none.0, none.1.0, none.1.1) (used-none m.arcs, (used-none m.edges, used-none m.faces));
    }

pub returns-clause-told : goal.returns-clause-told
returns-clause-told c =
    let m = mesh_of c.args.mesh.now in
    let v = c.view.result in
    let t = c.corners_between-between in
    let found = subst (λ (n : Mesh). Told n.arcs c.args.four t.result) c.view.ensures t.ensures.0 in
    let corners = t.ensures.1 v.vertices.now v.positions.now v.edges.now v.faces.now v.counters.now ∙ ap (λ (n : Mesh). corners n t.result.x t.result.y) c.view.ensures in
    corners-bridged m (mesh_of c.insert_by.new.mesh) t.result.x t.result.y t.result.per _ corners refl c.insert_by.ensures.face
    ∙ (λ i. arc_bridge_work_by searching m (found.one i) (found.other i))
