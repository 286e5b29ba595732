-- The corners' arcs are found once, for the checks and the insert.
use mathlib.Core.Path.{refl, ap, sym, subst, ◌∙◌}
use Rattle.rules.specs.Mesh.{Mesh, mesh, links_of, list_of}
use Rattle.rules.specs.Lent.{mesh_of}
use Rattle.rules.specs.Edit.{corners, arc_bridge_checks}
use Rattle.makers.specs.Makers.{searching, arc_bridge_work_by, arc_bridge_by}
use Rattle.pairs.specs.Near.{Near}
use Rattle.pairs.specs.Pairs.{arcs_of}
use Rattle.pairs.proofs.Listed.{arcs-held}
use Rattle.checks.proofs.Pairs.{corners-back}
use Rattle.edits.proofs.Inserts.{checked_refused, checked-done}
use Rattle.edits.proofs.Whole.{arc_bridged}
use borrow.Author.Rules.{rules}
use Rattle.edits.proofs.arc.arc_bridge.Goals as goal

pub perimeter_arcs-found-requires : goal.perimeter_arcs-found-requires
perimeter_arcs-found-requires c = subst (λ (m : Mesh). Near m.arcs c.args.around.now.near) (sym c.view-view.ensures) c.requires.listed

pub arc_bridge_checks_by-requires-clause-per_value : goal.arc_bridge_checks_by-requires-clause-per_value
arc_bridge_checks_by-requires-clause-per_value c = λ vs ps es fs ks.
    let per = c.corner_list-per in
    corners-back (mesh vs ps c.view-view.result.arcs.now es fs ks) c.args.x c.args.y per.result (per.ensures ∙ ap links_of (c.corners_of.ensures vs ps es fs ks))

pub arc_bridge_checks_by-requires-clause-xs_value : goal.arc_bridge_checks_by-requires-clause-xs_value
arc_bridge_checks_by-requires-clause-xs_value c =
    arcs-held _ (list_of c.corner_list-per.result) _ c.known_few.ensures c.perimeter_arcs-found.ensures

pub returns-in_err-arc_bridge_checks_by-clause-told : goal.returns-in_err-arc_bridge_checks_by-clause-told
unfolding arc_bridge_by
returns-in_err-arc_bridge_checks_by-clause-told c =
    let a = c.args in
    let m = mesh_of a.mesh.now in
    let v = c.view-view.result in
    let told = c.in_err-arc_bridge_checks_by.ensures v.vertices.now v.edges.now v.faces.now v.counters.now in
    let refused = checked_refused m (arc_bridge_work_by searching m a.x a.y) _ (arc_bridge_checks m a.x a.y) (told ∙ ap (λ (n : Mesh). arc_bridge_checks n a.x a.y) c.view-view.ensures) in
    search rules

pub insert_by-requires-clause-found_value : goal.insert_by-requires-clause-found_value
insert_by-requires-clause-found_value c =
    let per = list_of c.corner_list-per.result in
    arcs-held _ per _ c.known_few.ensures c.perimeter_arcs-found.ensures ∙ ap (λ (m : Mesh). arcs_of m.arcs per) c.view-view.ensures

pub returns-clause-told : goal.returns-clause-told
unfolding arc_bridge_by
returns-clause-told c =
    let a = c.args in
    let m = mesh_of a.mesh.now in
    let v = c.view-view.result in
    let told = c.in_ok-arc_bridge_checks_by.ensures v.vertices.now v.edges.now v.faces.now v.counters.now in
    let four = c.corners_of.ensures v.vertices.now v.positions.now v.edges.now v.faces.now v.counters.now ∙ ap (λ (n : Mesh). corners n a.x a.y) c.view-view.ensures in
    let put = arc_bridged m (mesh_of c.insert_by.new.mesh) a.x a.y c.corners_of.result c.corner_list-per.result _ c.corner_list-per.ensures four refl c.insert_by.ensures.face in
    checked-done m (arc_bridge_work_by searching m a.x a.y) (arc_bridge_checks m a.x a.y) _ (told ∙ ap (λ (n : Mesh). arc_bridge_checks n a.x a.y) c.view-view.ensures) put
