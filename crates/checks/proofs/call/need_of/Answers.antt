-- `checks::call::need_of` meets its contract. Each arm by its variant; any other edit by what it needs at most. Assumes nothing.
use mathlib.Core.Path.{ap, ◌∙◌}
use lib.Dec.{eqb}
use Rattle.rules.specs.Lent.{mesh_in}
use Rattle.rules.specs.Call.{need, needs}
use Rattle.checks.proofs.Below.{bit_of}
use Rattle.checks.proofs.Between.{corners-key}
use Rattle.checks.proofs.Most.{none-asked}
use Rattle.checks.proofs.call.need_of.Goals as goal

pub returns-in-FaceInsert : goal.returns-in-FaceInsert
unfolding need
returns-in-FaceInsert c =
    let m = c.args.mesh in
    λ few. rw (c.in-FaceInsert.is, ← c.by_keys.ensures (few _ c.in-FaceInsert.is) m.positions.now m.arcs.now m.edges.now m.faces.now m.counters.now) (c.insert_need.ensures m.vertices.now m.positions.now m.edges.now m.faces.now m.counters.now)

pub returns-in-FaceSplit : goal.returns-in-FaceSplit
unfolding need
returns-in-FaceSplit c =
    let m = c.args.mesh in
    λ few. rw (c.in-FaceSplit.is, ← c.arc_by_keys-x.ensures m.positions.now m.edges.now m.faces.now m.counters.now) (c.new.ensures ∙ ap (λ n. needs 0 n 1 2) (c.from.ensures ∙ bit_of (eqb c.arc_by_keys-x.result 0)))

pub returns-in-ArcBridge : goal.returns-in-ArcBridge
unfolding need
returns-in-ArcBridge c =
    let m = c.args.mesh in
    let told = c.corners_between in
    λ few. rw (c.in-ArcBridge.is, ← corners-key (mesh_in m) _ _ _ _ c.four_by_keys-four.result c.four_by_keys-four.ensures told.result told.ensures.0 told.ensures.1) (c.insert_need-in-ArcBridge.ensures m.vertices.now m.positions.now m.edges.now m.faces.now m.counters.now)

pub returns-in_default : goal.returns-in_default
returns-in_default c =
    let m = c.args.mesh in
    λ few. (c.most_of.ensures m.vertices.now m.positions.now m.edges.now m.counters.now).0 ∙ none-asked (mesh_in m) c.args.edit c.args.keys.now c.in_default.not-FaceInsert c.in_default.not-FaceSplit c.in_default.not-ArcBridge
