-- `checks::call::checks_of` meets its contract. Each arm by its variant and what its callee ensures. Assumes nothing.
use Rattle.std.proofs.Common.{rules}
use mathlib.Core.Path.{◌≡◌, ap, ◌∙◌}
use Rattle.rules.specs.Lent.{mesh_in}
use Rattle.rules.specs.Mesh.{list_of}
use Rattle.rules.specs.Call.{checks}
use Rattle.checks.proofs.Between.{one_key, other_key}
use Rattle.rules.proofs.Places.{list_back}
use Rattle.checks.proofs.call.checks_of.Goals as goal

pub returns-in-VertexInsert : goal.returns-in-VertexInsert
unfolding checks
returns-in-VertexInsert c = λ few. rw c.in-VertexInsert.is

pub returns-in-FaceInsert : goal.returns-in-FaceInsert
unfolding checks
returns-in-FaceInsert c =
    let a = c.args.mesh in
    λ few.
    let short = few _ c.in-FaceInsert.is in
    let names : list_of c.from_keys-names.result ≡ c.args.keys.now = ap list_of c.from_keys-names.ensures ∙ list_back c.args.keys.now short in
    let per = c.by_keys-per.ensures short a.positions.now a.arcs.now a.edges.now a.faces.now a.counters.now in
    rw (c.in-FaceInsert.is, ← per, ← names) (c.insert_checks.ensures a.vertices.now a.edges.now a.faces.now a.counters.now)

pub returns-in-FaceRemove : goal.returns-in-FaceRemove
unfolding checks
returns-in-FaceRemove c = search rules

pub returns-in-FaceSplit : goal.returns-in-FaceSplit
unfolding checks
returns-in-FaceSplit c = λ few. rw (c.in-FaceSplit.is, ← c.find_key-face.ensures, ← c.find_key-from.ensures, ← c.find_key-to.ensures) (let a = c.args.mesh in c.split_checks.ensures a.vertices.now a.positions.now a.edges.now a.counters.now)

pub returns-in-FaceBridge : goal.returns-in-FaceBridge
unfolding checks
returns-in-FaceBridge c = λ few. rw (c.in-FaceBridge.is, ← c.find_key-from-in-FaceBridge.ensures, ← c.find_key-to-in-FaceBridge.ensures) (let a = c.args.mesh in c.bridge_checks.ensures a.vertices.now a.positions.now a.edges.now a.counters.now)

pub returns-in-ArcBridge : goal.returns-in-ArcBridge
unfolding checks
returns-in-ArcBridge c =
    let a = c.args.mesh in
    let four = c.four_by_keys-four in
    λ few.
    rw (c.in-ArcBridge.is, ← one_key (mesh_in a) _ _ _ _ four.result four.ensures, ← other_key (mesh_in a) _ _ _ _ four.result four.ensures) (c.arc_bridge_checks.ensures a.vertices.now a.edges.now a.faces.now a.counters.now)

pub returns-in-ArcExtrude : goal.returns-in-ArcExtrude
unfolding checks
returns-in-ArcExtrude c =
    let a = c.args.mesh in
    λ few. rw (c.in-ArcExtrude.is, ← c.arc_by_keys-x.ensures a.positions.now a.edges.now a.faces.now a.counters.now) (c.arc_extrude_checks.ensures a.vertices.now a.positions.now a.edges.now a.faces.now a.counters.now)
