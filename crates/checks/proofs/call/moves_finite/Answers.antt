-- `checks::call::moves_finite` meets its contract. Each arm by its variant; of the arc extrude, both vertices. Assumes nothing.
use mathlib.Core.Path.{◌≡◌, ap, sym, ◌∙◌}
use Rattle.rules.specs.Lent.{mesh_in}
use Rattle.rules.specs.Mesh.{list_of}
use Rattle.rules.specs.Table.{every}
use Rattle.rules.specs.Link.{ring_vertices}
use Rattle.rules.specs.Extrude.{moved_finite}
use Rattle.rules.specs.Call.{moves_finite}
use Rattle.checks.proofs.Bounds.{vertices-back}
use Rattle.checks.proofs.Below.{and-true}
use Rattle.checks.proofs.Moves.{none-moved}
use Rattle.checks.proofs.call.moves_finite.Goals as goal

pub returns-in-FaceExtrude : goal.returns-in-FaceExtrude
unfolding moves_finite
returns-in-FaceExtrude c =
    let m = c.args.mesh in
    let back : list_of c.vertices_of-vertices.result ≡ ring_vertices (mesh_in m) c.find_key-face.result = ap list_of (c.vertices_of-vertices.ensures m.vertices.now m.positions.now m.edges.now m.counters.now) ∙ vertices-back (mesh_in m) c.find_key-face.result in
    rw (c.in-FaceExtrude.is, ← c.find_key-face.ensures, ← back) (c.moved_finite.ensures m.vertices.now m.arcs.now m.edges.now m.faces.now m.counters.now)

pub returns-then-one_finite : goal.returns-then-one_finite
unfolding moves_finite moved_finite every
returns-then-one_finite c =
    let m = c.args.mesh in
    rw (c.in-ArcExtrude.is, ← c.find_key-to.ensures, ← c.find_key-from.ensures, sym (c.one_finite.ensures m.vertices.now m.arcs.now m.edges.now m.faces.now m.counters.now) ∙ c.if-one_finite.true, ← c.one_finite-then-one_finite.ensures m.vertices.now m.arcs.now m.edges.now m.faces.now m.counters.now) (sym (and-true c.one_finite-then-one_finite.result))

pub returns-else-one_finite : goal.returns-else-one_finite
unfolding moves_finite moved_finite every
returns-else-one_finite c =
    let m = c.args.mesh in
    rw (c.in-ArcExtrude.is, ← c.find_key-to.ensures, sym (c.one_finite.ensures m.vertices.now m.arcs.now m.edges.now m.faces.now m.counters.now) ∙ c.if-one_finite.false) c.if-one_finite.false

pub returns-in_default : goal.returns-in_default
returns-in_default c = none-moved (mesh_in c.args.mesh) c.args.edit c.in_default.not-FaceExtrude c.in_default.not-ArcExtrude
