-- `nearby::vertices::mark_ring` meets its contract. Assumes nothing.
use mathlib.Core.Path.{ap, ◌∙◌}
use Rattle.rules.specs.Mesh.{mesh, find_key, links_of}
use Rattle.rules.specs.Link.{ring_vertices}
use Rattle.checks.proofs.Bounds.{vertices-few}
use Rattle.nearby.proofs.Marking.{marks-held}
use borrow.Author.Rules.{rules}
use Rattle.nearby.proofs.vertices.mark_ring.Goals as goal

pub returns : goal.returns
returns c = λ v p e k.
    let s = c.args in
    let m = mesh v p s.arcs.now e s.faces.now k in
    let f = c.find_key-f in
    let is = c.vertices_of.ensures v p e k ∙ ap (λ g. links_of (ring_vertices m g)) f.ensures in
    marks-held s.seen.now _ (ring_vertices m (find_key s.faces.now s.key)) c.vertices_of.result (search rules) (vertices-few m (find_key s.faces.now s.key)) is c.mark.ensures
