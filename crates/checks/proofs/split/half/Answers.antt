-- `checks::split::half` meets its contract. The ring's vertices are read back as they are, so the places are those in the ring. Assumes nothing.
use mathlib.Core.Path.{◌≡◌, ap, ◌∙◌}
use Rattle.rules.specs.Mesh.{mesh, list_of}
use Rattle.rules.specs.Link.{ring_vertices}
use Rattle.rules.specs.Edit.{half}
use Rattle.checks.proofs.Bounds.{vertices-back}
use Rattle.checks.proofs.split.half.Goals as goal

pub returns : goal.returns
unfolding half
returns c =
    let a = c.args in
    λ vs ps es ks.
    let back : list_of c.vertices_of-points.result ≡ ring_vertices (mesh vs ps a.arcs.now es a.faces.now ks) a.f = ap list_of (c.vertices_of-points.ensures vs ps es ks) ∙ vertices-back (mesh vs ps a.arcs.now es a.faces.now ks) a.f in
    c.stretch.ensures ∙ rw (c.place_of.ensures, c.place_of-2.ensures, back)
