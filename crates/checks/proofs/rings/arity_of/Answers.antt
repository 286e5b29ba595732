-- `checks::rings::arity_of` meets its contract. A ring of at most 64 is read back as it is. Assumes nothing.
use mathlib.Core.Path.{◌∙◌}
use Rattle.rules.specs.Mesh.{mesh}
use Rattle.checks.proofs.Bounds.{ring-back}
use Rattle.checks.proofs.rings.arity_of.Goals as goal

pub returns : goal.returns
returns c =
    let a = c.args in
    λ vs ps es ks. c.size.ensures ∙ rw (c.ring_of.ensures vs ps es ks, ring-back (mesh vs ps a.arcs.now es a.faces.now ks) a.f)
