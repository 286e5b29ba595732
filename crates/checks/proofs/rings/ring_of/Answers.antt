-- `checks::rings::ring_of` meets its contract. The walk from the face's arc, without how it ended. Assumes nothing.
use mathlib.Core.Path.{ap, ◌∙◌}
use Rattle.rules.specs.declared.Walk.{Walk}
use Rattle.rules.specs.Link.{ring, walk_of}
use Rattle.checks.proofs.rings.ring_of.Goals as goal

pub returns : goal.returns
unfolding ring walk_of
returns c = λ vs ps es ks. ap (λ (x : Walk). x.links) c.ring.ensures ∙ rw c.cell.ensures
