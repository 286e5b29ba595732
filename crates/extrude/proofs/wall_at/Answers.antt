use native.Mathlib.Omega.{arith}
use mathlib.Core.Path.{refl, ◌∙◌}
use Rattle.rules.specs.Mesh.{places_of, links_of}
use Rattle.rules.specs.Extrude.{wall}
use Rattle.extrude.proofs.wall_at.Goals as goal

pub place_after-j-requires : goal.place_after-j-requires
place_after-j-requires c = omega (arith, c.size-n.ensures)

pub returns : goal.returns
unfolding links_of places_of wall
returns c = c.from_keys.ensures ∙ rw (← c.size-n.ensures, ← c.place_after-j.ensures, ← c.item.ensures, ← c.item-2.ensures, ← c.item-3.ensures, ← c.item-4.ensures) refl
