use native.Mathlib.Omega.{arith}
use mathlib.Core.Path.{refl, ◌∙◌}
use Rattle.rules.specs.Mesh.{places_of, links_of}
use Rattle.poke.proofs.part.Goals as goal

pub place_after-requires : goal.place_after-requires
place_after-requires c = omega (arith, c.size-n.ensures)

pub returns : goal.returns
unfolding links_of places_of
returns c = c.from_keys.ensures ∙ rw (← c.size-n.ensures, ← c.place_after.ensures, ← c.item.ensures, ← c.item-2.ensures) refl
