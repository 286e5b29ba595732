-- The records of the links passed stand in their places, and the rest is what is left of the text. Assumes nothing.
use Prim.Native.Nat.{◌+◌, ◌-◌}
use mathlib.Core.Path.{◌≡◌}
use lib.ListN.{length, drop}
use Rattle.rules.specs.Lent.{mesh_in}
use Rattle.file.specs.File.{body_length}
use Rattle.writes.specs.Writing.{put_text, links_text, widths_of}
use Rattle.writes.proofs.bodies.put_links.Given as goal

abbrev pub invariant-loop-x : goal.invariant-loop-x
invariant-loop-x l =
    (length l.out ≡ length l.initial.out)
    × ((l.place + body_length (widths_of l.kind) (length l.links - l.x-index) ≡ l.at + body_length (widths_of l.kind) (length l.links))
    × (put_text l.initial.out l.at (links_text (mesh_in l.mesh) l.kind l.links) ≡ put_text l.out l.place (links_text (mesh_in l.mesh) l.kind (drop l.x-index l.links))))
