-- The loop has written the lines of the links that it passed. Assumes nothing.
use Prim.Native.Nat.{◌*◌, ◌≤◌}
use mathlib.Core.Path.{◌≡◌}
use lib.ListN.{length, take}
use Rattle.rules.specs.Lent.{mesh_in}
use Rattle.script.specs.Texts.{written, wrote}
use Rattle.listing.specs.Lines.{line_of, joined_lines}
use Rattle.listing.proofs.listed.put_records.Given as goal

abbrev pub invariant-loop-x : goal.invariant-loop-x
invariant-loop-x l =
    (l.at ≤ 128 * l.x-index) × ((length l.out ≡ length l.initial.out)
    × (written l.out l.at ≡ wrote l.initial.out 0 (joined_lines (line_of (mesh_in l.mesh) l.kind) (take l.x-index l.x-items))))
