-- `fills::cells::bits` meets its contract. Assumes nothing.
use Prim.Native.Nat.{ℕ, ◌+◌, ◌*◌, ◌≤◌, ◌<◌}
use native.Mathlib.Omega.{arith}
use mathlib.Core.Path.{◌≡◌, ◌∙◌}
use lib.ListN.{length}
use Rattle.bodies.specs.declared.kinds.Kind.TheVariants.{Vertices}
use Rattle.bodies.specs.declared.records.LaidFile.{LaidFile}
use Rattle.bodies.specs.Bodies.{records_in, place}
use Rattle.bodies.proofs.Files.{held}
use Rattle.fills.proofs.Widths.{bits_inside, eight-cell}
use Rattle.fills.proofs.cells.bits.Goals as goal

within : (f : LaidFile) (i j at : ℕ) → i < length (records_in f.text.now 0) → j < 3 → at ≡ place f.text.now 0 i → at + 4 + 8 * j + 8 ≤ length f.text.now
within f i j at l h e = omega (arith, bits_inside f.text.now i j (held f Vertices i l) h)

pub overflow_add-record_at : goal.overflow_add-record_at
overflow_add-record_at c = let x = c.args in omega (arith, within x.file x.i x.j c.record_at.result c.requires.0 c.requires.1 c.record_at.ensures)

pub overflow_add-record_at-2 : goal.overflow_add-record_at-2
overflow_add-record_at-2 c = let x = c.args in omega (arith, within x.file x.i x.j c.record_at.result c.requires.0 c.requires.1 c.record_at.ensures)

pub number8-requires : goal.number8-requires
number8-requires c = let x = c.args in within x.file x.i x.j c.record_at.result c.requires.0 c.requires.1 c.record_at.ensures

pub returns : goal.returns
returns c =
    let x = c.args in
    (c.number8.ensures.0 ∙ rw c.record_at.ensures (eight-cell x.file.text.now x.i x.j (held x.file Vertices x.i c.requires.0) c.requires.1), c.number8.ensures.1)
