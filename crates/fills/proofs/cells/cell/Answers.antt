-- `fills::cells::cell` meets its contract. Assumes nothing.
use Prim.Native.Nat.{ℕ, ◌+◌, ◌≤◌, ◌<◌}
use native.Mathlib.Omega.{arith}
use mathlib.Core.Path.{◌≡◌, ◌∙◌}
use lib.ListN.{length, take}
use Rattle.file.specs.File.{total}
use Rattle.bodies.specs.declared.kinds.Kind.{Kind}
use Rattle.bodies.specs.declared.records.LaidFile.{LaidFile}
use Rattle.bodies.specs.Bodies.{widths, records_in, place}
use Rattle.bodies.specs.Kinds.{number}
use Rattle.bodies.proofs.Files.{held}
use Rattle.fills.specs.Fills.{FourBytes}
use Rattle.fills.proofs.Widths.{cell-inside, four-cell}
use Rattle.fills.proofs.cells.cell.Goals as goal

within : (f : LaidFile) (kind : Kind) (i j at before : ℕ) → (i < length (records_in f.text.now (number kind))) × FourBytes (number kind) j
    → at ≡ place f.text.now (number kind) i → before ≡ total (take j (widths (number kind))) → at + before + 4 ≤ length f.text.now
within f kind i j at before h ea eb = omega (arith, cell-inside f.text.now (number kind) i j (held f kind i h.0) h.1)

pub overflow_add-record_at : goal.overflow_add-record_at
overflow_add-record_at c =
    let x = c.args in
    omega (arith, within x.file x.kind x.i x.j c.record_at.result c.bytes_before.result c.requires c.record_at.ensures c.bytes_before.ensures)

pub number4-requires : goal.number4-requires
number4-requires c =
    let x = c.args in
    within x.file x.kind x.i x.j c.record_at.result c.bytes_before.result c.requires c.record_at.ensures c.bytes_before.ensures

pub returns : goal.returns
returns c =
    let x = c.args in
    c.number4.ensures
    ∙ rw (c.record_at.ensures, c.bytes_before.ensures)
    (four-cell x.file.text.now (number x.kind) x.i x.j (held x.file x.kind x.i c.requires.0) c.requires.1)
