-- What a file that is laid out, and one whose keys rise too, says of the records of a kind.
use Prim.Native.Nat.{ℕ, ◌+◌, ◌≤◌, ◌<◌}
use lib.ListN.{length}
use Rattle.bodies.specs.declared.kinds.Kind.{Kind}
use Rattle.bodies.specs.declared.records.LaidFile.{LaidFile}
use Rattle.bodies.specs.declared.records.WholeFile.{WholeFile}
use Rattle.bodies.specs.Bodies.{records_in, place, Holds, Whole}
use Rattle.bodies.specs.Kinds.{number}
use Rattle.bodies.proofs.InOrder.{number-small}
use Rattle.bodies.proofs.Halving.{Rises}
use Rattle.bodies.proofs.Keys.{number_at, numbers-rise, record-inside}

pub held : (f : LaidFile) (kind : Kind) (i : ℕ) → i < length (records_in f.text.now (number kind)) → Holds f.text.now (number kind) i
held f kind i l = record { laid = f.laid; known = number-small kind; within = l }

-- every record has three cells of 4 bytes or more
pub three-cells : (f : LaidFile) (kind : Kind) (i : ℕ) → i < length (records_in f.text.now (number kind)) → place f.text.now (number kind) i + 12 ≤ length f.text.now
three-cells f kind i l = record-inside f.text.now (number kind) i (held f kind i l)

pub whole : (w : WholeFile) → Whole w.file.text.now
whole w = record { laid = w.file.laid; in_place = w.in_place }

pub all-rise : (w : WholeFile) (kind : Kind) → Rises (number_at w.file.text.now (number kind)) (length (records_in w.file.text.now (number kind)))
all-rise w kind = numbers-rise w.file.text.now (number kind) (whole w) (number-small kind)
