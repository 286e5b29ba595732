-- `bodies::layout::space` meets its contract, kind by kind. Assumes nothing.
use native.Mathlib.Omega.{arith}
use mathlib.Core.Path.{refl}
use Rattle.file.specs.File.{total, body_length}
use Rattle.bodies.proofs.layout.space.Goals as goal
use Rattle.bodies.proofs.layout.space.Goals.{in-Vertices, in-Arcs, in-Edges, in-Faces}

pub returns : goal.returns
unfolding total body_length
returns c =
    elim c.match-kind.branch [
      | in-Vertices w ↦ rw (w.width-is, w.in-Vertices.is) (refl, omega arith)
      | in-Arcs w ↦ rw (w.width-is, w.in-Arcs.is) (refl, omega arith)
      | in-Edges w ↦ rw (w.width-is, w.in-Edges.is) (refl, omega arith)
      | in-Faces w ↦ rw (w.width-is, w.in-Faces.is) (refl, omega arith)
    ]
