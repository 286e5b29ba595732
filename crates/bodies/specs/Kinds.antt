-- The number of a kind: vertices 0, arcs 1, edges 2, faces 3.
use Prim.Native.Nat.{ℕ}
use Rattle.bodies.specs.declared.kinds.Kind.{Kind}
use Rattle.bodies.specs.declared.kinds.Kind.TheVariants.{Vertices, Arcs, Edges, Faces}

abbrev pub number : Kind → ℕ
number Vertices = 0
number Arcs = 1
number Edges = 2
number Faces = 3
