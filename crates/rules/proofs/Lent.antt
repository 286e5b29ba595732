-- The same tables, as long as they were: of a mesh to itself, and over two steps.
use mathlib.Core.Path.{refl, ◌∙◌}
use Rattle.rules.specs.declared.MeshMut.{MeshMut}
use Rattle.rules.specs.Lent.{SameMesh}

pub same-itself : (m : MeshMut) → SameMesh m m
same-itself m = record {
  same_vertices = refl;
  same_positions = refl;
  same_arcs = refl;
  same_edges = refl;
  same_faces = refl;
  same_counters = refl;
  long_vertices = refl;
  long_positions = refl;
  long_arcs = refl;
  long_edges = refl;
  long_faces = refl;
}

pub same-then : {m n o : MeshMut} → SameMesh m n → SameMesh n o → SameMesh m o
same-then p q = record {
  same_vertices = q.same_vertices ∙ p.same_vertices;
  same_positions = q.same_positions ∙ p.same_positions;
  same_arcs = q.same_arcs ∙ p.same_arcs;
  same_edges = q.same_edges ∙ p.same_edges;
  same_faces = q.same_faces ∙ p.same_faces;
  same_counters = q.same_counters ∙ p.same_counters;
  long_vertices = q.long_vertices ∙ p.long_vertices;
  long_positions = q.long_positions ∙ p.long_positions;
  long_arcs = q.long_arcs ∙ p.long_arcs;
  long_edges = q.long_edges ∙ p.long_edges;
  long_faces = q.long_faces ∙ p.long_faces;
}
