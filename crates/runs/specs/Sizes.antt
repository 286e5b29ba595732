-- The tables that the script program lends: document 01's "with tables of 64 vertices, 128 edges and 64 faces".
use Rattle.std.specs.Prelude.{◌≡◌, length}
use Rattle.rules.specs.Mesh.{Mesh}

-- tables of these sizes, with a position for each vertex and two arcs for each edge
pub record ScriptSizes (m : Mesh) : Type 0 where
  pub for-vertices : length m.vertices ≡ 64
  pub for-positions : length m.positions ≡ 64
  pub for-arcs : length m.arcs ≡ 256
  pub for-edges : length m.edges ≡ 128
  pub for-faces : length m.faces ≡ 64
