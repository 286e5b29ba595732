-- An edit that is about to begin, the room for it, and the arcs near it, listed.
use Rattle.std.specs.Prelude.{ℕ, ◌≤◌, ◌≡◌, Bool, true, List, T, length}
use Rattle.rules.specs.declared.Edit.{Edit}
use Rattle.rules.specs.Table.{has}
use Rattle.rules.specs.Mesh.{Mesh, Room}
use Rattle.rules.specs.Step.{accepted}
use Rattle.rules.specs.Sound.{sound}
use Rattle.kept.specs.Frame.{ThreeCounters}
use Rattle.kept.specs.Local.{among}
use Rattle.pairs.specs.Near.{is_marked}
use Rattle.nearby.specs.Rows.{Listed}
use Rattle.order.specs.declared.settle.Way.TheVariants.{Near}
use Rattle.order.specs.Transaction.{before_work, way_of}

-- the mesh is sound, and nothing before the work refuses the edit
pub record Begun (m : Mesh) (e : Edit) (keys : List ℕ) : Type 0 where
  pub three : ThreeCounters m
  pub whole : sound m ≡ true
  pub passed : accepted (before_work m e keys) ≡ true

-- a room whose tables are not shorter than those of m
pub record Fits (m r : Room) : Type 0 where
  pub vertices : length m.vertices ≤ length r.vertices
  pub positions : length m.positions ≤ length r.positions
  pub arcs : length m.arcs ≤ length r.arcs
  pub edges : length m.edges ≤ length r.edges
  pub faces : length m.faces ≤ length r.faces

-- in the list of links stand all arcs that leave or reach a vertex with a mark, and each vertex of the edit has one; the rings near the edit tell
pub record NearListed (m : Mesh) (e : Edit) (keys : List ℕ) (list : List ℕ) : Type 0 where
  pub seen : List Bool
  pub near : way_of e ≡ Near
  pub marked : (v : ℕ) → T (has (among m e keys) v) → is_marked seen v ≡ true
  pub listed : Listed m.arcs m.edges seen list
