-- What is lent for a call: a mesh or a room as a value, and that it is still the same tables, as long as they were.
-- Document 01: "Tables are lent".
use Rattle.std.specs.Prelude.{◌≡◌, length, Result, Ok, Err}
use Rattle.rules.specs.Answer.{Answer}
use Rattle.rules.specs.Answer.{Key, Arc, Mark, Arity, Done, Refused}
use Rattle.rules.specs.declared.MeshMut.{MeshMut}
use Rattle.rules.specs.declared.MeshRef.{MeshRef}
use Rattle.rules.specs.declared.Refusal.{Refusal}
use Rattle.rules.specs.declared.RoomMut.{RoomMut}
use Rattle.rules.specs.declared.RoomRef.{RoomRef}
use Rattle.rules.specs.declared.Told.{Told}
use Rattle.rules.specs.declared.Told.TheVariants as Tell
use Rattle.rules.specs.Mesh.{Mesh, Room, mesh, room}

-- ---- what the lent tables hold

abbrev pub mesh_in : MeshRef → Mesh
mesh_in m = mesh m.vertices.now m.positions.now m.arcs.now m.edges.now m.faces.now m.counters.now

abbrev pub mesh_of : MeshMut → Mesh
mesh_of m = mesh m.vertices.now m.positions.now m.arcs.now m.edges.now m.faces.now m.counters.now

abbrev pub room_in : RoomRef → Room
room_in r = room r.vertices.now r.positions.now r.arcs.now r.edges.now r.faces.now

abbrev pub room_of : RoomMut → Room
room_of r = room r.vertices.now r.positions.now r.arcs.now r.edges.now r.faces.now

-- the tables of a mesh, as a room has them
abbrev pub tables_of : Mesh → Room
tables_of m = room m.vertices m.positions m.arcs m.edges m.faces

-- ---- the same tables, as long as they were

pub record SameMesh (m n : MeshMut) : Type 0 where
  pub same_vertices : n.vertices.ghost_name ≡ m.vertices.ghost_name
  pub same_positions : n.positions.ghost_name ≡ m.positions.ghost_name
  pub same_arcs : n.arcs.ghost_name ≡ m.arcs.ghost_name
  pub same_edges : n.edges.ghost_name ≡ m.edges.ghost_name
  pub same_faces : n.faces.ghost_name ≡ m.faces.ghost_name
  pub same_counters : n.counters.ghost_name ≡ m.counters.ghost_name
  pub long_vertices : length n.vertices.now ≡ length m.vertices.now
  pub long_positions : length n.positions.now ≡ length m.positions.now
  pub long_arcs : length n.arcs.now ≡ length m.arcs.now
  pub long_edges : length n.edges.now ≡ length m.edges.now
  pub long_faces : length n.faces.now ≡ length m.faces.now

pub record SameRoom (r s : RoomMut) : Type 0 where
  pub same_vertices : s.vertices.ghost_name ≡ r.vertices.ghost_name
  pub same_positions : s.positions.ghost_name ≡ r.positions.ghost_name
  pub same_arcs : s.arcs.ghost_name ≡ r.arcs.ghost_name
  pub same_edges : s.edges.ghost_name ≡ r.edges.ghost_name
  pub same_faces : s.faces.ghost_name ≡ r.faces.ghost_name
  pub long_vertices : length s.vertices.now ≡ length r.vertices.now
  pub long_positions : length s.positions.now ≡ length r.positions.now
  pub long_arcs : length s.arcs.now ≡ length r.arcs.now
  pub long_edges : length s.edges.now ≡ length r.edges.now
  pub long_faces : length s.faces.now ≡ length r.faces.now

-- ---- what a function gives back, as an answer

abbrev pub answer_by : {A : Type 0} → (A → Answer) → Result A Refusal → Answer
answer_by given (Ok a) = given a
answer_by given (Err r) = Refused r

-- what an accepted call tells
abbrev pub given_by : Told → Answer
given_by (Tell.Key k) = Key k
given_by (Tell.Arc s d) = Arc s d
given_by (Tell.Mark n) = Mark n
given_by (Tell.Arity n) = Arity n
given_by Tell.Done = Done

abbrev pub answered : Result Told Refusal → Answer
answered = answer_by given_by

-- checks: done, or a refusal
abbrev pub allowed : Result (Unit {0}) Refusal → Answer
allowed = answer_by (λ _. Done)
