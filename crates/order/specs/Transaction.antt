-- A call in the pieces in which the code goes through it: what is decided before the first change, how it is known that what an edit leaves is sound, and
-- what is left when all is settled.
use Rattle.std.specs.Prelude.{◌≡◌, ◌≤◌, not, cond, List, ℕ, length, Option, IfSome}
use Rattle.rules.specs.Answer.{Answer}
use Rattle.rules.specs.Answer.{Done, Refused}
use Rattle.rules.specs.declared.Refusal.TheVariants.{Argument, NoRoom}
use Rattle.rules.specs.declared.Edit.{Edit}
use Rattle.rules.specs.declared.Edit.TheVariants.{VertexInsert, FaceInsert, FaceRemove, FaceSplit, FacePoke, FaceBridge, FaceExtrude, ArcBridge, ArcExtrude}
use Rattle.order.specs.declared.settle.Way.{Way}
use Rattle.order.specs.declared.settle.Way.TheVariants.{Keeps, Near}
use Rattle.rules.specs.Mesh.{Mesh, mesh, Room}
use Rattle.rules.specs.Step.{Step, accepted}
use Rattle.rules.specs.Sound.{sound}
use Rattle.rules.specs.Call.{kept, given, checks, moves_finite, room_for, need}
use Rattle.nearby.specs.Rings.{rings_hold}

-- what is answered and which mesh is left
pub record Left : Type 0 where
  pub answer : Answer
  pub mesh : Mesh

abbrev pub left : Answer → Mesh → Left
left a m = record { answer = a; mesh = m }

-- a step of an edit over the mesh m: its answer, and its tables if it is accepted
unfoldable pub over : Mesh → Step → Left
over m s = left s.answer (kept m s)

-- tables with counters, as a mesh
abbrev pub with_counters : Room → List ℕ → Mesh
with_counters r k = mesh r.vertices r.positions r.arcs r.edges r.faces k

-- tables of the same sizes
pub record SameSize (r s : Room) : Type 0 where
  pub vertices : length r.vertices ≡ length s.vertices
  pub positions : length r.positions ≡ length s.positions
  pub arcs : length r.arcs ≡ length s.arcs
  pub edges : length r.edges ≡ length s.edges
  pub faces : length r.faces ≡ length s.faces

-- what is decided before the first change: 2 for what the caller gave, the Rust's checks, 2 for moved coordinates, 7; or done
unfoldable pub before_work : Mesh → Edit → List ℕ → Answer
before_work m e keys =
    cond (not (given e keys)) (Refused Argument)
    (cond (not (accepted (checks m e keys))) (checks m e keys)
    (cond (not (moves_finite m e)) (Refused Argument) (cond (not (room_for m (need m e keys))) (Refused NoRoom) Done)))

-- ---- how it is known that what an edit leaves is sound

-- Keeps: kept by proof; it refuses nothing in mid-edit, so it is accepted before its first change. Near: told by the rings near it, since it reaches no
-- further. Full: told by the full check
unfoldable pub way_of : Edit → Way
way_of (VertexInsert p) = Keeps
way_of (FaceInsert mark) = Near
way_of (FaceRemove f) = Keeps
way_of (FaceSplit f s d) = Near
way_of (FacePoke f p) = Near
way_of (FaceBridge f g) = Near
way_of (FaceExtrude f move) = Near
way_of (ArcBridge a b c d) = Near
way_of (ArcExtrude s d move) = Near

-- the rings near an edit tell whether it leaves m sound, where its arcs are listed; `from` is the face counter before it
abbrev pub RingsTell : Mesh → Option (List ℕ) → ℕ → Type 0
RingsTell m near from = IfSome near (λ list. (length m.faces ≤ 4096) × (rings_hold m.arcs m.faces list from ≡ sound m))
