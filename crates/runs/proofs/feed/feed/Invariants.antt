-- What is left to feed, written behind what is written, is the whole.
use Rattle.std.proofs.Common.{◌≡◌, ◌*◌, ◌≤◌, length, drop}
use Rattle.rules.specs.Lent.{SameMesh, SameRoom, mesh_of, room_of}
use Rattle.runs.specs.Feed.{handed_at, unwritten, fed}
use Rattle.runs.proofs.feed.feed.Given as goal

abbrev pub invariant-loop-b : goal.invariant-loop-b
invariant-loop-b l =
    SameMesh l.initial.mesh l.mesh × SameRoom l.initial.room1 l.room1 × SameRoom l.initial.room2 l.room2 × (l.at ≤ 64 * l.b-index) × (length l.out ≡ length l.initial.out)
    × (handed_at l.initial.out 0 (fed (unwritten (mesh_of l.initial.mesh) (room_of l.initial.room1) (room_of l.initial.room2) l.initial.line) l.chunk)
    ≡ handed_at l.out l.at (fed (unwritten (mesh_of l.mesh) (room_of l.room1) (room_of l.room2) l.line) (drop l.b-index l.chunk)))
