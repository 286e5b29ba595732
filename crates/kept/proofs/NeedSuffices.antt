-- After the test of the need no edit runs out of rows or keys: for every edit, every sound mesh with its three counters, and all keys. Behind the
-- tests of a call, in their order, an edit asks at no step for a row or a key where none is left, makes no more records than its need says,
-- and none of them is lost (specs/Suffices). That the counters are three is the type of the code's parameter. Without the test it is no theorem: in a
-- mesh without rows, where the test fails, an edit does run out (Witness.runs-out).
use Prim.Native.Nat.{ℕ, ◌≤◌, zero-le}
use mathlib.Core.Path.{◌≡◌, refl}
use mathlib.Core.List.{List, [], ◌∷◌}
use lib.ListN.{length}
use lib.Dec.{T, leb→le}
use lib.Ieee.Fits.{and_l, and_r}
use borrow.Author.Tests.{eq-eqb}
use Rattle.rules.specs.declared.Move.{Move}
use Rattle.rules.specs.declared.Edit.{Edit}
use Rattle.rules.specs.declared.Edit.TheVariants.{VertexInsert, FaceInsert, FaceRemove, FaceSplit, FacePoke, FaceBridge, FaceExtrude, ArcBridge, ArcExtrude}
use Rattle.rules.specs.Table.{every}
use Rattle.rules.specs.Mesh.{Mesh, Room, ring_limit, source, dest, find_vertex, find_face}
use Rattle.rules.specs.Point.{finite_position}
use Rattle.rules.specs.Link.{ring}
use Rattle.rules.specs.Step.{told, accepted}
use Rattle.rules.specs.Edit.{remove, remove_work, corners}
use Rattle.rules.specs.Extrude.{moved_position, moved_finite, arc_extrude_checks}
use Rattle.rules.specs.Sound.{sound}
use Rattle.rules.specs.Call.{needs, given, by_keys, arc_by_keys, checks, moves_finite, insert_need, need, room_for, work, call, called}
use Rattle.proved.proofs.Clauses.{facts}
use Rattle.kept.specs.Frame.{ThreeCounters}
use Rattle.makers.specs.Makers.{work_by}
use Rattle.kept.specs.Suffices.{Tally, removed_by, Suffices}
use Rattle.kept.proofs.Base.{but-rings}
use Rattle.kept.proofs.Counted.{met}
use Rattle.kept.proofs.Find.{Between, find-back, arc-back}
use Rattle.kept.proofs.Vertex.{vertex-room}
use Rattle.kept.proofs.Remove.{found-face}
use Rattle.kept.proofs.Passed.{passed, keys-perimeter}
use Rattle.kept.proofs.Makers.{vertex-by}
use Rattle.kept.proofs.Tallies.{tally-vertex, tally-remove}
use Rattle.kept.proofs.Eight.{answer-zero}
use Rattle.kept.proofs.WithinNeed.{suffices, step-made, insert-made}
use Rattle.kept.proofs.Split.{split_need, split-passed, split-made}
use Rattle.kept.proofs.Poke.{poke_need, poke-made}
use Rattle.kept.proofs.Bridge.{bridge_need, faces-passed, bridge-made}
use Rattle.kept.proofs.Extrude.{extrude_need, extrude-made}
use Rattle.kept.proofs.ArcBridge.{bridge-passed, arc-bridge-made}
use Rattle.kept.proofs.ArcExtrude.{arc-extrude-made}

-- an arc that is found by the keys of its ends joins them
pub found-arc : (m : Mesh) (a b : ℕ) → (arc_by_keys m a b ≡ 0 → ⊥) → Between m.arcs (find_vertex m a) (find_vertex m b) (arc_by_keys m a b)
unfolding arc_by_keys
found-arc m a b n = arc-back m.arcs (find_vertex m a) (find_vertex m b) n

pub arc-known : (m : Mesh) (x : ℕ) → T (accepted (arc_extrude_checks m x)) → x ≡ 0 → ⊥
unfolding arc_extrude_checks accepted
arc-known m x h e = rw (eq-eqb x 0 e) at h

-- the moved ends of an arc that is found by keys
pub ends-finite : (m : Mesh) (move : Move) (a b x : ℕ) → Between m.arcs a b x → T (moved_finite m move (b ∷ a ∷ [])) → T (finite_position (moved_position m move (dest m x))) × T (finite_position (moved_position m move (source m x)))
unfolding moved_finite every
ends-finite m move a b x h fin =
    let first = finite_position (moved_position m move b) in
    rw (h.leaves, h.arrives) (and_l first _ fin, and_l (finite_position (moved_position m move a)) _ (and_r first _ fin))

-- the need of every edit suffices
pub need-suffices : (m : Mesh) (e : Edit) (keys : List ℕ) → ThreeCounters m → T (sound m) → T (given e keys) → T (accepted (checks m e keys)) → T (moves_finite m e) → T (room_for m (need m e keys)) → Suffices m e keys
unfolding given checks moves_finite need work work_by removed_by remove_work arc_by_keys
need-suffices m (VertexInsert p) keys k t g c f r =
    let s = facts m t in
    let room = vertex-room m p keys r in
    suffices m (VertexInsert p) keys (met m _ r)
    (λ by like. step-made (by.vertex m p) _ (needs 1 0 0 0) (tally-vertex m s k p room) zero-le zero-le (vertex-by by like m s p room))
need-suffices m (FaceInsert mark) keys k t g c f r =
    let per = by_keys m keys in
    let q = passed m keys per c in
    suffices m (FaceInsert mark) keys (met m _ r)
    (λ by like. insert-made m (but-rings m (facts m t)) per (keys-perimeter m keys (leb→le (length keys) ring_limit g) q) k (met m (insert_need m per) r) mark by like)
need-suffices m (FaceRemove f') keys k t g c f r =
    let face = find_face m f' in
    suffices m (FaceRemove f') keys (met m _ r)
    (λ by like. step-made (remove m face) _ (needs 0 0 0 0) (tally-remove m (facts m t) face (find-back m.faces f' (found-face face c)).0) zero-le zero-le refl)
need-suffices m (FaceSplit f' a b) keys k t g c f r =
    let from = find_vertex m a in
    let to = find_vertex m b in
    let face = find_face m f' in
    let q = split-passed m face from to c in
    suffices m (FaceSplit f' a b) keys (met m _ r)
    (λ by like. split-made m (facts m t) k face from to (find-back m.faces f' q.0).0 q.1 q.2 (met m (split_need m from to) r) by like)
need-suffices m (FacePoke f' p) keys k t g c f r =
    let face = find_face m f' in
    suffices m (FacePoke f' p) keys (met m _ r)
    (λ by like. poke-made m (facts m t) k face (find-back m.faces f' (found-face face c)).0 p g (met m (poke_need (length (ring m face))) r) by like)
need-suffices m (FaceBridge f' g') keys k t g c f r =
    let first = find_face m f' in
    let second = find_face m g' in
    let q = faces-passed m first second c in
    suffices m (FaceBridge f' g') keys (met m _ r)
    (λ by like. bridge-made m (facts m t) k first second (find-back m.faces f' q.first-known).0 (find-back m.faces g' q.second-known).0 q.two q.even (met m (bridge_need (length (ring m first))) r) by like)
need-suffices m (FaceExtrude f' move) keys k t g c f r =
    let face = find_face m f' in
    suffices m (FaceExtrude f' move) keys (met m _ r)
    (λ by like. extrude-made m (facts m t) k face (find-back m.faces f' (found-face face c)).0 move f (met m (extrude_need (length (ring m face))) r) by like)
need-suffices m (ArcBridge a b c' d) keys k t g c f r =
    let x = arc_by_keys m a b in
    let y = arc_by_keys m c' d in
    let q = bridge-passed m x y c in
    suffices m (ArcBridge a b c' d) keys (met m _ r)
    (λ by like. arc-bridge-made m (but-rings m (facts m t)) k x y (found-arc m a b q.first-known).exists (found-arc m c' d q.second-known).exists q (met m (insert_need m (corners m x y)) r) by like)
need-suffices m (ArcExtrude a b move) keys k t g c f r =
    let x = arc_by_keys m a b in
    let h = found-arc m a b (arc-known m x c) in
    let fin = ends-finite m move (find_vertex m a) (find_vertex m b) x h f in
    suffices m (ArcExtrude a b move) keys (met m _ r)
    (λ by like. arc-extrude-made m (facts m t) k x h.exists move fin.0 fin.1 (met m (needs 2 3 1 1) r) by like)

-- so a call that is answered with 0 made just the vertices and faces of its need, and edges within it
pub accepted-made : (m : Mesh) (e : Edit) (keys : List ℕ) (one two : Room) → ThreeCounters m → (told (called m one two (call e) keys).answer).number ≡ 0 → (edges : ℕ) × (edges ≤ (need m e keys).edges) × Tally m (called m one two (call e) keys).mesh (need m e keys).vertices edges (need m e keys).face_keys (removed_by e)
accepted-made m e keys one two k h =
    let w = answer-zero m e keys one two h in
    let b = w.behind in
    let n = need-suffices m e keys k b.was-sound b.numbers-given b.checks-passed b.moves-finite b.need-met in
    let z = n.within in
    (z.edges, z.edges-needed, rw (w.is, ← n.vertices-made w.work-accepted, ← n.faces-made w.work-accepted) z.tally)
