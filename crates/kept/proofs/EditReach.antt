-- How far every edit reaches, for every sound mesh with its three counters, and all keys (specs/Local): behind the tests of a call it leaves every
-- clause of Sound but perhaps that on rings, and every row away from its vertices as it was; and where it is accepted, each face that it
-- leaves was there before and was spared, or has come since, with a sound ring, and has gained nothing from there on.
use Prim.Native.Nat.{ℕ}
use mathlib.Core.Path.{◌≡◌, refl}
use mathlib.Core.List.{List, [], ◌∷◌}
use lib.ListN.{length}
use lib.Dec.{T, leb→le}
use Rattle.rules.specs.declared.Edit.{Edit}
use Rattle.rules.specs.declared.Edit.TheVariants.{VertexInsert, FaceInsert, FaceRemove, FaceSplit, FacePoke, FaceBridge, FaceExtrude, ArcBridge, ArcExtrude}
use Rattle.rules.specs.Mesh.{Mesh, ring_limit, source, dest, find_vertex, find_face}
use Rattle.rules.specs.Link.{ring, new_vertex}
use Rattle.rules.specs.Step.{accepted}
use Rattle.rules.specs.Edit.{remove, remove_work, corners, arc_bridge_work}
use Rattle.rules.specs.Sound.{sound}
use Rattle.rules.specs.Call.{needs, given, by_keys, arc_by_keys, checks, moves_finite, insert_need, need, room_for, work}
use Rattle.proved.proofs.Clauses.{facts}
use Rattle.kept.specs.Frame.{ThreeCounters}
use Rattle.kept.specs.Local.{among, Reach}
use Rattle.kept.proofs.Base.{but-rings}
use Rattle.kept.proofs.Counted.{met}
use Rattle.kept.proofs.Find.{Between, find-back}
use Rattle.kept.proofs.Vertex.{vertex-room, vertex-kept}
use Rattle.kept.proofs.Remove.{remove-kept, found-face}
use Rattle.kept.proofs.Passed.{passed, keys-perimeter}
use Rattle.kept.proofs.Along.{along-start}
use Rattle.kept.proofs.Local.{vertex-local, removed-local, remove-since, vertex-since, reaching-by, reach, insert-reaching}
use Rattle.kept.proofs.Split.{split_need, split-passed, split-reaching}
use Rattle.kept.proofs.Poke.{poke_need, poke-reaching}
use Rattle.kept.proofs.Bridge.{bridge_need, faces-passed, bridge-reaching}
use Rattle.kept.proofs.Extrude.{extrude_need, extrude-reaching}
use Rattle.kept.proofs.ArcBridge.{bridge-passed, corners-perimeter}
use Rattle.kept.proofs.ArcExtrude.{arc-extrude-reaching}
use Rattle.kept.proofs.NeedSuffices.{found-arc, arc-known, ends-finite}

-- the corners of two arcs that are found by keys are the keys' vertices
found-corners : (m : Mesh) (a b c d x y : ℕ) → Between m.arcs a b x → Between m.arcs c d y → corners m x y ≡ a ∷ b ∷ c ∷ d ∷ []
unfolding corners
found-corners m a b c d x y p q = rw (p.leaves, p.arrives, q.leaves, q.arrives)

-- how far every edit reaches
pub edit-reach : (m : Mesh) (e : Edit) (keys : List ℕ) → ThreeCounters m → T (sound m) → T (given e keys) → T (accepted (checks m e keys)) → T (moves_finite m e) → T (room_for m (need m e keys)) → Reach m e keys
unfolding given checks moves_finite need work among remove_work arc_by_keys arc_bridge_work
edit-reach m (VertexInsert p) keys k t g c f r =
    let s = facts m t in
    let room = vertex-room m p keys r in
    reach m (VertexInsert p) keys _ (along-start (new_vertex m p) (new_vertex m p) _ (vertex-since m p room s) (but-rings (new_vertex m p) (vertex-kept m p room s k g), vertex-local m p room s) refl)
edit-reach m (FaceInsert mark) keys k t g c f r =
    let per = by_keys m keys in
    let q = passed m keys per c in
    reach m (FaceInsert mark) keys _
    (insert-reaching m (but-rings m (facts m t)) per (keys-perimeter m keys (leb→le (length keys) ring_limit g) q) k (met m (insert_need m per) r) q.no-hair q.no-conflict mark)
edit-reach m (FaceRemove f') keys k t g c f r =
    let s = facts m t in
    let face = find_face m f' in
    let u = (find-back m.faces f' (found-face face c)).0 in
    reach m (FaceRemove f') keys _ (along-start (remove m face) (remove m face) _ (remove-since m s face u) (but-rings (remove m face) (remove-kept m s face u), removed-local m s face u) refl)
edit-reach m (FaceSplit f' a b) keys k t g c f r =
    let from = find_vertex m a in
    let to = find_vertex m b in
    let face = find_face m f' in
    let q = split-passed m face from to c in
    reach m (FaceSplit f' a b) keys _ (split-reaching m (facts m t) k face from to (find-back m.faces f' q.0).0 q.1 q.2 (met m (split_need m from to) r))
edit-reach m (FacePoke f' p) keys k t g c f r =
    let face = find_face m f' in
    reach m (FacePoke f' p) keys _ (poke-reaching m (facts m t) k face (find-back m.faces f' (found-face face c)).0 p g (met m (poke_need (length (ring m face))) r))
edit-reach m (FaceBridge f' g') keys k t g c f r =
    let first = find_face m f' in
    let second = find_face m g' in
    let q = faces-passed m first second c in
    reach m (FaceBridge f' g') keys _
    (bridge-reaching m (facts m t) k first second (find-back m.faces f' q.first-known).0 (find-back m.faces g' q.second-known).0 q.two q.even (met m (bridge_need (length (ring m first))) r))
edit-reach m (FaceExtrude f' move) keys k t g c f r =
    let face = find_face m f' in
    reach m (FaceExtrude f' move) keys _
    (extrude-reaching m (facts m t) k face (find-back m.faces f' (found-face face c)).0 move f (met m (extrude_need (length (ring m face))) r))
edit-reach m (ArcBridge a b c' d) keys k t g c f r =
    let x = arc_by_keys m a b in
    let y = arc_by_keys m c' d in
    let q = bridge-passed m x y c in
    let s = but-rings m (facts m t) in
    let h = found-arc m a b q.first-known in
    let i = found-arc m c' d q.second-known in
    let e = found-corners m (find_vertex m a) (find_vertex m b) (find_vertex m c') (find_vertex m d) x y h i in
    reach m (ArcBridge a b c' d) keys _
    (reaching-by e
    (insert-reaching m s (corners m x y) (corners-perimeter m s x y h.exists i.exists q.insert-passed) k (met m (insert_need m (corners m x y)) r) q.insert-passed.no-hair q.insert-passed.no-conflict 0))
edit-reach m (ArcExtrude a b move) keys k t g c f r =
    let x = arc_by_keys m a b in
    let h = found-arc m a b (arc-known m x c) in
    let fin = ends-finite m move (find_vertex m a) (find_vertex m b) x h f in
    let e : source m x ∷ dest m x ∷ [] ≡ find_vertex m a ∷ find_vertex m b ∷ [] = rw (h.leaves, h.arrives) in
    reach m (ArcExtrude a b move) keys _
    (reaching-by e
    (arc-extrude-reaching m (facts m t) k x h.exists move fin.0 fin.1 (met m (needs 2 3 1 1) r)))
