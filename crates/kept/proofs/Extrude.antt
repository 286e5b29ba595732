-- A face extrude: the copies of the ring's n vertices, the top face with n edges at most, and the walls, which stand round the ring like a ladder
-- whose rungs run from the vertices to their copies. So n vertices, 2n edges, n faces and n + 1 face keys suffice.
use Prim.Native.Nat.{ℕ, zero, suc, ◌+◌, ◌*◌, ◌≤◌, ◌<◌, zero-le}
use native.Mathlib.Omega.{arith}
use native.Mathlib.Decide.{ℕ_discrete}
use mathlib.Core.Path.{◌≡◌, refl, ap, sym, subst, ◌∙◌}
use mathlib.Core.List.{List, [], ◌∷◌, ◌++◌}
use mathlib.Core.Logic.{◌⊎◌, inl, inr}
use lib.ListN.{length, get_or, length-append, get_or-append}
use lib.Seq.{get_or-append-add}
use lib.Dec.{T}
use Rattle.rules.specs.declared.Position.{Position}
use Rattle.rules.specs.declared.Move.{Move}
use Rattle.rules.specs.Answer.{Key}
use Rattle.rules.specs.Table.{up_to, after, has}
use Rattle.rules.specs.Mesh.{Mesh, opposite, face_kind, next_key}
use Rattle.rules.specs.Point.{finite_position}
use Rattle.rules.specs.Link.{ring, ring_vertices, free_vertex, new_vertex}
use Rattle.rules.specs.Step.{and_then, answering}
use Rattle.rules.specs.Insert.{insert_checks, insert_work, insert_face}
use Rattle.rules.specs.Edit.{remove}
use Rattle.rules.specs.Extrude.{Copies, moved_position, moved_finite, copy_one, copies, wall, extrude_work}
use Rattle.rules.specs.Call.{Need, needs, insert_need, pairs_without}
use Rattle.proved.specs.Facts.{SoundFacts, IsVertex, IsFace}
use Rattle.proved.proofs.Rows.{every-at}
use Rattle.proved.proofs.Around.{has-place, place-has}
use Rattle.proved.proofs.Ring.{ring-counts, ring-from}
use Rattle.kept.specs.Frame.{ThreeCounters, Met, RoomForVertex}
use Rattle.kept.specs.Perimeter.{Perimeter, corner, following}
use Rattle.kept.specs.Reaches.{KeepsEnds}
use Rattle.makers.specs.Makers.{Makers, ruled, LikeRules, insert_work_by, insert_face_by, copy_one_by, copies_by, extrude_work_by}
use Rattle.kept.specs.Suffices.{Tally, Within}
use Rattle.kept.specs.Local.{Local, FacesSince}
use Rattle.kept.proofs.Base.{but-rings}
use Rattle.kept.proofs.Round.{after-low}
use Rattle.kept.proofs.Free.{old-differs}
use Rattle.kept.proofs.Find.{Between}
use Rattle.kept.proofs.Opposite.{opposite-is}
use Rattle.kept.proofs.Vertex.{vertex-took, moved-from, vertex-ends, vertex-new, vertex-kept}
use Rattle.kept.proofs.Remove.{removed, remove-kept, remove-ends}
use Rattle.kept.proofs.Passed.{Passed, passed, places-apart}
use Rattle.kept.proofs.Halves.{vertices-length, ring-vertex, ring-pair}
use Rattle.kept.proofs.Keeps.{keeps-onto, keeps-between}
use Rattle.kept.proofs.Makers.{vertex-by}
use Rattle.makers.proofs.Ruled.{ruled-like}
use Rattle.kept.proofs.Tallies.{tally-onto, left-met, tally-vertex, tally-remove}
use Rattle.kept.proofs.Along.{Along, along-same, along-so, along-checked, along-answering, along-loop}
use Rattle.kept.proofs.Put.{Put, along-insert}
use Rattle.kept.proofs.Local.{local-onto, vertex-local, removed-local, since-onto, remove-since, vertex-since, Left, Reaching, put-left, put-since}
use Rattle.kept.proofs.Pairs.{pairs-at-most}
use Rattle.kept.proofs.Ladder.{Ladder, Climbed, Stopped, climbed-none, climb, climbed-left, climbed-since}
use Rattle.kept.proofs.WithinNeed.{Made, OnTop, climbed-within, climbed-all}

-- what an extrude at arity n needs
abbrev pub extrude_need : ℕ → Need
extrude_need n = needs n (2 * n) n (n + 1)

module _ (m : Mesh) (s : SoundFacts m) (three : ThreeCounters m) (f : ℕ) (u : IsFace m f) (move : Move) (fin : T (moved_finite m move (ring_vertices m f))) (w : Met m (extrude_need (length (ring m f)))) where
  abbrev vs : List ℕ
  vs = ring_vertices m f

  abbrev n : ℕ
  n = length vs

  ring-limits : (3 ≤ n) × (n ≤ 64)
  ring-limits =
      let e = vertices-length m s f u in
      let h = ring-counts m f (ring-from m f (s.rings f u)) in
      (omega (arith, (s.rings f u).at-least-3), omega (arith, (s.rings f u).at-most-64))

  -- those that it works among
  abbrev near : ℕ → Type 0
  near v = T (has vs v)

  -- ---- the copies

  -- after the first k: so many links, of vertices that are there and were not before; old vertices are moved from where they were
  record Copied (k : ℕ) (c : Copies) : Type 0 where
    sound : SoundFacts c.tables
    keeps : KeepsEnds m c.tables
    tally : Tally m c.tables k 0 0 1
    moved : (v : ℕ) → IsVertex m v → moved_position c.tables move v ≡ moved_position m move v
    as_many : length c.links ≡ k
    there : (i : ℕ) → i < k → IsVertex c.tables (get_or c.links i 0)
    fresh : (i : ℕ) → i < k → IsVertex m (get_or c.links i 0) → ⊥
    local : Local near m c.tables
    since : FacesSince m c.tables

  abbrev begun : Copies
  begun = record { tables = remove m f; links = [] }

  copied_none : Copied 0 begun
  unfolding moved_position
  copied_none =
      record {
        sound = remove-kept m s f u;
        keeps = remove-ends m s f u;
        tally = tally-remove m s f u;
        moved = λ v q. ap (λ (a : Mesh). moved_position a move v) (removed m s f u).1;
        as_many = refl;
        there = λ i l. let z : ⊥ = omega arith in absurd z;
        fresh = λ i l. let z : ⊥ = omega arith in absurd z;
        local = removed-local m s f u;
        since = remove-since m s f u;
      }

  module _ (k : ℕ) (l : k < n) (c : Copies) (h : Copied k c) where
    abbrev v : ℕ
    v = get_or vs k 0

    abbrev place : Position
    place = moved_position c.tables move v

    room : RoomForVertex c.tables
    room =
        let e = vertices-length m s f u in
        let t = h.tally in
        record { a-row = omega (arith, w.vertex-rows, t.vertex-rows); a_key = omega (arith, w.vertex-keys, t.vertex-keys) }

    counters : ThreeCounters c.tables
    counters = omega (arith, h.keeps.counter-rows)

    finite : T (finite_position place)
    unfolding moved_finite
    finite = subst (λ (p : Position). T (finite_position p)) (sym (h.moved v (ring-vertex m s f u k l))) (every-at (λ x. finite_position (moved_position m move x)) vs 0 fin k l)

    copied_more : Copied (suc k) (copy_one move v c)
    unfolding copy_one
    copied_more =
        let more = vertex-ends c.tables place room h.sound in
        record {
          sound = vertex-kept c.tables place room h.sound counters finite;
          keeps = keeps-onto h.keeps more;
          tally = tally-onto h.tally (tally-vertex c.tables h.sound counters place room) (omega arith) (omega arith) (omega arith) (omega arith);
          moved = λ x q. moved-from c.tables place room h.sound x (h.keeps.vertices x q) move ∙ h.moved x q;
          as_many = length-append c.links (free_vertex c.tables ∷ []) ∙ omega (arith, h.as_many);
          there = λ i q. at i q (ℕ_discrete i k);
          fresh = λ i q. none i q (ℕ_discrete i k);
          local = local-onto (but-rings m s) h.local (vertex-local c.tables place room h.sound) (λ x y z. z) (λ x y z. z);
          since = since-onto h.since (omega (arith, h.tally.face-keys)) more (vertex-since c.tables place room h.sound);
        }
      where
        none : (i : ℕ) → i < suc k → Dec (i ≡ k) → IsVertex m (get_or (c.links ++ (free_vertex c.tables ∷ [])) i 0) → ⊥
        none i q (yes e) x =
            let z : i ≡ length c.links + 0 = omega (arith, h.as_many) in
            let y : IsVertex m (free_vertex c.tables) = rw (z, get_or-append-add c.links (free_vertex c.tables ∷ []) 0 0) at x in
            old-differs (vertex-took c.tables place room h.sound) (free_vertex c.tables) (h.keeps.vertices (free_vertex c.tables) y) refl
        none i q (no ne) x = h.fresh i (omega arith) (rw (get_or-append c.links (free_vertex c.tables ∷ []) 0 i (omega (arith, h.as_many))) at x)

        at : (i : ℕ) → i < suc k → Dec (i ≡ k) → IsVertex (new_vertex c.tables place) (get_or (c.links ++ (free_vertex c.tables ∷ [])) i 0)
        at i q (yes e) =
            let z : i ≡ length c.links + 0 = omega (arith, h.as_many) in
            rw (z, get_or-append-add c.links (free_vertex c.tables ∷ []) 0 0) (vertex-new c.tables place room h.sound)
        at i q (no ne) =
            rw (get_or-append c.links (free_vertex c.tables ∷ []) 0 i (omega (arith, h.as_many)))
            ((vertex-ends c.tables place room h.sound).vertices (get_or c.links i 0) (h.there i (omega arith)))

    copy-by : (by : Makers) → LikeRules by → copy_one_by by move v c ≡ copy_one move v c
    unfolding copy_one_by copy_one
    copy-by by like = ap (λ (a : Mesh). record { tables = a; links = c.links ++ (free_vertex c.tables ∷ []) }) (vertex-by by like c.tables h.sound place room)

  copied-up-to : (k : ℕ) → k ≤ n → Copied k (up_to (λ i c. copy_one move (get_or vs i 0) c) k begun)
  unfolding up_to
  copied-up-to zero l = copied_none
  copied-up-to (suc k) l = copied_more k l (up_to (λ i c. copy_one move (get_or vs i 0) c) k begun) (copied-up-to k (omega arith))

  copies-up-to-by : (by : Makers) → LikeRules by → (k : ℕ) → k ≤ n → up_to (λ i c. copy_one_by by move (get_or vs i 0) c) k begun ≡ up_to (λ i c. copy_one move (get_or vs i 0) c) k begun
  unfolding up_to
  copies-up-to-by by like zero l = refl
  copies-up-to-by by like (suc k) l =
      ap (copy_one_by by move (get_or vs k 0)) (copies-up-to-by by like k (omega arith))
      ∙ copy-by k l (up_to (λ i c. copy_one move (get_or vs i 0) c) k begun) (copied-up-to k (omega arith)) by like

  abbrev made : Copies
  made = copies (remove m f) move vs

  copied : Copied n made
  unfolding copies
  copied = copied-up-to n (omega arith)

  copies-by : (by : Makers) → LikeRules by → copies_by by (remove m f) move vs ≡ made
  unfolding copies_by copies
  copies-by by like = copies-up-to-by by like n (omega arith)

  -- ---- the top

  abbrev a : Mesh
  a = made.tables

  abbrev ds : List ℕ
  ds = made.links

  counters-a : ThreeCounters a
  counters-a = omega (arith, copied.keeps.counter-rows)

  top-perimeter : Passed a ds ds → Perimeter a ds
  top-perimeter q =
      let e = copied.as_many in
      record { at-least-3 = q.at-least-3; at-most-64 = omega (arith, ring-limits.1); vertices = λ i l. copied.there i (omega arith); differ = places-apart ds q.keys-differ }

  top-need : Met a (insert_need a ds)
  unfolding insert_need
  top-need =
      let e = vertices-length m s f u in
      let few = pairs-at-most a ds in
      let long = copied.as_many in
      left-met copied.tally w (omega arith) (omega arith) (omega arith) (omega arith)

  -- ---- the walls

  module _ (r : Mesh) (p : Put a r ds) where
    t : Tally m r n (pairs_without a ds) 1 1
    t = tally-onto copied.tally p.tally (omega arith) (omega arith) (omega arith) (omega arith)

    keeps : KeepsEnds m r
    keeps = keeps-onto copied.keeps p.keeps

    wall-vertex : (k : ℕ) → k < n → (i : ℕ) → i < length (wall vs ds k) → IsVertex r (corner (wall vs ds k) i)
    unfolding wall
    wall-vertex k l zero b = keeps.vertices (get_or vs k 0) (ring-vertex m s f u k l)
    wall-vertex k l (suc zero) b = keeps.vertices (get_or vs (after n k) 0) (ring-vertex m s f u (after n k) (after-low n k l))
    wall-vertex k l (suc (suc zero)) b = p.keeps.vertices (get_or ds (after n k) 0) (copied.there (after n k) (after-low n k l))
    wall-vertex k l (suc (suc (suc zero))) b = p.keeps.vertices (get_or ds k 0) (copied.there k l)
    wall-vertex k l (suc (suc (suc (suc i)))) b = let z : ⊥ = omega arith in absurd z

    -- the ring's pair is there, and the top's, the other way round
    wall-rim : (k : ℕ) → k < n → (i : ℕ) → i < length (wall vs ds k) → (i ≡ 1 → ⊥) → (i ≡ 3 → ⊥) → (x : ℕ) × Between r.arcs (corner (wall vs ds k) i) (following (wall vs ds k) i) x
    unfolding wall
    wall-rim k l zero b o q = (get_or (ring m f) (after (length (ring m f)) k) 0, keeps-between keeps (ring-pair m s f u k l))
    wall-rim k l (suc zero) b o q = absurd (o refl)
    wall-rim k l (suc (suc zero)) b o q =
        let j = p.joined k (omega (arith, copied.as_many)) in
        let z = opposite-is r p.base j.0 j.1.exists in
        (opposite r j.0, record { exists = z.exists; leaves = z.leaves ∙ j.1.arrives ∙ ap (λ (y : ℕ). get_or ds (after y k) 0) copied.as_many; arrives = z.arrives ∙ j.1.leaves })
    wall-rim k l (suc (suc (suc zero))) b o q = absurd (q refl)
    wall-rim k l (suc (suc (suc (suc i)))) b o q = let z : ⊥ = omega arith in absurd z

    wall-room : Met r (needs 0 n n n)
    wall-room =
        let e = vertices-length m s f u in
        let few = pairs-at-most a ds in
        let long = copied.as_many in
        left-met t w (omega arith) (omega arith) (omega arith) (omega arith)

    abbrev ladder : Ladder r
    unfolding wall
    ladder =
        record {
          n = n;
          from = λ i. get_or vs i 0;
          to = λ i. get_or ds i 0;
          per = wall vs ds;
          out = 1;
          back = 3;
          base = p.base;
          counters = omega (arith, keeps.counter-rows);
          room = wall-room;
          at-least-3 = ring-limits.0;
          at-most-64 = λ k l. omega arith;
          vertices = wall-vertex;
          out-on = λ k l. omega arith;
          out-from = λ k l. refl;
          out-to = λ k l. refl;
          back_on = λ k l. omega arith;
          back_from = λ k l. refl;
          back_to = λ k l. refl;
          rim = wall-rim;
        }

    on-top : OnTop (extrude_need (length (ring m f))) n (pairs_without a ds) 1 1 n
    on-top =
        let e = vertices-length m s f u in
        let few = pairs-at-most a ds in
        let long = copied.as_many in
        record { vertices = e; edges = omega arith; faces = omega arith; keys = omega arith }

  -- ---- the whole

  abbrev whole : Need
  whole = extrude_need (length (ring m f))

  -- after the top and k walls
  abbrev Walled : ℕ → Mesh → Type 0
  Walled k b = (r : Mesh) × (p : Put a r ds) × FacesSince m r × Climbed (ladder r p) k b

  -- wherever it stops: after the copies, or after the top and some walls
  abbrev Halted : Mesh → Type 0
  Halted b = (b ≡ a) ⊎ ((r : Mesh) × (p : Put a r ds) × Stopped (ladder r p) b)

  -- within its need in either case
  halted-within : (b : Mesh) → Halted b → Within m b whole 1
  unfolding wall
  halted-within b (inl e) =
      let l = vertices-length m s f u in
      subst (λ (z : Mesh). Within m z whole 1) (sym e)
      (record { vertices = n; edges = 0; faces = 0; tally = copied.tally; vertices-needed = omega arith; edges-needed = zero-le; faces-needed = zero-le; face-keys-needed = zero-le })
  halted-within b (inr (r, p, c)) = climbed-within (ladder r p) whole (t r p) (on-top r p) b c

  module _ (by : Makers) (like : LikeRules by) where
    top-along : Along (Walled 0) Halted (insert_face a ds 0) (insert_face_by by a ds 0)
    unfolding insert_face insert_face_by wall
    top-along =
        along-checked a (insert_checks a ds ds) (insert_work a ds 0) (insert_work_by by a ds 0) (inl refl)
        (λ h. let q = passed a ds ds h in
        along-insert a (but-rings a copied.sound) ds (top-perimeter q) counters-a top-need by like 0
        (λ r p. (r, p, put-since copied.since (omega (arith, copied.tally.face-keys)) q.no-hair q.no-conflict p, climbed-none (ladder r p)))
        (λ b z. inr (z.0, z.1, (0, zero-le, z.3))))

    walls-along : Along (Walled n) Halted (extrude_work m f move) (answering (Key (next_key m face_kind)) (up_to (λ i z. and_then z (λ b. insert_face_by by b (wall vs ds i) 0)) n (insert_face_by by a ds 0)))
    unfolding extrude_work insert_face insert_face_by wall
    walls-along =
        along-answering (Key (next_key m face_kind)) _ _
        (along-loop Walled (λ i b. insert_face b (wall vs ds i) 0) (λ i b. insert_face_by by b (wall vs ds i) 0) n (insert_face a ds 0) (insert_face_by by a ds 0) top-along
        (λ k b l q. let r = q.0 in let p = q.1 in
        along-so (climb (ladder r p) k l b q.3 by like (insert_checks b (wall vs ds k) (wall vs ds k)) 0 (passed b (wall vs ds k) (wall vs ds k))) (λ d z. (r, p, q.2, z)) (λ d z. inr (r, p, z))))

    same-copies : extrude_work_by by m f move ≡ answering (Key (next_key m face_kind)) (up_to (λ i z. and_then z (λ b. insert_face_by by b (wall vs ds i) 0)) n (insert_face_by by a ds 0))
    unfolding extrude_work_by
    same-copies = ap (λ (c : Copies). answering (Key (next_key m face_kind)) (up_to (λ i z. and_then z (λ b. insert_face_by by b (wall vs c.links i) 0)) n (insert_face_by by c.tables c.links 0))) (copies-by by like)

    -- the need of an extrude suffices
    pub extrude-made : Made m (extrude_need (length (ring m f))) 1 (extrude_work m f move) (extrude_work_by by m f move)
    unfolding wall
    extrude-made =
        along-same refl same-copies (along-so walls-along (λ b q. climbed-all (ladder q.0 q.1) whole (t q.0 q.1) (on-top q.0 q.1) b q.3) halted-within)

  -- ---- how far it reaches

  -- of the vertices that were there before, none is a copy
  no_copy : (v : ℕ) → IsVertex m v → T (has ds v) → near v
  no_copy v q h = let p = has-place ds v h in absurd (copied.fresh p.0 (omega (arith, p.1, copied.as_many)) (subst (IsVertex m) (sym p.2) q))

  -- so a corner of a wall that was there before is on the ring
  wall-near : (k : ℕ) → k < n → (i : ℕ) → i < length (wall vs ds k) → IsVertex m (corner (wall vs ds k) i) → near (corner (wall vs ds k) i)
  unfolding wall
  wall-near k l zero b q = place-has vs k l
  wall-near k l (suc zero) b q = place-has vs (after n k) (after-low n k l)
  wall-near k l (suc (suc zero)) b q = absurd (copied.fresh (after n k) (after-low n k l) q)
  wall-near k l (suc (suc (suc zero))) b q = absurd (copied.fresh k l q)
  wall-near k l (suc (suc (suc (suc i)))) b q = let z : ⊥ = omega arith in absurd z

  -- what it leaves, wherever it stops
  halted-left : (b : Mesh) → Halted b → Left near m b
  unfolding wall
  halted-left b (inl e) = subst (Left near m) (sym e) (but-rings a copied.sound, copied.local)
  halted-left b (inr (r, p, c)) =
      let base = but-rings m s in
      climbed-left (ladder r p) base (put-left base copied.local p no_copy).1 wall-near b c

  -- an extrude works among the ring's vertices
  pub extrude-reaching : Reaching near m (extrude_work m f move) (extrude_work_by ruled m f move)
  unfolding wall
  extrude-reaching =
      along-same refl (same-copies ruled ruled-like)
      (along-so (walls-along ruled ruled-like) (λ b q. climbed-since (ladder q.0 q.1) q.2 (omega (arith, (t q.0 q.1).face-keys)) b q.3) halted-left)
