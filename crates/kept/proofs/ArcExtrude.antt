-- An arc extrude: two vertices, the edge between them, and the bridge, which needs two edges more at most and one face. So 2 vertices, 3 edges
-- and 1 face suffice.
use Prim.Native.Nat.{ℕ, zero, suc, ◌+◌, ◌≤◌, ◌<◌, zero-le}
use native.Mathlib.Omega.{arith}
use native.Mathlib.Decide.{ℕ_discrete}
use mathlib.Core.Path.{◌≡◌, refl, ap, sym, subst, ◌∙◌}
use mathlib.Core.Bool.{cond}
use mathlib.Core.List.{List, [], ◌∷◌}
use lib.ListN.{length}
use lib.Dec.{T, eqb}
use borrow.Author.Tests.{ne_eqb, eq-eqb}
use Rattle.rules.specs.declared.Position.{Position}
use Rattle.rules.specs.declared.Move.{Move}
use Rattle.rules.specs.Answer.{Arc}
use Rattle.rules.specs.Table.{has}
use Rattle.rules.specs.Mesh.{Mesh, source, dest, find_arc, vertex_kind, next_key}
use Rattle.rules.specs.Point.{finite_position}
use Rattle.rules.specs.Link.{free_vertex, new_vertex, new_edge, get_or_insert_edge}
use Rattle.rules.specs.Step.{Step, answering}
use Rattle.rules.specs.Insert.{insert_work}
use Rattle.rules.specs.Edit.{corners, arc_bridge_checks, arc_bridge_work, arc_bridge}
use Rattle.rules.specs.Extrude.{moved_position, arc_extrude_work}
use Rattle.rules.specs.Call.{needs, insert_need, pairs_without}
use Rattle.proved.specs.Facts.{SoundFacts, IsVertex, IsArc}
use Rattle.proved.proofs.Rows.{differ-T, in_table}
use Rattle.proved.proofs.Around.{has-place, place-has}
use Rattle.kept.specs.Frame.{AllButRings, ThreeCounters, Met, RoomForVertex, RoomForEdge, MadeEdge}
use Rattle.kept.specs.Perimeter.{corner}
use Rattle.kept.specs.Reaches.{KeepsEnds}
use Rattle.makers.specs.Makers.{Makers, ruled, LikeRules, insert_work_by, get_or_insert_edge_by, arc_bridge_by, arc_bridge_work_by, arc_extrude_work_by}
use Rattle.kept.specs.Suffices.{Tally, Within}
use Rattle.kept.specs.Local.{Local, FacesSince}
use Rattle.kept.proofs.Base.{but-rings}
use Rattle.kept.proofs.Find.{Between, arc-back, arc-some}
use Rattle.kept.proofs.Free.{old-differs}
use Rattle.kept.proofs.Vertex.{vertex-took, moved-from, vertex-ends, vertex-new, vertex-kept}
use Rattle.kept.proofs.Edge.{made-edge, edge_kept}
use Rattle.kept.proofs.Keeps.{keeps-none, keeps-onto, keeps-edge}
use Rattle.kept.proofs.Makers.{vertex-by, edge_by}
use Rattle.makers.proofs.Ruled.{ruled-like}
use Rattle.kept.proofs.Tallies.{tally-none, tally-onto, left-met, tally-vertex, tally-edge}
use Rattle.kept.proofs.Along.{Along, along-same, along-so, along-checked, along-answering}
use Rattle.kept.proofs.Put.{Put, along-insert}
use Rattle.kept.proofs.Local.{local-none, local-onto, vertex-local, edge-local, since_none, since-onto, vertex-since, edge-since, Reaching, put-left, put-since}
use Rattle.kept.proofs.ArcBridge.{BridgePassed, bridge-passed, corners-perimeter, corners-need}
use Rattle.kept.proofs.WithinNeed.{AllMade, Made}

-- ---- an edge that is there or is made

-- r is m with an edge between a and b: it was there, or was made. Either way no arc that was there changes
pub record Got (m r : Mesh) (a b : ℕ) : Type 0 where
  pub base : AllButRings r
  pub keeps : KeepsEnds m r
  pub joined : Between r.arcs a b (find_arc r a b)
  pub edges : ℕ
  pub edges_few : edges ≤ 1
  pub tally : Tally m r 0 edges 0 0
  pub local : Local (λ v. ⊥) m r
  pub since : FacesSince m r

pub got-edge : (m : Mesh) → AllButRings m → (a b : ℕ) → (find_arc m a b ≡ 0 → RoomForEdge m a b) → Got m (get_or_insert_edge m a b) a b
unfolding get_or_insert_edge
got-edge m s a b room = go (ℕ_discrete (find_arc m a b) 0)
  where
    found : (r : RoomForEdge m a b) {x y e : ℕ} → MadeEdge m (new_edge m a b) a b x y e → AllButRings (new_edge m a b) → find_arc (new_edge m a b) a b ≡ 0 → ⊥
    found r {x} w q =
        let some = in_table m.vertices a r.from-vertex in
        arc-some (new_edge m a b).arcs a b (omega (arith, q.sizes.arc-rows, q.sizes.edge-rows)) x (record { exists = rw (w.first-row 0) (differ-T a 0 (λ z. omega arith)); leaves = w.first-row 0; arrives = w.first-row 1 })

    made : RoomForEdge m a b → Got m (new_edge m a b) a b
    made r =
        let w = made-edge m s a b r in
        let base = edge_kept w r s in
        record { base = base; keeps = keeps-edge w; joined = arc-back (new_edge m a b).arcs a b (found r w base); edges = 1; edges_few = omega arith; tally = tally-edge w; local = edge-local s w; since = edge-since w r s }

    go : Dec (find_arc m a b ≡ 0) → Got m (cond (eqb (find_arc m a b) 0) (new_edge m a b) m) a b
    go (yes e) = rw (eq-eqb (find_arc m a b) 0 e) (made (room e))
    go (no n) = rw (ne_eqb (find_arc m a b) 0 n) (record { base = s; keeps = keeps-none m; joined = arc-back m.arcs a b n; edges = 0; edges_few = zero-le; tally = tally-none m; local = local-none m; since = since_none m })

-- ---- the edit

module _ (m : Mesh) (s : SoundFacts m) (three : ThreeCounters m) (x : ℕ) (u : IsArc m x) (move : Move) (fin-d : T (finite_position (moved_position m move (dest m x)))) (fin-s : T (finite_position (moved_position m move (source m x)))) (w : Met m (needs 2 3 1 1)) where
  -- the two vertices
  abbrev c : ℕ
  c = free_vertex m

  abbrev p₁ : Position
  p₁ = moved_position m move (dest m x)

  abbrev m₁ : Mesh
  m₁ = new_vertex m p₁

  rv : RoomForVertex m
  rv = record { a-row = omega (arith, w.vertex-rows); a_key = omega (arith, w.vertex-keys) }

  s₁ : SoundFacts m₁
  s₁ = vertex-kept m p₁ rv s three fin-d

  t₁ : Tally m m₁ 1 0 0 0
  t₁ = tally-vertex m s three p₁ rv

  k₁ : KeepsEnds m m₁
  k₁ = vertex-ends m p₁ rv s

  three₁ : ThreeCounters m₁
  three₁ = omega (arith, k₁.counter-rows)

  rv₁ : RoomForVertex m₁
  rv₁ = record { a-row = omega (arith, w.vertex-rows, t₁.vertex-rows); a_key = omega (arith, w.vertex-keys, t₁.vertex-keys) }

  abbrev d : ℕ
  d = free_vertex m₁

  abbrev p₂ : Position
  p₂ = moved_position m₁ move (source m₁ x)

  fin₂ : T (finite_position p₂)
  fin₂ =
      subst (λ (q : Position). T (finite_position q)) (sym (ap (moved_position m₁ move) (k₁.sources x u) ∙ moved-from m p₁ rv s (source m x) (s.ends-exist x u).0 move)) fin-s

  abbrev m₂ : Mesh
  m₂ = new_vertex m₁ p₂

  s₂ : SoundFacts m₂
  s₂ = vertex-kept m₁ p₂ rv₁ s₁ three₁ fin₂

  t₂ : Tally m m₂ 2 0 0 0
  t₂ = tally-onto t₁ (tally-vertex m₁ s₁ three₁ p₂ rv₁) (omega arith) (omega arith) (omega arith) (omega arith)

  k₂ : KeepsEnds m m₂
  k₂ = keeps-onto k₁ (vertex-ends m₁ p₂ rv₁ s₁)

  -- the edge between them
  c-new : IsVertex m₁ c
  c-new = vertex-new m p₁ rv s

  edge-room : find_arc m₂ c d ≡ 0 → RoomForEdge m₂ c d
  edge-room e =
      record {
        from-vertex = (vertex-ends m₁ p₂ rv₁ s₁).vertices c c-new;
        to-vertex = vertex-new m₁ p₂ rv₁ s₁;
        ends-differ = old-differs (vertex-took m₁ p₂ rv₁ s₁) c c-new;
        no-arc = λ y q l a. arc-some m₂.arcs c d (omega (arith, s₂.sizes.arc-rows, s₂.sizes.edge-rows)) y (record { exists = q; leaves = l; arrives = a }) e;
        a-row = omega (arith, w.edge-rows, t₂.edge-rows);
        a_key = omega (arith, w.edge-keys, t₂.edge-keys);
        counters = omega (arith, k₂.counter-rows);
      }

  abbrev m₃ : Mesh
  m₃ = get_or_insert_edge m₂ c d

  got : Got m₂ m₃ c d
  got = got-edge m₂ (but-rings m₂ s₂) c d edge-room

  t₃ : Tally m m₃ 2 got.edges 0 0
  t₃ = tally-onto t₂ got.tally (omega arith) (omega arith) (omega arith) (omega arith)

  -- the bridge
  abbrev y : ℕ
  y = find_arc m₃ c d

  abbrev per : List ℕ
  per = corners m₃ x y

  u₃ : IsArc m₃ x
  u₃ = got.keeps.arcs x (k₂.arcs x u)

  needed : Met m₃ (insert_need m₃ per)
  unfolding insert_need
  needed =
      let two = corners-need m₃ got.base x y u₃ got.joined.exists in
      let one = got.edges_few in
      left-met t₃ w (omega arith) (omega arith) (omega arith) (omega arith)

  stopped : Within m m₃ (needs 2 3 1 1) 0
  stopped =
      record { vertices = 2; edges = got.edges; faces = 0; tally = t₃; vertices-needed = omega arith; edges-needed = omega (arith, got.edges_few); faces-needed = omega arith; face-keys-needed = omega arith }

  bridged : (r : Mesh) → Put m₃ r per → Within m r (needs 2 3 1 1) 0
  bridged r p =
      record {
        vertices = 2;
        edges = got.edges + pairs_without m₃ per;
        faces = 1;
        tally = tally-onto t₃ p.tally (omega arith) refl (omega arith) (omega arith);
        vertices-needed = omega arith;
        edges-needed = omega (arith, got.edges_few, corners-need m₃ got.base x y u₃ got.joined.exists);
        faces-needed = omega arith;
        face-keys-needed = omega arith;
      }

  -- its insert, behind the checks
  put_along : BridgePassed m₃ x y → (by : Makers) → LikeRules by → Along (λ r. Put m₃ r per) (λ r. Put m₃ r per) (insert_work m₃ per 0) (insert_work_by by m₃ per 0)
  put_along q by like =
      let p = corners-perimeter m₃ got.base x y u₃ got.joined.exists q.insert-passed in
      along-insert m₃ got.base per p (omega (arith, got.keeps.counter-rows, k₂.counter-rows)) needed by like 0 (λ r z. z) (λ r z. z)

  module _ (by : Makers) (like : LikeRules by) where
    bridge-made : Made m (needs 2 3 1 1) 0 (arc_bridge m₃ x y) (arc_bridge_by by m₃ x y)
    unfolding arc_bridge arc_bridge_by arc_bridge_work arc_bridge_work_by
    bridge-made =
        along-checked m₃ (arc_bridge_checks m₃ x y) (arc_bridge_work m₃ x y) (arc_bridge_work_by by m₃ x y) stopped
        (λ h. along-so (put_along (bridge-passed m₃ x y h) by like) all_made bridged)
      where
        all_made : (r : Mesh) → Put m₃ r per → AllMade m r (needs 2 3 1 1)
        all_made r z = record { vertex-keys = omega (arith, t₃.vertex-keys, z.tally.vertex-keys); face-keys = omega (arith, t₃.face-keys, z.tally.face-keys) }

    -- by the makers the two vertices and the edge are the same
    same_start : arc_extrude_work_by by m x move ≡ answering (Arc (next_key m vertex_kind) (next_key m₁ vertex_kind)) (arc_bridge_by by m₃ x y)
    unfolding arc_extrude_work_by
    same_start = ap first (vertex-by by like m s p₁ rv) ∙ ap second (vertex-by by like m₁ s₁ p₂ rv₁) ∙ ap third (edge_by by like m₂ (but-rings m₂ s₂) c d edge-room)
      where
        third : Mesh → Step
        third a = answering (Arc (next_key m vertex_kind) (next_key m₁ vertex_kind)) (arc_bridge_by by a x (find_arc a c d))

        second : Mesh → Step
        second a = third (get_or_insert_edge_by by a c d)

        first : Mesh → Step
        first a =
            let e = free_vertex a in
            let b = get_or_insert_edge_by by (by.vertex a (moved_position a move (source a x))) c e in
            answering (Arc (next_key m vertex_kind) (next_key a vertex_kind)) (arc_bridge_by by b x (find_arc b c e))

    -- the need of an arc extrude suffices
    pub arc-extrude-made : Made m (needs 2 3 1 1) 0 (arc_extrude_work m x move) (arc_extrude_work_by by m x move)
    unfolding arc_extrude_work
    arc-extrude-made =
        along-same refl same_start (along-answering (Arc (next_key m vertex_kind) (next_key m₁ vertex_kind)) (arc_bridge m₃ x y) (arc_bridge_by by m₃ x y) bridge-made)

  -- ---- how far it reaches

  -- the ends of the arc
  abbrev near : ℕ → Type 0
  near v = T (has (source m x ∷ dest m x ∷ []) v)

  -- a corner that was there before is an end of the arc
  corner-near : (i : ℕ) → i < length per → IsVertex m (corner per i) → near (corner per i)
  unfolding corners has
  corner-near zero l q = rw (got.keeps.sources x (k₂.arcs x u) ∙ k₂.sources x u) (place-has (source m x ∷ dest m x ∷ []) 0 (omega arith))
  corner-near (suc zero) l q = rw (got.keeps.dests x (k₂.arcs x u) ∙ k₂.dests x u) (place-has (source m x ∷ dest m x ∷ []) 1 (omega arith))
  corner-near (suc (suc zero)) l q = absurd (old-differs (vertex-took m p₁ rv s) (source m₃ y) q got.joined.leaves)
  corner-near (suc (suc (suc zero))) l q = absurd (old-differs (vertex-took m₁ p₂ rv₁ s₁) (dest m₃ y) (k₁.vertices (dest m₃ y) q) got.joined.arrives)
  corner-near (suc (suc (suc (suc i)))) l q = let z : ⊥ = omega arith in absurd z

  on-corners : (v : ℕ) → IsVertex m v → T (has per v) → near v
  on-corners v q h = let p = has-place per v h in subst near p.2 (corner-near p.0 p.1 (subst (IsVertex m) (sym p.2) q))

  -- the two vertices and the edge
  start-local : Local near m m₃
  start-local =
      let t = but-rings m s in
      let two : Local near m m₂ = local-onto t (vertex-local m p₁ rv s) (vertex-local m₁ p₂ rv₁ s₁) (λ v q h. h) (λ v q h. h) in
      local-onto t two got.local (λ v q h. h) (λ v q h. absurd h)

  start-since : FacesSince m m₃
  start-since =
      let two : FacesSince m m₂ = since-onto (vertex-since m p₁ rv s) (omega (arith, t₁.face-keys)) (vertex-ends m₁ p₂ rv₁ s₁) (vertex-since m₁ p₂ rv₁ s₁) in
      since-onto two (omega (arith, t₂.face-keys)) got.keeps got.since

  -- an arc extrude works among the ends of its arc
  pub arc-extrude-reaching : Reaching near m (arc_extrude_work m x move) (answering (Arc (next_key m vertex_kind) (next_key m₁ vertex_kind)) (arc_bridge_by ruled m₃ x y))
  unfolding arc_extrude_work arc_bridge arc_bridge_by arc_bridge_work arc_bridge_work_by
  arc-extrude-reaching =
      along-answering (Arc (next_key m vertex_kind) (next_key m₁ vertex_kind)) (arc_bridge m₃ x y) (arc_bridge_by ruled m₃ x y)
      (along-checked m₃ (arc_bridge_checks m₃ x y) (arc_bridge_work m₃ x y) (arc_bridge_work_by ruled m₃ x y) (got.base, start-local)
      (λ h.
      let q = bridge-passed m₃ x y h in
      along-so (put_along q ruled ruled-like) (λ r z. put-since start-since (omega (arith, t₃.face-keys)) q.insert-passed.no-hair q.insert-passed.no-conflict z) (λ r z. put-left (but-rings m s) start-local z on-corners)))
