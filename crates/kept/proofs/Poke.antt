-- A face poke: its triangles stand round the middle like a ladder whose rungs run from the ring's vertices to the middle. So 1 vertex, n edges and
-- n - 1 faces suffice; and after one that is accepted, faces other than the one named keep their record and the same ring, arc for arc.
use Prim.Native.Nat.{ℕ, zero, suc, ◌-◌, ◌≤◌, ◌<◌, zero-le}
use native.Mathlib.Omega.{arith}
use mathlib.Core.Path.{◌≡◌, refl, ap, sym, subst}
use mathlib.Core.Bool.{not}
use mathlib.Core.List.{List, [], ◌∷◌}
use lib.ListN.{length, get_or}
use lib.Dec.{T, eqb}
use Rattle.rules.specs.declared.Position.{Position}
use Rattle.rules.specs.Answer.{Key, Done}
use Rattle.rules.specs.declared.Edit.TheVariants.{FacePoke}
use Rattle.rules.specs.Table.{Table, cell, after, has}
use Rattle.rules.specs.Mesh.{Mesh, Room, mark, find_face, vertex_kind, next_key}
use Rattle.rules.specs.Point.{finite_position}
use Rattle.rules.specs.Link.{ring, ring_vertices, free_vertex, new_vertex}
use Rattle.rules.specs.Step.{step, told, accepted}
use Rattle.rules.specs.Insert.{insert_checks, insert_face}
use Rattle.rules.specs.Edit.{remove, poke_work}
use Rattle.rules.specs.Call.{Need, needs, given, checks, need, work, face_poke}
use Rattle.proved.specs.Facts.{SoundFacts, IsVertex, IsFace}
use Rattle.proved.proofs.Around.{place-has}
use Rattle.proved.proofs.Ring.{ring-counts, ring-from}
use Rattle.proved.proofs.Clauses.{facts}
use Rattle.kept.specs.Frame.{ThreeCounters, Met, RoomForVertex}
use Rattle.kept.specs.Perimeter.{corner, following}
use Rattle.kept.specs.Reaches.{KeepsEnds, Spared, SameRing}
use Rattle.makers.specs.Makers.{Makers, ruled, LikeRules, insert_face_by, poke_work_by}
use Rattle.kept.specs.Suffices.{Tally}
use Rattle.kept.specs.Local.{Local, FacesSince}
use Rattle.kept.proofs.Base.{but-rings}
use Rattle.kept.proofs.Counted.{met}
use Rattle.kept.proofs.Round.{after-low}
use Rattle.kept.proofs.Find.{Between, find-back}
use Rattle.kept.proofs.Free.{old-differs}
use Rattle.kept.proofs.Spared.{stays-spared, spared-onto, same-ring}
use Rattle.kept.proofs.Vertex.{vertex-took, vertex-rest, vertex-ring, vertex-ends, vertex-new, vertex-kept}
use Rattle.kept.proofs.Remove.{remove-kept, remove-spares, remove-ends, found-face}
use Rattle.kept.proofs.Passed.{passed}
use Rattle.kept.proofs.Halves.{vertices-length, ring-vertex, ring-pair}
use Rattle.kept.proofs.Keeps.{keeps-onto, keeps-between}
use Rattle.kept.proofs.Eight.{answer-zero}
use Rattle.kept.proofs.Makers.{vertex-by}
use Rattle.makers.proofs.Ruled.{ruled-like}
use Rattle.kept.proofs.Tallies.{tally-onto, left-met, tally-vertex, tally-remove}
use Rattle.kept.proofs.Along.{Along, along-start, along-so, along-answering, along-loop}
use Rattle.kept.proofs.Local.{local-onto, vertex-local, removed-local, since-onto, remove-since, vertex-since, Reaching}
use Rattle.kept.proofs.Ladder.{Ladder, Climbed, Stopped, climbed-none, climb, climbed-left, climbed-since}
use Rattle.kept.proofs.WithinNeed.{Made, OnTop, climbed-within, climbed-all}

-- what a poke at arity n needs
abbrev pub poke_need : ℕ → Need
poke_need n = needs 1 n (n - 1) n

module _ (m : Mesh) (s : SoundFacts m) (three : ThreeCounters m) (f : ℕ) (u : IsFace m f) (pos : Position) (fin : T (finite_position pos)) (w : Met m (poke_need (length (ring m f)))) where
  abbrev vs : List ℕ
  vs = ring_vertices m f

  abbrev n : ℕ
  n = length vs

  at_least : 3 ≤ n
  at_least = omega (arith, vertices-length m s f u, ring-counts m f (ring-from m f (s.rings f u)), (s.rings f u).at-least-3)

  -- ---- the start: the face removed, and the middle put in

  abbrev m₁ : Mesh
  m₁ = remove m f

  s₁ : SoundFacts m₁
  s₁ = remove-kept m s f u

  t₁ : Tally m m₁ 0 0 0 1
  t₁ = tally-remove m s f u

  three₁ : ThreeCounters m₁
  three₁ = omega (arith, (remove-ends m s f u).counter-rows)

  rv₁ : RoomForVertex m₁
  rv₁ = record { a-row = omega (arith, w.vertex-rows, t₁.vertex-rows); a_key = omega (arith, w.vertex-keys, t₁.vertex-keys) }

  abbrev c : ℕ
  c = free_vertex m₁

  abbrev m₂ : Mesh
  m₂ = new_vertex m₁ pos

  t₂ : Tally m m₂ 1 0 0 1
  t₂ = tally-onto t₁ (tally-vertex m₁ s₁ three₁ pos rv₁) (omega arith) (omega arith) (omega arith) (omega arith)

  k₂ : KeepsEnds m m₂
  k₂ = keeps-onto (remove-ends m s f u) (vertex-ends m₁ pos rv₁ s₁)

  -- ---- the ladder

  abbrev part : ℕ → List ℕ
  part k = get_or vs k 0 ∷ get_or vs (after n k) 0 ∷ c ∷ []

  part-vertex : (k : ℕ) → k < n → (i : ℕ) → i < length (part k) → IsVertex m₂ (corner (part k) i)
  part-vertex k l zero b = k₂.vertices (get_or vs k 0) (ring-vertex m s f u k l)
  part-vertex k l (suc zero) b = k₂.vertices (get_or vs (after n k) 0) (ring-vertex m s f u (after n k) (after-low n k l))
  part-vertex k l (suc (suc zero)) b = vertex-new m₁ pos rv₁ s₁
  part-vertex k l (suc (suc (suc i))) b = let z : ⊥ = omega arith in absurd z

  -- the ring's pair is there
  part-rim : (k : ℕ) → k < n → (i : ℕ) → i < length (part k) → (i ≡ 1 → ⊥) → (i ≡ 2 → ⊥) → (x : ℕ) × Between m₂.arcs (corner (part k) i) (following (part k) i) x
  part-rim k l zero b o q = (get_or (ring m f) (after (length (ring m f)) k) 0, keeps-between k₂ (ring-pair m s f u k l))
  part-rim k l (suc zero) b o q = absurd (o refl)
  part-rim k l (suc (suc zero)) b o q = absurd (q refl)
  part-rim k l (suc (suc (suc i))) b o q = let z : ⊥ = omega arith in absurd z

  room : Met m₂ (needs 0 n n n)
  room = let e = vertices-length m s f u in left-met t₂ w (omega arith) (omega arith) (omega (arith, at_least)) (omega arith)

  abbrev ladder : Ladder m₂
  ladder =
      record {
        n = n;
        from = λ i. get_or vs i 0;
        to = λ i. c;
        per = part;
        out = 1;
        back = 2;
        base = but-rings m₂ (vertex-kept m₁ pos rv₁ s₁ three₁ fin);
        counters = omega (arith, k₂.counter-rows);
        room = room;
        at-least-3 = at_least;
        at-most-64 = λ k l. omega arith;
        vertices = part-vertex;
        out-on = λ k l. omega arith;
        out-from = λ k l. refl;
        out-to = λ k l. refl;
        back_on = λ k l. omega arith;
        back_from = λ k l. refl;
        back_to = λ k l. refl;
        rim = part-rim;
      }

  poke-along : (by : Makers) → LikeRules by → Along (Climbed ladder n) (Stopped ladder) (poke_work m f pos) (poke_work_by by m f pos)
  unfolding poke_work poke_work_by insert_face insert_face_by
  poke-along by like =
      along-answering (Key (next_key m vertex_kind)) _ _
      (along-loop (Climbed ladder) (λ i a. insert_face a (part i) (mark m f)) (λ i a. insert_face_by by a (part i) (mark m f)) n (step m₂ Done) (step (by.vertex m₁ pos) Done)
      (along-start m₂ (by.vertex m₁ pos) Done (climbed-none ladder) (0, zero-le, climbed-none ladder) (vertex-by by like m₁ s₁ pos rv₁))
      (λ k a l q. climb ladder k l a q by like (insert_checks a (part k) (part k)) (mark m f) (passed a (part k) (part k))))

  -- the need of a poke suffices
  pub poke-made : (by : Makers) → LikeRules by → Made m (poke_need (length (ring m f))) 1 (poke_work m f pos) (poke_work_by by m f pos)
  poke-made by like =
      let e = vertices-length m s f u in
      let a = length (ring m f) in
      let o : OnTop (poke_need a) 1 0 0 1 n = record { vertices = refl; edges = omega arith; faces = omega (arith, at_least); keys = omega arith } in
      along-so (poke-along by like) (climbed-all ladder (poke_need a) t₂ o) (climbed-within ladder (poke_need a) t₂ o)

  -- one whose inserts are all accepted spares every other face
  pub poke-spares : T (accepted (poke_work m f pos).answer) → (g : ℕ) → IsFace m g → (g ≡ f → ⊥) → Spared m (poke_work m f pos).tables g
  poke-spares h g v ne =
      let removal = remove-spares m s f u g ne v in
      let vertex = stays-spared (λ c. ap (λ (z : Table). cell z g c) (vertex-rest m₁ pos rv₁ s₁).2) (vertex-ring m₁ pos rv₁ s₁ g) in
      let start = spared-onto removal vertex in
      spared-onto start (((poke-along ruled ruled-like).goes h).spared g (subst (λ (z : ℕ). T (not (eqb z 0))) (sym (start.record-stays 0)) v))

  -- ---- how far it reaches

  -- the ring's vertices
  abbrev near : ℕ → Type 0
  near v = T (has vs v)

  -- a corner that was there before is on the ring
  part-near : (k : ℕ) → k < n → (i : ℕ) → i < length (part k) → IsVertex m (corner (part k) i) → near (corner (part k) i)
  part-near k l zero b q = place-has vs k l
  part-near k l (suc zero) b q = place-has vs (after n k) (after-low n k l)
  part-near k l (suc (suc zero)) b q = absurd (old-differs (vertex-took m₁ pos rv₁ s₁) c ((remove-ends m s f u).vertices c q) refl)
  part-near k l (suc (suc (suc i))) b q = let z : ⊥ = omega arith in absurd z

  -- a poke works among the ring's vertices
  pub poke-reaching : Reaching near m (poke_work m f pos) (poke_work_by ruled m f pos)
  poke-reaching =
      let t = but-rings m s in
      let start : Local near m m₂ = local-onto t (removed-local m s f u) (vertex-local m₁ pos rv₁ s₁) (λ v q h. h) (λ v q h. h) in
      let since : FacesSince m m₂ = since-onto (remove-since m s f u) (omega (arith, t₁.face-keys)) (vertex-ends m₁ pos rv₁ s₁) (vertex-since m₁ pos rv₁ s₁) in
      along-so (poke-along ruled ruled-like) (climbed-since ladder since (omega (arith, t₂.face-keys))) (climbed-left ladder t start part-near)

-- ---- the call

-- after a poke that is answered with 0, every face but the one named has its record and the same ring, arc for arc
pub poke-keeps-rings : (m : Mesh) (one two : Room) (f : ℕ) (p : Position) → ThreeCounters m → (told (face_poke m one two f p).answer).number ≡ 0 → (g : ℕ) → IsFace m g → (g ≡ find_face m f → ⊥) → SameRing m (face_poke m one two f p).mesh g
unfolding face_poke checks work need given
poke-keeps-rings m one two f p k h g v ne =
    let w = answer-zero m (FacePoke f p) [] one two h in
    let s = facts m w.behind.was-sound in
    let face = find_face m f in
    let u = (find-back m.faces f (found-face face w.behind.checks-passed)).0 in
    let spared = poke-spares m s k face u p w.behind.numbers-given (met m (poke_need (length (ring m face))) w.behind.need-met) w.work-accepted g v ne in
    let same = subst (λ (t : Mesh). Spared m t g) (sym w.is) spared in
    let sr = facts (face_poke m one two f p).mesh w.now-sound in
    same-ring same (sr.rings g (subst (λ (y : ℕ). T (not (eqb y 0))) (sym (same.record-stays 0)) v))
