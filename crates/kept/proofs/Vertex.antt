-- A vertex insert: what it changes, and that it keeps a mesh sound. So it is never answered with 8.
use Prim.Native.Nat.{ℕ, suc, ◌≤◌, ◌<◌}
use native.Mathlib.Omega.{arith}
use native.Mathlib.Decide.{ℕ_discrete}
use mathlib.Core.Path.{◌≡◌, refl, ap, sym, subst, ◌∙◌}
use mathlib.Core.List.{List, [], ◌∷◌}
use mathlib.Core.Logic.{◌⊎◌, inl, inr}
use lib.ListN.{length, get_or, length-set}
use lib.Ieee.{Float, nan, binary64, to_bits}
use lib.Dec.{T}
use Rattle.rules.specs.declared.Position.{Position}
use Rattle.rules.specs.declared.Move.{Move}
use Rattle.rules.specs.declared.Edit.TheVariants.{VertexInsert}
use Rattle.rules.specs.Table.{cell, there, put_row, free_row}
use Rattle.rules.specs.Mesh.{Mesh, Room, leading, vertex_kind, edge_kind, face_kind, next_key, one_up}
use Rattle.rules.specs.Point.{row_of, position_at, finite_position, finite_row, exponent_field}
use Rattle.rules.specs.Link.{put_vertex, new_vertex, free_vertex}
use Rattle.rules.specs.Extrude.{moved_position}
use Rattle.rules.specs.Call.{given, need, needs, room_for, work, vertex_insert}
use Rattle.rules.specs.Sound.{sound}
use Rattle.rules.specs.Step.{told}
use Rattle.proved.specs.Facts.{SoundFacts, IsVertex, coordinate}
use Rattle.proved.proofs.Rows.{differ-T, in_table}
use Rattle.proved.proofs.Clauses.{facts, sound-from, finite-row}
use Rattle.kept.specs.Frame.{Took, RingStays, ThreeCounters, RoomForVertex}
use Rattle.kept.specs.Reaches.{KeepsEnds}
use Rattle.kept.proofs.Cells.{put_row-rows, row_here, row_other}
use Rattle.kept.proofs.Free.{took, new-there, old-differs, old-there, old-cell, there-cases, took-zero, took-keys-differ, took-keys-below, free-differs}
use Rattle.kept.proofs.Counted.{met, key_back, one-up-some, counted-here, counted-other}
use Rattle.kept.proofs.Rings.{ring-stays}
use Rattle.kept.proofs.Eight.{Behind, never-8}

-- a vertex that was there keeps its place
pub place-stays : (m : Mesh) (p : Position) (v : ℕ) → IsVertex m v → position_at (put_row m.positions (free_row m.vertices) (row_of p)) v ≡ position_at m.positions v
unfolding position_at
place-stays m p v u =
    let free = free_row m.vertices in
    let n = free-differs m.vertices v u in
    let some = (in_table m.vertices v u).0 in
    rw (put_row-rows m.positions free (row_of p), row_other m.positions (row_of p) [] free v some n)

module _ (m : Mesh) (p : Position) (r : RoomForVertex m) (s : SoundFacts m) where
  -- the new row, with its key and no leading arc; every other vertex keeps its row
  pub vertex-took : Took m.vertices (new_vertex m p).vertices (free_vertex m) (one_up (next_key m vertex_kind) ∷ 0 ∷ [])
  unfolding new_vertex put_vertex
  vertex-took = took m.vertices (omega (arith, s.sizes.vertex-rows)) r.a-row (one_up (next_key m vertex_kind) ∷ 0 ∷ []) (differ-T (one_up (next_key m vertex_kind)) 0 (one-up-some (next_key m vertex_kind) r.a_key))

  -- and so do the positions
  pub position-new : (c : ℕ) → coordinate (new_vertex m p) (free_vertex m) c ≡ get_or (row_of p) c nan
  unfolding new_vertex put_vertex
  position-new c =
      ap (λ (z : List Float). get_or z c nan) (row_here m.positions (row_of p) [] (free_vertex m) vertex-took.some (omega (arith, vertex-took.within, s.sizes.position-rows)))

  pub position-old : (v c : ℕ) → 1 ≤ v → (v ≡ free_vertex m → ⊥) → coordinate (new_vertex m p) v c ≡ coordinate m v c
  unfolding new_vertex put_vertex
  position-old v c a ne = ap (λ (z : List Float). get_or z c nan) (row_other m.positions (row_of p) [] (free_vertex m) v a ne)

  -- a vertex that was there is moved from where it was
  pub moved-from : (v : ℕ) → IsVertex m v → (move : Move) → moved_position (new_vertex m p) move v ≡ moved_position m move v
  unfolding moved_position position_at new_vertex put_vertex
  moved-from v u move =
      rw (put_row-rows m.positions (free_vertex m) (row_of p), row_other m.positions (row_of p) [] (free_vertex m) v (in_table m.vertices v u).0 (old-differs vertex-took v u))

  -- arcs, edges and faces stay, so every ring does
  pub vertex-rest : ((new_vertex m p).arcs ≡ m.arcs) × ((new_vertex m p).edges ≡ m.edges) × ((new_vertex m p).faces ≡ m.faces)
  unfolding new_vertex put_vertex
  vertex-rest = (refl, refl, refl)

  pub vertex-ring : (f : ℕ) → RingStays m (new_vertex m p) f
  unfolding new_vertex put_vertex
  vertex-ring f = record { first = refl; rows = refl; keeps = λ x c q. refl; no_more = λ x q. record { exists = q.exists; its-face = q.its-face } }

  pub key-counted : 3 ≤ length m.counters → next_key (new_vertex m p) vertex_kind ≡ suc (next_key m vertex_kind)
  unfolding new_vertex put_vertex
  key-counted k = counted-here m.counters vertex_kind (omega arith) r.a_key

  pub vertex-ends : KeepsEnds m (new_vertex m p)
  unfolding new_vertex put_vertex
  vertex-ends =
      record { arcs = λ x h. h; sources = λ x h. refl; dests = λ x h. refl; vertices = λ v h. old-there vertex-took v h; places = λ v h. place-stays m p v h; arc-rows = refl; counter-rows = length-set m.counters vertex_kind (one_up (next_key m vertex_kind)) }

  -- the other counters stay
  pub other_keys : (c : ℕ) → (c ≡ vertex_kind → ⊥) → next_key (new_vertex m p) c ≡ next_key m c
  unfolding new_vertex put_vertex
  other_keys c ne = counted-other m.counters vertex_kind c ne

  -- the new vertex is there
  pub vertex-new : IsVertex (new_vertex m p) (free_vertex m)
  vertex-new = new-there vertex-took (differ-T (one_up (next_key m vertex_kind)) 0 (one-up-some (next_key m vertex_kind) r.a_key))

  -- a vertex insert keeps the mesh sound
  pub vertex-kept : ThreeCounters m → T (finite_position p) → SoundFacts (new_vertex m p)
  unfolding new_vertex put_vertex finite_row
  vertex-kept k fin =
      let w = vertex-took in
      let u = differ-T (one_up (next_key m vertex_kind)) 0 (one-up-some (next_key m vertex_kind) r.a_key) in
      record {
        sizes = record { vertex-rows = rw w.rows s.sizes.vertex-rows; position-rows = put_row-rows m.positions (free_vertex m) (row_of p) ∙ s.sizes.position-rows ∙ sym w.rows; edge-rows = s.sizes.edge-rows; arc-rows = s.sizes.arc-rows; face-rows = s.sizes.face-rows };
        vertex-keys-differ = took-keys-differ w (next_key m vertex_kind) (key_back (next_key m vertex_kind) r.a_key) s.vertex-keys-below s.vertex-keys-differ;
        edge-keys-differ = s.edge-keys-differ;
        face-keys-differ = s.face-keys-differ;
        vertex-keys-below = λ l h. rw (key-counted k) (took-keys-below w (next_key m vertex_kind) (key_back (next_key m vertex_kind) r.a_key) s.vertex-keys-below l h);
        edge-keys-below = λ l h. rw (counted-other m.counters vertex_kind edge_kind (λ e. omega arith)) (s.edge-keys-below l h);
        face-keys-below = λ l h. rw (counted-other m.counters vertex_kind face_kind (λ e. omega arith)) (s.face-keys-below l h);
        both-arcs = λ e h. let b = s.both-arcs e h in record { first-exists = b.first-exists; second-exists = b.second-exists; first_holds = b.first_holds; second_holds = b.second_holds; leaves-where-ends = b.leaves-where-ends; ends-where-leaves = b.ends-where-leaves };
        ends-differ = s.ends-differ;
        ends-exist = λ x h. (old-there w _ (s.ends-exist x h).0, old-there w _ (s.ends-exist x h).1);
        pairs-differ = s.pairs-differ;
        edge-exists = s.edge-exists;
        edge-names = s.edge-names;
        leads-out = λ v h n. leads v (there-cases w v h) n;
        next-leaves = s.next-leaves;
        previous-arrives = s.previous-arrives;
        face-exists = s.face-exists;
        rings = λ f h. ring-stays m (new_vertex m p) f (vertex-ring f) (s.rings f h);
        vertices-zero = took-zero w u s.vertices-zero;
        arcs-zero = s.arcs-zero;
        edges-zero = s.edges-zero;
        faces-zero = s.faces-zero;
        positions-zero = λ v c a b n l. zero v c a (rw (put_row-rows m.positions (free_vertex m) (row_of p)) at b) n l (ℕ_discrete v (free_vertex m));
        all-finite = λ v c a b l e. finite v c a (rw (put_row-rows m.positions (free_vertex m) (row_of p)) at b) l e (ℕ_discrete v (free_vertex m));
      }
    where
      n : Mesh
      n = new_vertex m p

      leads : (v : ℕ) → (v ≡ free_vertex m) ⊎ IsVertex m v → (leading n v ≡ 0 → ⊥) → T (there m.arcs (leading n v)) × (cell m.arcs (leading n v) 0 ≡ v)
      leads v (inl e) h = absurd (h (ap (leading n) e ∙ vertex-took.row 1))
      leads v (inr o) h =
          let q : leading n v ≡ leading m v = old-cell vertex-took v 1 o in
          rw q (s.leads-out v o (λ z. h (q ∙ z)))

      zero : (v c : ℕ) → 1 ≤ v → v ≤ length m.positions → (IsVertex n v → ⊥) → c < 3 → Dec (v ≡ free_vertex m) → to_bits binary64 (coordinate n v c) ≡ 0
      zero v c a b f l (yes e) = absurd (f (subst (IsVertex n) (sym e) vertex-new))
      zero v c a b f l (no ne) = ap (to_bits binary64) (position-old v c a ne) ∙ s.positions-zero v c a b (λ o. f (old-there vertex-took v o)) l

      finite : (v c : ℕ) → 1 ≤ v → v ≤ length m.positions → c < 3 → exponent_field (to_bits binary64 (coordinate n v c)) ≡ 2047 → Dec (v ≡ free_vertex m) → ⊥
      finite v c a b l e (yes q) = (finite-row (row_of p)).0 fin c l (ap (λ (z : Float). exponent_field (to_bits binary64 z)) (sym (ap (λ (z : ℕ). coordinate n z c) q ∙ position-new c)) ∙ e)
      finite v c a b l e (no ne) = s.all-finite v c a b l (ap (λ (z : Float). exponent_field (to_bits binary64 z)) (sym (position-old v c a ne)) ∙ e)

-- ---- the call

-- the need is enough: a vertex insert finds its row and its key
pub vertex-room : (m : Mesh) (p : Position) (keys : List ℕ) → T (room_for m (need m (VertexInsert p) keys)) → RoomForVertex m
unfolding need
vertex-room m p keys h = let w = met m (needs 1 0 0 0) h in record { a-row = w.vertex-rows; a_key = w.vertex-keys }

-- behind its tests it leaves a sound mesh
pub vertex-insert-keeps : (m : Mesh) (p : Position) (keys : List ℕ) → ThreeCounters m → Behind m (VertexInsert p) keys → T (sound (work m (VertexInsert p) keys).tables)
unfolding work given
vertex-insert-keeps m p keys k b = sound-from (new_vertex m p) (vertex-kept m p (vertex-room m p keys b.need-met) (facts m b.was-sound) k b.numbers-given)

-- (1) a vertex insert is never answered with 8, whatever tables, rooms and position it is given
pub never-8-vertex : (m : Mesh) (one two : Room) (p : Position) → ThreeCounters m → (told (vertex_insert m one two p).answer).number ≡ 8 → ⊥
unfolding vertex_insert
never-8-vertex m one two p k = never-8 m (VertexInsert p) [] one two (vertex-insert-keeps m p [] k)
