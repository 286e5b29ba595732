-- The edits by any makers: where there is room for one record, makers that are like the rules make the same; so an insert whose need is met is the
-- same by them, for any perimeter, in mid-edit too.
use Prim.Native.Nat.{ℕ, zero, suc, ◌≤◌}
use native.Mathlib.Omega.{arith}
use native.Mathlib.Decide.{ℕ_discrete}
use mathlib.Core.Path.{◌≡◌, refl, ap, sym, ◌∙◌}
use mathlib.Core.Bool.{cond}
use mathlib.Core.List.{List}
use lib.ListN.{length}
use lib.Dec.{eqb}
use borrow.Author.Tests.{ne_eqb, eq-eqb}
use Rattle.rules.specs.declared.Position.{Position}
use Rattle.rules.specs.Answer.{Key}
use Rattle.rules.specs.Table.{free_row, up_to}
use Rattle.rules.specs.Mesh.{Mesh, find_arc, face_kind, next_key}
use Rattle.rules.specs.Link.{new_vertex, new_edge, get_or_insert_edge}
use Rattle.rules.specs.Step.{step}
use Rattle.rules.specs.Insert.{arc_at, interior, lists_of, new_face, put_face, insert_work}
use Rattle.rules.specs.Call.{insert_need}
use Rattle.proved.specs.Facts.{SoundFacts}
use Rattle.kept.specs.Frame.{AllButRings, ThreeCounters, Met, RoomForVertex, RoomForEdge, RoomForFace}
use Rattle.kept.specs.Perimeter.{Perimeter, corner, following}
use Rattle.kept.specs.Said.{edges_up_to}
use Rattle.makers.specs.Search.{arcs_on}
use Rattle.makers.specs.Makers.{Makers, LikeRules, EdgeRows, get_or_insert_edge_by, edges_up_to_by, put_face_by, insert_work_by}
use Rattle.kept.proofs.Free.{free-some}
use Rattle.kept.proofs.Edge.{back-finds}
use Rattle.kept.proofs.EdgesIn.{edges-said, each-edge-finds-room, edges-up-to}
use Rattle.kept.proofs.Face.{edges_room}
use Rattle.kept.proofs.Insert.{with_edges, edges-up, room-up}
use Rattle.kept.proofs.Tells.{SearchedIn, searched-here, still-tells}

module _ (by : Makers) (like : LikeRules by) where
  pub vertex-by : (m : Mesh) → SoundFacts m → (p : Position) → RoomForVertex m → by.vertex m p ≡ new_vertex m p
  vertex-by m s p r = like.vertex-same m p (record { a-row = free-some m.vertices (omega (arith, s.sizes.vertex-rows)) r.a-row; a_key = omega (arith, r.a_key) })

  -- an edge, where there is none
  pub edge_by : (m : Mesh) → AllButRings m → (a b : ℕ) → (find_arc m a b ≡ 0 → RoomForEdge m a b) → get_or_insert_edge_by by m a b ≡ get_or_insert_edge m a b
  unfolding get_or_insert_edge_by get_or_insert_edge
  edge_by m s a b r = go (ℕ_discrete (find_arc m a b) 0)
    where
      rows : RoomForEdge m a b → EdgeRows m a b
      rows q =
          record {
            itself = record { a-row = free-some m.edges (omega (arith, s.sizes.edge-rows)) q.a-row; a_key = omega (arith, q.a_key) };
            forth = free-some m.arcs (omega (arith, s.sizes.arc-rows, s.sizes.edge-rows)) (omega (arith, s.two-free, q.a-row));
            back = back-finds m s a b q;
          }

      go : Dec (find_arc m a b ≡ 0) → cond (eqb (find_arc m a b) 0) (by.edge m a b) m ≡ cond (eqb (find_arc m a b) 0) (new_edge m a b) m
      go (yes e) = rw (eq-eqb (find_arc m a b) 0 e) (like.edge_same m a b (rows (r e)))
      go (no n) = rw (ne_eqb (find_arc m a b) 0 n)

  pub face-by : (m : Mesh) → AllButRings m → (x mark : ℕ) → RoomForFace m → by.face m x mark ≡ new_face m x mark
  face-by m s x mark r = like.face-same m x mark (record { a-row = free-some m.faces (omega (arith, s.sizes.face-rows)) r.a-row; a_key = omega (arith, r.a_key) })

  -- ---- an insert

  module _ (m : Mesh) (s : AllButRings m) (per : List ℕ) (p : Perimeter m per) (k : ThreeCounters m) (w : Met m (insert_need m per)) where
    edges_by : (c : ℕ) → c ≤ length per → edges_up_to_by by per c m ≡ edges_up_to per c m
    unfolding edges_up_to_by edges_up_to up_to
    edges_by zero l = refl
    edges_by (suc c) l =
        ap (λ (a : Mesh). get_or_insert_edge_by by a (corner per c) (following per c)) (edges_by c (omega arith))
        ∙ edge_by (edges_up_to per c m) (edges-up-to m per p (edges_room m per k w) s c (omega arith)).base (corner per c) (following per c) (each-edge-finds-room m per p (edges_room m per k w) s c l)

    -- by lists that were searched before, where what was found still tells
    pub put-face-by : (old : Mesh) (soon : List ℕ) → SearchedIn old soon per m → (mark : ℕ) → put_face_by by old soon m per mark ≡ put_face m per (lists_of old per) mark
    unfolding put_face_by put_face
    put-face-by old soon q mark =
        ap rest (edges_by (length per) (omega arith) ∙ sym (edges-said per m))
        ∙ ap (λ (a : Mesh). by.outside old soon per (interior per (free_row (with_edges m s per p k w).faces) a)) (face-by (with_edges m s per p k w) (edges-up m s per p k w).base (arc_at (with_edges m s per p k w) per 0) mark (room-up m s per p k w))
        ∙ like.outside-same old soon per _ (still-tells m s per p k w mark old soon q)
      where
        rest : Mesh → Mesh
        rest a = by.outside old soon per (interior per (free_row a.faces) (by.face a (arc_at a per 0) mark))

    pub insert-by : (mark : ℕ) → insert_work_by by m per mark ≡ insert_work m per mark
    unfolding insert_work_by insert_work
    insert-by mark = ap (λ (a : Mesh). step a (Key (next_key m face_kind))) (put-face-by m (arcs_on m per) (searched-here m s per p) mark)
