-- What every accepted call leaves of the records that were there. No edit moves a vertex or gives it another key; so every arc keeps its name,
-- and what leads to it names the same arc. A face that has the same ring keeps its record, and each arc of its ring does.
use Prim.Native.Nat.{ℕ}
use native.Mathlib.Omega.{arith}
use native.Mathlib.Decide.{ℕ_discrete}
use mathlib.Core.Path.{◌≡◌, refl, sym, subst, ◌∙◌}
use mathlib.Core.Bool.{not}
use mathlib.Core.List.{List}
use lib.Dec.{T, eqb}
use Rattle.kept.proofs.Vertex.{place-stays}
use Rattle.rules.specs.declared.Position.{Position}
use Rattle.rules.specs.declared.Edit.{Edit}
use Rattle.rules.specs.Table.{cell, has, free_row}
use Rattle.rules.specs.Mesh.{Mesh, source, dest, next, previous, edge, face_arc}
use Rattle.rules.specs.Point.{position_at}
use Rattle.rules.specs.Link.{put_vertex, new_vertex, new_arc, new_edge, connect, set_face, ring}
use Rattle.rules.specs.Insert.{new_face}
use Rattle.rules.specs.Records.{arc_name, key_name, arc_record, face_record}
use Rattle.rules.specs.Sound.{sound}
use Rattle.rules.specs.Call.{work}
use Rattle.proved.specs.Demand.{Holds}
use Rattle.proved.specs.Facts.{SoundFacts, RingFacts, IsVertex, IsArc, IsEdge, IsFace}
use Rattle.proved.proofs.Around.{has-place}
use Rattle.proved.proofs.Clauses.{facts}
use Rattle.kept.specs.Frame.{ThreeCounters}
use Rattle.kept.specs.Reaches.{KeepsEnds, KeepsKeyAndPosition, SameRing}
use Rattle.makers.specs.Makers.{ruled}
use Rattle.kept.specs.Local.{FacesSince}
use Rattle.kept.specs.Unreached.{KeepsArc, KeepsFace, KeepsRing}
use Rattle.kept.proofs.Cells.{put_row-other, put-other-cell}
use Rattle.kept.proofs.Free.{free-differs}
use Rattle.kept.proofs.Rings.{first_holds, ring-same}
use Rattle.kept.proofs.Remove.{ring-place-holds}
use Rattle.kept.proofs.Eight.{Accepted}
use Rattle.makers.proofs.Ruled.{ruled-work}
use Rattle.kept.proofs.Steps.{KeptBySteps, work-keeps}
use Rattle.kept.proofs.EditReach.{edit-reach}

-- ---- vertices, step by step

-- every vertex of m is there in n, with its key and its position
abbrev pub VerticesStay : Mesh → Mesh → Type 0
VerticesStay m n = (v : ℕ) → IsVertex m v → KeepsKeyAndPosition m n v

-- where a vertex has the same first cell and the same position
vertex-kept : {m n : Mesh} (v : ℕ) → IsVertex m v → cell n.vertices v 0 ≡ cell m.vertices v 0
    → position_at n.positions v ≡ position_at m.positions v → KeepsKeyAndPosition m n v
vertex-kept v u e p = record { exists = subst (λ (z : ℕ). T (not (eqb z 0))) (sym e) u; same_key = rw e; same-position = p }

pub vertex-onto : {a b c : Mesh} (v : ℕ) → KeepsKeyAndPosition a b v → KeepsKeyAndPosition b c v → KeepsKeyAndPosition a c v
vertex-onto v p q = record { exists = q.exists; same_key = q.same_key ∙ p.same_key; same-position = q.same-position ∙ p.same-position }

by-vertex : (m : Mesh) (p : Position) → VerticesStay m (new_vertex m p)
unfolding new_vertex put_vertex
by-vertex m p v u =
    let free = free_row m.vertices in
    vertex-kept v u (put_row-other m.vertices free _ v 0 (free-differs m.vertices v u)) (place-stays m p v u)

by-edge : (m : Mesh) (a b : ℕ) → VerticesStay m (new_edge m a b)
unfolding new_edge new_arc
by-edge m a b v u =
    let second = put-other-cell _ b 1 _ v 0 (λ e. omega arith) in
    vertex-kept v u (second ∙ put-other-cell m.vertices a 1 _ v 0 (λ e. omega arith)) refl

by-steps : KeptBySteps VerticesStay ruled
unfolding new_face connect set_face
by-steps =
    record {
      itself = λ m v u. vertex-kept v u refl refl;
      through = λ a b c p q v u. let w = p v u in vertex-onto v w (q v w.exists);
      vertex = by-vertex;
      edge = by-edge;
      face = λ m x mark v u. vertex-kept v u refl refl;
      link = λ m x y v u. vertex-kept v u refl refl;
      set-face = λ m x f v u. vertex-kept v u refl refl;
      drop = λ m f v u. vertex-kept v u refl refl;
      outside = λ old soon per m. refl;
    }

-- whether it is accepted or refused on the way
pub vertices-stay : (m : Mesh) (e : Edit) (keys : List ℕ) → VerticesStay m (work m e keys).tables
vertices-stay m e keys = rw (← ruled-work m e keys) (work-keeps VerticesStay ruled by-steps m e keys)

-- ---- an accepted call

-- what every edit keeps from m to r: the mesh is sound before and after; vertices, arcs and edges that were there are there; and each face
-- was there and was spared, or has come since
pub record KeptByCalls (m r : Mesh) : Type 0 where
  pub was-sound : SoundFacts m
  pub now-sound : SoundFacts r
  pub vertices : (v : ℕ) → IsVertex m v → KeepsKeyAndPosition m r v
  pub ends : KeepsEnds m r
  pub edge_stays : (x : ℕ) → IsArc m x → edge r x ≡ edge m x
  pub edges-stay : (e c : ℕ) → IsEdge m e → cell r.edges e c ≡ cell m.edges e c
  pub since : FacesSince m r

pub kept-by-call : (m : Mesh) → ThreeCounters m → (e : Edit) (keys : List ℕ) (r : Mesh) → Accepted m e keys r → KeptByCalls m r
kept-by-call m three e keys r w =
    let b = w.behind in
    let reach = edit-reach m e keys three b.was-sound b.numbers-given b.checks-passed b.moves-finite b.need-met in
    let n = (work m e keys).tables in
    subst (KeptByCalls m) (sym w.is)
    (record {
      was-sound = facts m b.was-sound;
      now-sound = facts n (subst (λ (a : Mesh). T (sound a)) w.is w.now-sound);
      vertices = vertices-stay m e keys;
      ends = reach.local.keeps;
      edge_stays = reach.local.edge_stays;
      edges-stay = reach.local.edges-stay;
      since = reach.faces w.work-accepted;
    })

module _ {m r : Mesh} (k : KeptByCalls m r) where
  -- ---- names

  pub name-stays : (x : ℕ) → IsArc m x → arc_name r x ≡ arc_name m x
  unfolding arc_name
  name-stays x u =
      let exist = k.was-sound.ends-exist x u in
      let from = k.vertices (source m x) exist.0 in
      let to = k.vertices (dest m x) exist.1 in
      rw (k.ends.sources x u, k.ends.dests x u, from.same_key, to.same_key)

  -- what a link names, to an arc that was there or to none
  pub link_stays : (x : ℕ) → ((x ≡ 0 → ⊥) → IsArc m x) → arc_name r x ≡ arc_name m x
  unfolding arc_name
  link_stays x u = go (ℕ_discrete x 0)
    where
      go : Dec (x ≡ 0) → arc_name r x ≡ arc_name m x
      go (yes z) = rw z
      go (no n) = name-stays x (u n)

  pub next-name-stays : (x : ℕ) → IsArc m x → next r x ≡ next m x → arc_name r (next r x) ≡ arc_name m (next m x)
  next-name-stays x u e = rw e (link_stays (next m x) (λ n. (k.was-sound.next-leaves x u n).0))

  pub previous-name-stays : (x : ℕ) → IsArc m x → previous r x ≡ previous m x → arc_name r (previous r x) ≡ arc_name m (previous m x)
  previous-name-stays x u e = rw e (link_stays (previous m x) (λ n. (k.was-sound.previous-arrives x u n).0))

  pub edge-name-stays : (x : ℕ) → IsArc m x → key_name r.edges (edge r x) ≡ key_name m.edges (edge m x)
  unfolding key_name
  edge-name-stays x u = rw (k.edge_stays x u, k.edges-stay (edge m x) 0 (k.was-sound.edge-exists x u))

  -- ---- a face with the same ring

  module _ (g : ℕ) (u : IsFace m g) (same : SameRing m r g) where
    ring-facts : RingFacts m g
    ring-facts = k.was-sound.rings g u

    pub face-kept : KeepsFace m r g
    unfolding face_record
    face-kept =
        let first = first_holds m g ring-facts in
        record {
          exists = subst (λ (z : ℕ). T (not (eqb z 0))) (sym (same.record-stays 0)) u;
          whole = rw (same.record-stays 0, same.record-stays 1, same.record-stays 2, name-stays (face_arc m g) first.exists);
        }

    arc-kept : (x : ℕ) → Holds m g x → KeepsArc m r x
    unfolding arc_record key_name
    arc-kept x h =
        let v = h.exists in
        let nexts = next-name-stays x v (same.next-stays x h) in
        let previouses = previous-name-stays x v (same.previous-stays x h) in
        let holds = (same.still-hold x h).its-face in
        record {
          exists = k.ends.arcs x v;
          whole = rw (name-stays x v, nexts, previouses, holds, h.its-face, same.record-stays 0, edge-name-stays x v);
        }

    pub ring-kept : KeepsRing m r g
    ring-kept =
        record { same-arcs = ring-same m r g ring-facts (same.record-stays 1) same.next-stays; each-arc = λ x h. arc-kept x (on-ring x h) }
      where
        on-ring : (x : ℕ) → T (has (ring m g) x) → Holds m g x
        on-ring x h = let p = has-place (ring m g) x h in subst (Holds m g) p.2 (ring-place-holds m g ring-facts p.0 p.1)
