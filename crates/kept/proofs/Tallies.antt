-- What each step of an edit adds to the tally: a vertex, an edge, a face with the edges it needs, and a face removed. And one step after another.
use Prim.Native.Nat.{ℕ, ◌+◌, ◌≤◌}
use native.Mathlib.Omega.{arith}
use mathlib.Core.Path.{◌≡◌, ap, ◌∙◌}
use mathlib.Core.List.{List}
use lib.ListN.{get_or}
use Rattle.rules.specs.declared.Position.{Position}
use Rattle.rules.specs.Table.{count, unused}
use Rattle.rules.specs.Mesh.{Mesh, vertex_kind, edge_kind, face_kind, next_key}
use Rattle.rules.specs.Link.{new_vertex}
use Rattle.rules.specs.Edit.{remove}
use Rattle.rules.specs.Call.{Need, pairs_without}
use Rattle.proved.specs.Facts.{SoundFacts, IsFace}
use Rattle.kept.specs.Frame.{ThreeCounters, Met, RoomForVertex, MadeEdge}
use Rattle.kept.specs.Reaches.{InsertMakes}
use Rattle.kept.specs.Suffices.{Tally}
use Rattle.kept.proofs.Free.{unused-same}
use Rattle.kept.proofs.Vertex.{vertex-took, vertex-rest, key-counted, other_keys}
use Rattle.kept.proofs.Remove.{removed, remove-rest, remove-frees}

pub tally-none : (m : Mesh) → Tally m m 0 0 0 0
tally-none m =
    record { vertex-rows = omega arith; edge-rows = omega arith; arc-rows = omega arith; face-rows = omega arith; vertex-keys = omega arith; edge-keys = omega arith; face-keys = omega arith }

pub tally-onto : {m a n : Mesh} {v e f g v' e' f' g' v'' e'' f'' g'' : ℕ} → Tally m a v e f g → Tally a n v' e' f' g' → v'' ≡ v + v' → e'' ≡ e + e' → f'' ≡ f + f' → g'' ≡ g + g' → Tally m n v'' e'' f'' g''
tally-onto p q v e f g =
    record {
      vertex-rows = omega (arith, p.vertex-rows, q.vertex-rows);
      edge-rows = omega (arith, p.edge-rows, q.edge-rows);
      arc-rows = omega (arith, p.arc-rows, q.arc-rows);
      face-rows = omega (arith, p.face-rows, q.face-rows);
      vertex-keys = omega (arith, p.vertex-keys, q.vertex-keys);
      edge-keys = omega (arith, p.edge-keys, q.edge-keys);
      face-keys = omega (arith, p.face-keys, q.face-keys);
    }

-- what is left of a need that was met: any further need that together with what was made is within it
pub left-met : {m a : Mesh} {v e f g : ℕ} {w w' : Need} → Tally m a v e f g → Met m w → v + w'.vertices ≤ w.vertices → e + w'.edges ≤ w.edges → f + w'.faces ≤ w.faces + g → f + w'.face_keys ≤ w.face_keys → Met a w'
left-met t r v e f k =
    record {
      vertex-rows = omega (arith, t.vertex-rows, r.vertex-rows);
      edge-rows = omega (arith, t.edge-rows, r.edge-rows);
      face-rows = omega (arith, t.face-rows, r.face-rows);
      vertex-keys = omega (arith, t.vertex-keys, r.vertex-keys);
      edge-keys = omega (arith, t.edge-keys, r.edge-keys);
      face-keys = omega (arith, t.face-keys, r.face-keys);
    }

-- ---- the steps

pub tally-vertex : (m : Mesh) → SoundFacts m → ThreeCounters m → (p : Position) → RoomForVertex m → Tally m (new_vertex m p) 1 0 0 0
tally-vertex m s k p r =
    record {
      vertex-rows = omega (arith, (vertex-took m p r s).fewer);
      edge-rows = omega (arith, ap (count unused) (vertex-rest m p r s).1);
      arc-rows = omega (arith, ap (count unused) (vertex-rest m p r s).0);
      face-rows = omega (arith, ap (count unused) (vertex-rest m p r s).2);
      vertex-keys = omega (arith, key-counted m p r s k);
      edge-keys = omega (arith, other_keys m p r s edge_kind (λ e. omega arith));
      face-keys = omega (arith, other_keys m p r s face_kind (λ e. omega arith));
    }

pub tally-edge : {m n : Mesh} {a b x y e : ℕ} → MadeEdge m n a b x y e → Tally m n 0 1 0 0
tally-edge {m} {n} w =
    record {
      vertex-rows = omega (arith, unused-same n.vertices m.vertices w.vertex-rows (λ v. w.vertex-cells v 0 (λ e. omega arith)));
      edge-rows = omega (arith, w.edge_row.fewer);
      arc-rows = omega (arith, w.arcs-fewer);
      face-rows = omega (arith, ap (count unused) w.faces-stay);
      vertex-keys = omega (arith, w.vertex-counter);
      edge-keys = omega (arith, w.edge-counter);
      face-keys = omega (arith, w.face-counter);
    }

pub tally-insert : {m n : Mesh} {per : List ℕ} → InsertMakes m n per → Tally m n 0 (pairs_without m per) 1 0
tally-insert w =
    record {
      vertex-rows = omega (arith, w.no-vertices);
      edge-rows = w.edges-made;
      arc-rows = w.arcs-made;
      face-rows = omega (arith, w.faces-made);
      vertex-keys = omega (arith, w.vertex-keys);
      edge-keys = w.edge-keys;
      face-keys = w.face-keys;
    }

pub tally-remove : (m : Mesh) → SoundFacts m → (f : ℕ) → IsFace m f → Tally m (remove m f) 0 0 0 1
tally-remove m s f u =
    record {
      vertex-rows = omega (arith, ap (count unused) (remove-rest m s f u).2);
      edge-rows = omega (arith, ap (count unused) (remove-rest m s f u).0);
      arc-rows = omega (arith, arcs);
      face-rows = omega (arith, remove-frees m s f u);
      vertex-keys = omega (arith, key vertex_kind);
      edge-keys = omega (arith, key edge_kind);
      face-keys = omega (arith, key face_kind);
    }
  where
    key : (c : ℕ) → next_key (remove m f) c ≡ next_key m c
    key c = ap (λ (z : List ℕ). get_or z c 0) (remove-rest m s f u).1

    arcs : count unused (remove m f).arcs ≡ count unused m.arcs
    arcs =
        let w = removed m s f u in
        ap (λ (n : Mesh). count unused n.arcs) w.1 ∙ unused-same w.0 m.arcs w.2.linked.ends.rows w.2.linked.ends.source_stays
