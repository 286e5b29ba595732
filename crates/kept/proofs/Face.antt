-- A new face's record: it takes a free row, with its key, its arc and its mark, and every other row of the faces stays. Under the need of an
-- insert it finds its row and its key after the edges too.
use Prim.Native.Nat.{ℕ, ◌<◌}
use native.Mathlib.Omega.{arith}
use mathlib.Core.Path.{◌≡◌, refl, ap, sym, subst, ◌∙◌}
use mathlib.Core.List.{List, [], ◌∷◌}
use mathlib.Core.Logic.{◌⊎◌, inl, inr}
use lib.ListN.{length}
use lib.Dec.{T}
use Rattle.rules.specs.Table.{Table, cell, there, put_row, free_row, used}
use Rattle.rules.specs.Mesh.{Mesh, mesh, face, vertex_kind, edge_kind, face_kind, next_key, one_up, counted}
use Rattle.rules.specs.Insert.{arc_at, new_face}
use Rattle.rules.specs.Call.{insert_need}
use Rattle.proved.specs.Facts.{IsArc}
use Rattle.proved.proofs.Rows.{differ-T}
use Rattle.kept.specs.Frame.{AllButRings, Took, ThreeCounters, Met, RoomForFace}
use Rattle.kept.specs.Perimeter.{Grown, Inserted}
use Rattle.kept.proofs.Free.{took, new-there, old-differs, old-there, took-zero, took-keys-differ, took-keys-below}
use Rattle.kept.proofs.Counted.{key_back, one-up-some, counted-here, counted-other}
use Rattle.kept.proofs.Links.{OtherFaces}
use Rattle.kept.proofs.EdgesIn.{RoomForEdges}
use Rattle.kept.proofs.NewRing.{among}

-- ---- the need of an insert

pub edges_room : (m : Mesh) (per : List ℕ) → ThreeCounters m → Met m (insert_need m per) → RoomForEdges m per
unfolding insert_need
edges_room m per k w = record { rows = w.edge-rows; keys = w.edge-keys; counters = k }

-- after the edges a face still has its row and its key
pub face-room : (m n : Mesh) (per : List ℕ) → ThreeCounters m → Met m (insert_need m per) → Grown per m n → RoomForFace n
unfolding insert_need
face-room m n per k w g =
    record { a-row = rw g.faces-stay w.face-rows; a_key = rw g.face-counter w.face-keys; counters = omega (arith, k, g.counter-rows) }

-- ---- the record

module _ (m : Mesh) (s : AllButRings m) (r : RoomForFace m) (x mark : ℕ) where
  abbrev pub face_link : ℕ
  face_link = free_row m.faces

  abbrev pub face_row : List ℕ
  face_row = one_up (next_key m face_kind) ∷ x ∷ mark ∷ []

  abbrev pub with_face : Table
  with_face = put_row m.faces face_link face_row

  pub new-face-is : new_face m x mark ≡ mesh m.vertices m.positions m.arcs m.edges with_face (counted m.counters face_kind)
  unfolding new_face
  new-face-is = refl

  face-used : T (used face_row)
  face-used = differ-T (one_up (next_key m face_kind)) 0 (one-up-some (next_key m face_kind) r.a_key)

  pub face-took : Took m.faces with_face face_link face_row
  face-took = took m.faces (omega (arith, s.sizes.face-rows)) r.a-row face_row face-used

  pub new-face-there : T (there with_face face_link)
  new-face-there = new-there face-took face-used

  -- no arc holds it yet
  pub unheld : (y : ℕ) → IsArc m y → face m y ≡ face_link → ⊥
  unheld y u e =
      let l = face-took.some in
      let h = s.face-exists y u (λ z. omega arith) in
      old-differs face-took (face m y) h e

  -- the faces and counters after an insert
  pub faces-after : (per : List ℕ) (t : Table) → Inserted m per face_link t → OtherFaces m t with_face (counted m.counters face_kind)
  faces-after per t w =
      record {
        face-rows = rw face-took.rows s.sizes.face-rows;
        keys-differ = took-keys-differ face-took (next_key m face_kind) (key_back (next_key m face_kind) r.a_key) s.face-keys-below s.face-keys-differ;
        keys_below = λ l u. rw (counted-here m.counters face_kind (omega (arith, r.counters)) r.a_key) (took-keys-below face-took (next_key m face_kind) (key_back (next_key m face_kind) r.a_key) s.face-keys-below l u);
        vertex-counter = counted-other m.counters face_kind vertex_kind (λ e. omega arith);
        edge-counter = counted-other m.counters face_kind edge_kind (λ e. omega arith);
        free-zero = took-zero face-took face-used s.faces-zero;
        face-exists = λ y u n. exists y u n (among (arc_at m per) (length per) y);
      }
    where
      exists : (y : ℕ) → IsArc m y → (cell t y 4 ≡ 0 → ⊥) → ((i : ℕ) × (i < length per) × (y ≡ arc_at m per i)) ⊎ ((i : ℕ) → i < length per → y ≡ arc_at m per i → ⊥) → T (there with_face (cell t y 4))
      exists y u n (inl q) = subst (λ (z : ℕ). T (there with_face z)) (sym (ap (λ (z : ℕ). cell t z 4) q.2 ∙ w.face-on q.0 q.1)) new-face-there
      exists y u n (inr o) =
          let e = w.faces-stay y o in
          subst (λ (z : ℕ). T (there with_face z)) (sym e) (old-there face-took (face m y) (s.face-exists y u (λ z. n (e ∙ z))))
