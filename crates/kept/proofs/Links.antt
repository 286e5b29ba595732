-- Links: connecting two arcs sets next of the first and previous of the second and no other cell; setting an arc's face sets no other cell.
-- Both keep the arcs linked, and a mesh with its arcs linked anew is sound if its rings are.
use Prim.Native.Nat.{ℕ, zero, suc, ◌≤◌, ◌<◌}
use native.Mathlib.Omega.{arith}
use mathlib.Core.Path.{◌≡◌, refl, ap, sym, subst, ◌∙◌}
use mathlib.Core.Bool.{not}
use mathlib.Core.List.{List}
use mathlib.Core.Logic.{◌⊎◌, inl, inr}
use lib.ListN.{length, get_or}
use lib.Dec.{T, eqb}
use Rattle.rules.specs.Table.{Table, cell, put, there, up_to}
use Rattle.rules.specs.Mesh.{Mesh, mesh, with_arcs, source, dest, edge, edge_arc, edge_other, leading, vertex_kind, edge_kind, face_kind, next_key}
use Rattle.rules.specs.Link.{connect, set_face}
use Rattle.proved.specs.Facts.{IsArc, IsEdge, KeysDiffer, KeysBelow, UnusedZero, RingFacts, SoundFacts}
use Rattle.proved.proofs.Rows.{cell-none, differ}
use Rattle.kept.specs.Frame.{AllButRings, connect_in, SameEnds, Linked}
use Rattle.kept.proofs.Base.{with-rings}
use Rattle.kept.proofs.Free.{unused-same}
use Rattle.kept.proofs.Cells.{put-rows, put-other-row, put-other-cell, put-here, put-either}

-- ---- the two writes, on one table

pub connect-is : (m : Mesh) (t : Table) (x y : ℕ) → connect (with_arcs m t) x y ≡ with_arcs m (connect_in t x y)
unfolding connect
connect-is m t x y = refl

pub set_face-is : (m : Mesh) (t : Table) (x f : ℕ) → set_face (with_arcs m t) x f ≡ with_arcs m (put t x 4 f)
unfolding set_face
set_face-is m t x f = refl

module _ (t : Table) (x y : ℕ) where
  -- all cells but next and previous stay
  pub connect-cell : (k c : ℕ) → (c ≡ 2 → ⊥) → (c ≡ 3 → ⊥) → cell (connect_in t x y) k c ≡ cell t k c
  connect-cell k c p q = put-other-cell (put t x 2 y) y 3 x k c q ∙ put-other-cell t x 2 y k c p

  -- next of every arc but x stays, and previous of every arc but y
  pub connect-next-other : (k : ℕ) → (k ≡ x → ⊥) → cell (connect_in t x y) k 2 ≡ cell t k 2
  connect-next-other k ne = put-other-cell (put t x 2 y) y 3 x k 2 (λ e. omega arith) ∙ put-other-row t x 2 y k 2 ne

  pub connect-previous-other : (k : ℕ) → (k ≡ y → ⊥) → cell (connect_in t x y) k 3 ≡ cell t k 3
  connect-previous-other k ne = put-other-row (put t x 2 y) y 3 x k 3 ne ∙ put-other-cell t x 2 y k 3 (λ e. omega arith)

  -- a row of neither stays whole
  pub connect-other : (k c : ℕ) → (k ≡ x → ⊥) → (k ≡ y → ⊥) → cell (connect_in t x y) k c ≡ cell t k c
  connect-other k c p q = put-other-row (put t x 2 y) y 3 x k c q ∙ put-other-row t x 2 y k c p

  -- what was set is read back, in a row that has an edge
  pub connect-next-here : (cell t x 5 ≡ 0 → ⊥) → cell (connect_in t x y) x 2 ≡ y
  connect-next-here n = put-other-cell (put t x 2 y) y 3 x x 2 (λ e. omega arith) ∙ put-here t x 2 y 5 n (omega arith)

  pub connect-previous-here : (cell t y 5 ≡ 0 → ⊥) → cell (connect_in t x y) y 3 ≡ x
  connect-previous-here n = put-here (put t x 2 y) y 3 x 5 (λ e. n (sym (put-other-cell t x 2 y y 5 (λ q. omega arith)) ∙ e)) (omega arith)

  -- next of an arc is as it was, or y if the arc is x; previous likewise
  pub connect-next-either : (k : ℕ) → ((k ≡ x) × (cell (connect_in t x y) k 2 ≡ y)) ⊎ (cell (connect_in t x y) k 2 ≡ cell t k 2)
  connect-next-either k = go (put-either t x 2 y k 2)
    where
      e : cell (connect_in t x y) k 2 ≡ cell (put t x 2 y) k 2
      e = put-other-cell (put t x 2 y) y 3 x k 2 (λ q. omega arith)

      go : ((k ≡ x) × (◌≡◌ {A = ℕ} 2 2) × (cell (put t x 2 y) k 2 ≡ y)) ⊎ (cell (put t x 2 y) k 2 ≡ cell t k 2) → ((k ≡ x) × (cell (connect_in t x y) k 2 ≡ y)) ⊎ (cell (connect_in t x y) k 2 ≡ cell t k 2)
      go (inl w) = inl (w.0, e ∙ w.2)
      go (inr w) = inr (e ∙ w)

  pub connect-previous-either : (k : ℕ) → ((k ≡ y) × (cell (connect_in t x y) k 3 ≡ x)) ⊎ (cell (connect_in t x y) k 3 ≡ cell t k 3)
  connect-previous-either k = go (put-either (put t x 2 y) y 3 x k 3)
    where
      go : ((k ≡ y) × (◌≡◌ {A = ℕ} 3 3) × (cell (connect_in t x y) k 3 ≡ x)) ⊎ (cell (connect_in t x y) k 3 ≡ cell (put t x 2 y) k 3) → ((k ≡ y) × (cell (connect_in t x y) k 3 ≡ x)) ⊎ (cell (connect_in t x y) k 3 ≡ cell t k 3)
      go (inl w) = inl (w.0, w.2)
      go (inr w) = inr (w ∙ put-other-cell t x 2 y k 3 (λ q. omega arith))

-- ---- they keep the arcs linked

pub same_ends : (m : Mesh) → SameEnds m m.arcs
same_ends m = record { rows = refl; source_stays = λ x. refl; dest-stays = λ x. refl; edge_stays = λ x. refl }

-- where the ends and the edges of t are those of u, so they are of m
pub ends-onto : (m : Mesh) (t u : Table) → SameEnds m u → length t ≡ length u → ((x c : ℕ) → (c ≡ 2 → ⊥) → (c ≡ 3 → ⊥) → (c ≡ 4 → ⊥) → cell t x c ≡ cell u x c) → SameEnds m t
ends-onto m t u w e h =
    record {
      rows = e ∙ w.rows;
      source_stays = λ x. h x 0 (λ q. omega arith) (λ q. omega arith) (λ q. omega arith) ∙ w.source_stays x;
      dest-stays = λ x. h x 1 (λ q. omega arith) (λ q. omega arith) (λ q. omega arith) ∙ w.dest-stays x;
      edge_stays = λ x. h x 5 (λ q. omega arith) (λ q. omega arith) (λ q. omega arith) ∙ w.edge_stays x;
    }

pub linked-same : (m : Mesh) → AllButRings m → Linked m m.arcs
linked-same m s = record { ends = same_ends m; next-leaves = s.next-leaves; previous-arrives = s.previous-arrives; free-zero = λ x c n. s.arcs-zero x c n }

module _ (m : Mesh) (t : Table) (w : Linked m t) where
  pub linked-face : (x f : ℕ) → IsArc m x → Linked m (put t x 4 f)
  linked-face x f a =
      record {
        ends = ends-onto m (put t x 4 f) t w.ends (put-rows t x 4 f) (λ k c p q r. put-other-cell t x 4 f k c r);
        next-leaves = λ k. rw (put-other-cell t x 4 f k 2 (λ e. omega arith)) (w.next-leaves k);
        previous-arrives = λ k. rw (put-other-cell t x 4 f k 3 (λ e. omega arith)) (w.previous-arrives k);
        free-zero = λ k c n. put-other-row t x 4 f k c (λ e. n (subst (IsArc m) (sym e) a)) ∙ w.free-zero k c n;
      }

  pub linked-connect : (x y : ℕ) → IsArc m x → IsArc m y → source m y ≡ dest m x → Linked m (connect_in t x y)
  linked-connect x y a b e =
      record {
        ends = ends-onto m (connect_in t x y) t w.ends (put-rows (put t x 2 y) y 3 x ∙ put-rows t x 2 y) (λ k c p q r. connect-cell t x y k c p q);
        next-leaves = λ k u. next-at k u (connect-next-either t x y k);
        previous-arrives = λ k u. previous-at k u (connect-previous-either t x y k);
        free-zero = λ k c n. connect-other t x y k c (λ q. n (subst (IsArc m) (sym q) a)) (λ q. n (subst (IsArc m) (sym q) b)) ∙ w.free-zero k c n;
      }
    where
      next-at : (k : ℕ) → IsArc m k → ((k ≡ x) × (cell (connect_in t x y) k 2 ≡ y)) ⊎ (cell (connect_in t x y) k 2 ≡ cell t k 2) → (cell (connect_in t x y) k 2 ≡ 0 → ⊥) → IsArc m (cell (connect_in t x y) k 2) × (source m (cell (connect_in t x y) k 2) ≡ dest m k)
      next-at k u (inl q) n = rw q.1 (b, e ∙ ap (dest m) (sym q.0))
      next-at k u (inr q) n = rw q (w.next-leaves k u (λ z. n (q ∙ z)))

      previous-at : (k : ℕ) → IsArc m k → ((k ≡ y) × (cell (connect_in t x y) k 3 ≡ x)) ⊎ (cell (connect_in t x y) k 3 ≡ cell t k 3) → (cell (connect_in t x y) k 3 ≡ 0 → ⊥) → IsArc m (cell (connect_in t x y) k 3) × (dest m (cell (connect_in t x y) k 3) ≡ source m k)
      previous-at k u (inl q) n = rw q.1 (a, sym e ∙ ap (source m) (sym q.0))
      previous-at k u (inr q) n = rw q (w.previous-arrives k u (λ z. n (q ∙ z)))

-- an arc of a sound mesh has an edge, so its row is wide enough for every cell
pub arc-wide : (m : Mesh) → AllButRings m → (t : Table) → SameEnds m t → (x : ℕ) → IsArc m x → cell t x 5 ≡ 0 → ⊥
arc-wide m s t w x a e =
    let u = s.edge-exists x a in
    let z : edge m x ≡ 0 = sym (w.edge_stays x) ∙ e in
    differ (cell m.edges 0 0) 0 (subst (IsEdge m) z u) (cell-none m.edges 0)

-- ---- a loop over the arcs alone

pub arcs-loop : (m : Mesh) (g : ℕ → Mesh → Mesh) (P : ℕ → Table → Type 0) (n : ℕ) → P 0 m.arcs → ((i : ℕ) (t : Table) → i < n → P i t → (u : Table) × (g i (with_arcs m t) ≡ with_arcs m u) × P (suc i) u) → (t : Table) × (up_to g n m ≡ with_arcs m t) × P n t
unfolding up_to
arcs-loop m g P zero p h = (m.arcs, refl, p)
arcs-loop m g P (suc n) p h = go (arcs-loop m g P n p (λ i t l. h i t (omega arith)))
  where
    go : (t : Table) × (up_to g n m ≡ with_arcs m t) × P n t → (t : Table) × (g n (up_to g n m) ≡ with_arcs m t) × P (suc n) t
    go w = let v = h n w.0 (omega arith) w.2 in (v.0, ap (g n) w.1 ∙ v.1, v.2)

-- ---- a mesh with its arcs linked anew, and other faces and counters

pub record OtherFaces (m : Mesh) (t : Table) (faces : Table) (counters : List ℕ) : Type 0 where
  pub face-rows : length faces ≤ 4096
  pub keys-differ : KeysDiffer faces
  pub keys_below : KeysBelow faces (get_or counters face_kind 0)
  pub vertex-counter : get_or counters vertex_kind 0 ≡ next_key m vertex_kind
  pub edge-counter : get_or counters edge_kind 0 ≡ next_key m edge_kind
  pub free-zero : UnusedZero faces
  pub face-exists : (x : ℕ) → IsArc m x → (cell t x 4 ≡ 0 → ⊥) → T (there faces (cell t x 4))

module _ (m : Mesh) (s : AllButRings m) (t : Table) (w : Linked m t) (faces : Table) (counters : List ℕ) (f : OtherFaces m t faces counters) where
  abbrev relinked : Mesh
  relinked = mesh m.vertices m.positions t m.edges faces counters

  pub arc-was : (x : ℕ) → T (there t x) → IsArc m x
  arc-was x h = subst (λ (z : ℕ). T (not (eqb z 0))) (w.ends.source_stays x) h

  pub arc-still : (x : ℕ) → IsArc m x → T (there t x)
  arc-still x h = subst (λ (z : ℕ). T (not (eqb z 0))) (sym (w.ends.source_stays x)) h

  pub relinked-kept : AllButRings (mesh m.vertices m.positions t m.edges faces counters)
  relinked-kept =
      record {
        sizes = record { vertex-rows = s.sizes.vertex-rows; position-rows = s.sizes.position-rows; edge-rows = s.sizes.edge-rows; arc-rows = w.ends.rows ∙ s.sizes.arc-rows; face-rows = f.face-rows };
        vertex-keys-differ = s.vertex-keys-differ;
        edge-keys-differ = s.edge-keys-differ;
        face-keys-differ = f.keys-differ;
        vertex-keys-below = λ l u. rw f.vertex-counter (s.vertex-keys-below l u);
        edge-keys-below = λ l u. rw f.edge-counter (s.edge-keys-below l u);
        face-keys-below = f.keys_below;
        both-arcs = λ e u.
            let b = s.both-arcs e u in
            record {
              first-exists = arc-still (edge_arc m e) b.first-exists;
              second-exists = arc-still (edge_other m e) b.second-exists;
              first_holds = w.ends.edge_stays (edge_arc m e) ∙ b.first_holds;
              second_holds = w.ends.edge_stays (edge_other m e) ∙ b.second_holds;
              leaves-where-ends = w.ends.source_stays (edge_arc m e) ∙ b.leaves-where-ends ∙ sym (w.ends.dest-stays (edge_other m e));
              ends-where-leaves = w.ends.dest-stays (edge_arc m e) ∙ b.ends-where-leaves ∙ sym (w.ends.source_stays (edge_other m e));
            };
        ends-differ = λ x u e. s.ends-differ x (arc-was x u) (sym (w.ends.source_stays x) ∙ e ∙ w.ends.dest-stays x);
        ends-exist = λ x u. let q = s.ends-exist x (arc-was x u) in (rw (w.ends.source_stays x) q.0, rw (w.ends.dest-stays x) q.1);
        pairs-differ = λ x y u v p q. s.pairs-differ x y (arc-was x u) (arc-was y v) (sym (w.ends.source_stays x) ∙ p ∙ w.ends.source_stays y) (sym (w.ends.dest-stays x) ∙ q ∙ w.ends.dest-stays y);
        edge-exists = λ x u. rw (w.ends.edge_stays x) (s.edge-exists x (arc-was x u));
        edge-names = λ x u. rw (w.ends.edge_stays x) (s.edge-names x (arc-was x u));
        leads-out = λ v u n. let q = s.leads-out v u n in (arc-still (leading m v) q.0, w.ends.source_stays (leading m v) ∙ q.1);
        next-leaves = λ x u n. let q = w.next-leaves x (arc-was x u) n in (arc-still (cell t x 2) q.0, w.ends.source_stays (cell t x 2) ∙ q.1 ∙ sym (w.ends.dest-stays x));
        previous-arrives = λ x u n. let q = w.previous-arrives x (arc-was x u) n in (arc-still (cell t x 3) q.0, w.ends.dest-stays (cell t x 3) ∙ q.1 ∙ sym (w.ends.source_stays x));
        face-exists = λ x u n. f.face-exists x (arc-was x u) n;
        two-free = rw (unused-same t m.arcs w.ends.rows w.ends.source_stays) s.two-free;
        vertices-zero = s.vertices-zero;
        arcs-zero = λ x c n. w.free-zero x c (λ u. n (arc-still x u));
        edges-zero = s.edges-zero;
        faces-zero = f.free-zero;
        positions-zero = s.positions-zero;
        all-finite = s.all-finite;
      }

  -- sound, if its rings are
  pub relinked-sound : ((g : ℕ) → T (there faces g) → RingFacts (mesh m.vertices m.positions t m.edges faces counters) g) → SoundFacts (mesh m.vertices m.positions t m.edges faces counters)
  relinked-sound rings = with-rings (mesh m.vertices m.positions t m.edges faces counters) relinked-kept rings
