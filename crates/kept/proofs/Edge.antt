-- A new edge: what it changes, and that it keeps every clause of Sound, every ring too, for any two vertices with no arc between them.
use Prim.Native.Nat.{ℕ, ◌-◌, ◌*◌, ◌≤◌}
use native.Mathlib.Omega.{arith}
use native.Mathlib.Decide.{ℕ_discrete}
use mathlib.Core.Path.{◌≡◌, refl, ap, sym, subst, ◌∙◌}
use mathlib.Core.Bool.{not}
use mathlib.Core.List.{[], ◌∷◌}
use mathlib.Core.Logic.{◌⊎◌, inl, inr}
use lib.ListN.{length, length-set}
use lib.Dec.{T, eqb}
use Rattle.rules.specs.Table.{Table, cell, put, put_row, used, free_row}
use Rattle.rules.specs.Mesh.{Mesh, source, dest, next, previous, face, edge, edge_arc, edge_other, leading, vertex_kind, edge_kind, face_kind, next_key, one_up}
use Rattle.rules.specs.Link.{new_arc, new_edge}
use Rattle.proved.specs.Demand.{Holds}
use Rattle.proved.specs.Facts.{BothArcs, IsVertex, IsArc, IsEdge, IsFace}
use Rattle.proved.proofs.Rows.{differ, differ-T, in_table}
use Rattle.kept.specs.Frame.{AllButRings, Took, RingStays, RoomForEdge, arc_row, MadeEdge}
use Rattle.kept.specs.Said.{arc_said, edge_said}
use Rattle.kept.proofs.Cells.{put-rows, put-other-cell, put-other-row, put-either, put-wide, put-width}
use Rattle.kept.proofs.Free.{took, new-there, old-differs, old-there, old-cell, there-cases, took-zero, took-keys-differ, took-keys-below}
use Rattle.kept.proofs.Counted.{key_back, one-up-some, counted-here, counted-other}

-- ---- what a new edge changes

-- rule 4 is as it is said here
pub edge-said : (m : Mesh) (a b : ℕ) → new_edge m a b ≡ edge_said m a b
unfolding new_edge new_arc edge_said arc_said
edge-said m a b = refl

module _ (m : Mesh) (s : AllButRings m) (a b : ℕ) (r : RoomForEdge m a b) where
  -- its rows
  abbrev pub new_link : ℕ
  new_link = free_row m.edges

  abbrev pub forth_link : ℕ
  forth_link = free_row m.arcs

  abbrev arcs₁ : Table
  arcs₁ = put_row m.arcs forth_link (arc_row a b new_link)

  abbrev pub back_link : ℕ
  back_link = free_row arcs₁

  abbrev arcs₂ : Table
  arcs₂ = put_row arcs₁ back_link (arc_row b a new_link)

  abbrev vertices₁ : Table
  vertices₁ = put m.vertices a 1 forth_link

  abbrev vertices₂ : Table
  vertices₂ = put vertices₁ b 1 back_link

  some-a : a ≡ 0 → ⊥
  some-a e = let w = in_table m.vertices a r.from-vertex in omega arith

  some-b : b ≡ 0 → ⊥
  some-b e = let w = in_table m.vertices b r.to-vertex in omega arith

  first-took : Took m.arcs arcs₁ forth_link (arc_row a b new_link)
  first-took = took m.arcs (omega (arith, s.sizes.arc-rows, s.sizes.edge-rows)) (omega (arith, s.two-free, r.a-row)) (arc_row a b new_link) (differ-T a 0 some-a)

  second-took : Took arcs₁ arcs₂ back_link (arc_row b a new_link)
  second-took = took arcs₁ (omega (arith, first-took.rows, s.sizes.arc-rows, s.sizes.edge-rows)) (omega (arith, first-took.fewer, s.two-free, r.a-row)) (arc_row b a new_link) (differ-T b 0 some-b)

  pub back-finds : 1 ≤ free_row (new_arc m a b new_link).arcs
  unfolding new_arc
  back-finds = second-took.some

  two-links : forth_link ≡ back_link → ⊥
  two-links = old-differs second-took forth_link (new-there first-took (differ-T a 0 some-a))

  key_row : T (used (one_up (next_key m edge_kind) ∷ forth_link ∷ back_link ∷ []))
  key_row = differ-T (one_up (next_key m edge_kind)) 0 (one-up-some (next_key m edge_kind) r.a_key)

  made-said : MadeEdge m (edge_said m a b) a b forth_link back_link new_link
  unfolding edge_said arc_said
  made-said =
      record {
        edge_row = took m.edges (omega (arith, s.sizes.edge-rows)) r.a-row (one_up (next_key m edge_kind) ∷ forth_link ∷ back_link ∷ []) key_row;
        first-row = λ c. second-took.others forth_link c two-links ∙ first-took.row c;
        second-row = second-took.row;
        arcs-stay = λ k c p q. second-took.others k c q ∙ first-took.others k c p;
        first-free = first-took.was_free;
        second-free = sym (first-took.others back_link 0 (λ e. two-links (sym e))) ∙ second-took.was_free;
        arc-rows = second-took.rows ∙ first-took.rows;
        arcs-fewer = omega (arith, first-took.fewer, second-took.fewer);
        vertex-rows = put-rows vertices₁ b 1 back_link ∙ put-rows m.vertices a 1 forth_link;
        vertex-cells = λ v c n. put-other-cell vertices₁ b 1 back_link v c n ∙ put-other-cell m.vertices a 1 forth_link v c n;
        leads = λ v. lead v (put-either vertices₁ b 1 back_link v 1) (put-either m.vertices a 1 forth_link v 1);
        leads-first = λ h. put-other-row vertices₁ b 1 back_link a 1 r.ends-differ ∙ put-wide m.vertices a 1 forth_link (in_table m.vertices a r.from-vertex).0 (in_table m.vertices a r.from-vertex).1 h;
        leads-second = λ h. put-wide vertices₁ b 1 back_link some (rw (put-rows m.vertices a 1 forth_link) (in_table m.vertices b r.to-vertex).1) (rw (put-width m.vertices a 1 forth_link b some (λ e. r.ends-differ (sym e))) h);
        other-vertices = λ v c p q. put-other-row vertices₁ b 1 back_link v c q ∙ put-other-row m.vertices a 1 forth_link v c p;
        positions-stay = refl;
        faces-stay = refl;
        vertex-counter = counted-other m.counters edge_kind vertex_kind (λ e. omega arith);
        edge-counter = counted-here m.counters edge_kind (omega (arith, r.counters)) r.a_key;
        face-counter = counted-other m.counters edge_kind face_kind (λ e. omega arith);
        counter-rows = length-set m.counters edge_kind (one_up (next_key m edge_kind));
      }
    where
      some : 1 ≤ b
      some = (in_table m.vertices b r.to-vertex).0

      lead : (v : ℕ) → ((v ≡ b) × (◌≡◌ {A = ℕ} 1 1) × (cell vertices₂ v 1 ≡ back_link)) ⊎ (cell vertices₂ v 1 ≡ cell vertices₁ v 1) → ((v ≡ a) × (◌≡◌ {A = ℕ} 1 1) × (cell vertices₁ v 1 ≡ forth_link)) ⊎ (cell vertices₁ v 1 ≡ cell m.vertices v 1) → (cell vertices₂ v 1 ≡ cell m.vertices v 1) ⊎ (((v ≡ a) × (cell vertices₂ v 1 ≡ forth_link)) ⊎ ((v ≡ b) × (cell vertices₂ v 1 ≡ back_link)))
      lead v (inl p) q = inr (inr (p.0, p.2))
      lead v (inr p) (inl q) = inr (inl (q.0, p ∙ q.2))
      lead v (inr p) (inr q) = inl (p ∙ q)

  pub made-edge : MadeEdge m (new_edge m a b) a b forth_link back_link new_link
  made-edge = rw (edge-said m a b) made-said

-- ---- arcs and edges of a mesh with one edge more

module _ {m n : Mesh} {a b x y e : ℕ} (w : MadeEdge m n a b x y e) where
  pub made-old-cell : (k c : ℕ) → IsArc m k → cell n.arcs k c ≡ cell m.arcs k c
  made-old-cell k c u =
      w.arcs-stay k c (λ q. differ (cell m.arcs k 0) 0 u (ap (λ (z : ℕ). cell m.arcs z 0) q ∙ w.first-free)) (λ q. differ (cell m.arcs k 0) 0 u (ap (λ (z : ℕ). cell m.arcs z 0) q ∙ w.second-free))

  pub made-old-arc : (k : ℕ) → IsArc m k → IsArc n k
  made-old-arc k u = subst (λ (z : ℕ). T (not (eqb z 0))) (sym (made-old-cell k 0 u)) u

  -- an arc is one of the two new ones, or an old one
  pub made-arc-cases : (k : ℕ) → IsArc n k → (k ≡ x) ⊎ ((k ≡ y) ⊎ IsArc m k)
  made-arc-cases k u = go (ℕ_discrete k x) (ℕ_discrete k y)
    where
      go : Dec (k ≡ x) → Dec (k ≡ y) → (k ≡ x) ⊎ ((k ≡ y) ⊎ IsArc m k)
      go (yes p) q = inl p
      go (no p) (yes q) = inr (inl q)
      go (no p) (no q) = inr (inr (subst (λ (z : ℕ). T (not (eqb z 0))) (w.arcs-stay k 0 p q) u))

  pub made-vertex : (v : ℕ) → IsVertex m v → IsVertex n v
  made-vertex v u = subst (λ (z : ℕ). T (not (eqb z 0))) (sym (w.vertex-cells v 0 (λ q. omega arith))) u

  pub made-vertex-was : (v : ℕ) → IsVertex n v → IsVertex m v
  made-vertex-was v u = subst (λ (z : ℕ). T (not (eqb z 0))) (w.vertex-cells v 0 (λ q. omega arith)) u

-- ---- a new edge keeps every clause but rings, and every ring stays

module _ {m n : Mesh} {a b x y e : ℕ} (w : MadeEdge m n a b x y e) (r : RoomForEdge m a b) (s : AllButRings m) where
  key-used : T (used (one_up (next_key m edge_kind) ∷ x ∷ y ∷ []))
  key-used = differ-T (one_up (next_key m edge_kind)) 0 (one-up-some (next_key m edge_kind) r.a_key)

  is-first : IsArc n x
  is-first = differ-T (source n x) 0 (λ q. let l = in_table m.vertices a r.from-vertex in omega (arith, sym (w.first-row 0) ∙ q))

  is-second : IsArc n y
  is-second = differ-T (source n y) 0 (λ q. let l = in_table m.vertices b r.to-vertex in omega (arith, sym (w.second-row 0) ∙ q))

  -- nor is there an arc the other way: its edge would have one from a to b
  pub no-arc-back : (k : ℕ) → IsArc m k → source m k ≡ b → dest m k ≡ a → ⊥
  no-arc-back k u p q = go (s.edge-names k u)
    where
      both : BothArcs m (edge m k)
      both = s.both-arcs (edge m k) (s.edge-exists k u)

      go : (edge_arc m (edge m k) ≡ k) ⊎ (edge_other m (edge m k) ≡ k) → ⊥
      go (inl i) = r.no-arc (edge_other m (edge m k)) both.second-exists (sym both.ends-where-leaves ∙ ap (dest m) i ∙ q) (sym both.leaves-where-ends ∙ ap (source m) i ∙ p)
      go (inr i) = r.no-arc (edge_arc m (edge m k)) both.first-exists (both.leaves-where-ends ∙ ap (dest m) i ∙ q) (both.ends-where-leaves ∙ ap (source m) i ∙ p)

  -- a fact about each arc, from the two new ones and the old ones
  each-arc : (P : ℕ → Type 0) → P x → P y → ((k : ℕ) → IsArc m k → P k) → (k : ℕ) → IsArc n k → P k
  each-arc P p q o k u = go (made-arc-cases w k u)
    where
      go : (k ≡ x) ⊎ ((k ≡ y) ⊎ IsArc m k) → P k
      go (inl i) = subst P (sym i) p
      go (inr (inl i)) = subst P (sym i) q
      go (inr (inr i)) = o k i

  new-both : BothArcs n e
  new-both =
      let p : edge_arc n e ≡ x = w.edge_row.row 1 in
      let q : edge_other n e ≡ y = w.edge_row.row 2 in
      record {
        first-exists = rw p is-first;
        second-exists = rw q is-second;
        first_holds = ap (edge n) p ∙ w.first-row 5;
        second_holds = ap (edge n) q ∙ w.second-row 5;
        leaves-where-ends = ap (source n) p ∙ w.first-row 0 ∙ sym (ap (dest n) q ∙ w.second-row 1);
        ends-where-leaves = ap (dest n) p ∙ w.first-row 1 ∙ sym (ap (source n) q ∙ w.second-row 0);
      }

  old-both : (g : ℕ) → IsEdge m g → BothArcs n g
  old-both g u =
      let h = s.both-arcs g u in
      let p : edge_arc n g ≡ edge_arc m g = old-cell w.edge_row g 1 u in
      let q : edge_other n g ≡ edge_other m g = old-cell w.edge_row g 2 u in
      let x' = edge_arc m g in
      let y' = edge_other m g in
      let i = h.first-exists in
      let j = h.second-exists in
      record {
        first-exists = rw p (made-old-arc w x' i);
        second-exists = rw q (made-old-arc w y' j);
        first_holds = ap (edge n) p ∙ made-old-cell w x' 5 i ∙ h.first_holds;
        second_holds = ap (edge n) q ∙ made-old-cell w y' 5 j ∙ h.second_holds;
        leaves-where-ends = ap (source n) p ∙ made-old-cell w x' 0 i ∙ h.leaves-where-ends ∙ sym (ap (dest n) q ∙ made-old-cell w y' 1 j);
        ends-where-leaves = ap (dest n) p ∙ made-old-cell w x' 1 i ∙ h.ends-where-leaves ∙ sym (ap (source n) q ∙ made-old-cell w y' 0 j);
      }

  -- no two arcs have the same ends
  pairs : (j k : ℕ) → IsArc n j → IsArc n k → source n j ≡ source n k → dest n j ≡ dest n k → j ≡ k
  pairs j k u v p q = go (made-arc-cases w j u) (made-arc-cases w k v)
    where
      old : (i c : ℕ) → IsArc m i → cell n.arcs i c ≡ cell m.arcs i c
      old = made-old-cell w

      go : (j ≡ x) ⊎ ((j ≡ y) ⊎ IsArc m j) → (k ≡ x) ⊎ ((k ≡ y) ⊎ IsArc m k) → j ≡ k
      go (inl i) (inl l) = i ∙ sym l
      go (inl i) (inr (inl l)) = absurd (r.ends-differ (sym (ap (source n) i ∙ w.first-row 0) ∙ p ∙ ap (source n) l ∙ w.second-row 0))
      go (inl i) (inr (inr l)) = absurd (r.no-arc k l (sym (old k 0 l) ∙ sym p ∙ ap (source n) i ∙ w.first-row 0) (sym (old k 1 l) ∙ sym q ∙ ap (dest n) i ∙ w.first-row 1))
      go (inr (inl i)) (inl l) = absurd (r.ends-differ (sym (ap (source n) l ∙ w.first-row 0) ∙ sym p ∙ ap (source n) i ∙ w.second-row 0))
      go (inr (inl i)) (inr (inl l)) = i ∙ sym l
      go (inr (inl i)) (inr (inr l)) = absurd (no-arc-back k l (sym (old k 0 l) ∙ sym p ∙ ap (source n) i ∙ w.second-row 0) (sym (old k 1 l) ∙ sym q ∙ ap (dest n) i ∙ w.second-row 1))
      go (inr (inr i)) (inl l) = absurd (r.no-arc j i (sym (old j 0 i) ∙ p ∙ ap (source n) l ∙ w.first-row 0) (sym (old j 1 i) ∙ q ∙ ap (dest n) l ∙ w.first-row 1))
      go (inr (inr i)) (inr (inl l)) = absurd (no-arc-back j i (sym (old j 0 i) ∙ p ∙ ap (source n) l ∙ w.second-row 0) (sym (old j 1 i) ∙ q ∙ ap (dest n) l ∙ w.second-row 1))
      go (inr (inr i)) (inr (inr l)) = s.pairs-differ j k i l (sym (old j 0 i) ∙ p ∙ old k 0 l) (sym (old j 1 i) ∙ q ∙ old k 1 l)

  new-edge-there : IsEdge n e
  new-edge-there = new-there w.edge_row key-used

  -- every ring stays: the new arcs hold no face
  pub made-ring : (g : ℕ) → IsFace m g → RingStays m n g
  made-ring g h =
      record {
        first = ap (λ (t : Table). cell t g 1) w.faces-stay;
        rows = w.arc-rows;
        keeps = λ k c q. made-old-cell w k c q.exists;
        no_more = λ k q. go k q (made-arc-cases w k q.exists);
      }
    where
      none : g ≡ 0 → ⊥
      none z = let l = in_table m.faces g h in omega arith

      go : (k : ℕ) → Holds n g k → (k ≡ x) ⊎ ((k ≡ y) ⊎ IsArc m k) → Holds m g k
      go k q (inl i) = absurd (none (sym q.its-face ∙ ap (face n) i ∙ w.first-row 4))
      go k q (inr (inl i)) = absurd (none (sym q.its-face ∙ ap (face n) i ∙ w.second-row 4))
      go k q (inr (inr i)) = record { exists = i; its-face = sym (made-old-cell w k 4 i) ∙ q.its-face }

  pub edge_kept : AllButRings n
  edge_kept =
      record {
        sizes = record { vertex-rows = rw w.vertex-rows s.sizes.vertex-rows; position-rows = ap length w.positions-stay ∙ s.sizes.position-rows ∙ sym w.vertex-rows; edge-rows = rw w.edge_row.rows s.sizes.edge-rows; arc-rows = w.arc-rows ∙ s.sizes.arc-rows ∙ ap (λ (z : ℕ). 2 * z) (sym w.edge_row.rows); face-rows = rw w.faces-stay s.sizes.face-rows };
        vertex-keys-differ = λ j k u v q. s.vertex-keys-differ j k (made-vertex-was w j u) (made-vertex-was w k v) (sym (vertex-key j) ∙ q ∙ vertex-key k);
        edge-keys-differ = took-keys-differ w.edge_row (next_key m edge_kind) (key_back (next_key m edge_kind) r.a_key) s.edge-keys-below s.edge-keys-differ;
        face-keys-differ = rw w.faces-stay s.face-keys-differ;
        vertex-keys-below = λ k u. rw (w.vertex-counter, vertex-key k) (s.vertex-keys-below k (made-vertex-was w k u));
        edge-keys-below = λ k u. rw w.edge-counter (took-keys-below w.edge_row (next_key m edge_kind) (key_back (next_key m edge_kind) r.a_key) s.edge-keys-below k u);
        face-keys-below = rw (w.face-counter, w.faces-stay) s.face-keys-below;
        both-arcs = λ g u. both g (there-cases w.edge_row g u);
        ends-differ = each-arc (λ k. source n k ≡ dest n k → ⊥) (λ q. r.ends-differ (sym (w.first-row 0) ∙ q ∙ w.first-row 1)) (λ q. r.ends-differ (sym (sym (w.second-row 0) ∙ q ∙ w.second-row 1))) (λ k u q. s.ends-differ k u (sym (made-old-cell w k 0 u) ∙ q ∙ made-old-cell w k 1 u));
        ends-exist = each-arc (λ k. IsVertex n (source n k) × IsVertex n (dest n k)) (rw (w.first-row 0, w.first-row 1) (is-a, is_b)) (rw (w.second-row 0, w.second-row 1) (is_b, is-a)) (λ k u. rw (made-old-cell w k 0 u, made-old-cell w k 1 u) (made-vertex w (source m k) (s.ends-exist k u).0, made-vertex w (dest m k) (s.ends-exist k u).1));
        pairs-differ = pairs;
        edge-exists = each-arc (λ k. IsEdge n (edge n k)) (rw (w.first-row 5) new-edge-there) (rw (w.second-row 5) new-edge-there) (λ k u. rw (made-old-cell w k 5 u) (old-there w.edge_row (edge m k) (s.edge-exists k u)));
        edge-names = each-arc (λ k. (edge_arc n (edge n k) ≡ k) ⊎ (edge_other n (edge n k) ≡ k)) (inl (ap (edge_arc n) (w.first-row 5) ∙ w.edge_row.row 1)) (inr (ap (edge_other n) (w.second-row 5) ∙ w.edge_row.row 2)) (λ k u. rw (made-old-cell w k 5 u, old-cell w.edge_row (edge m k) 1 (s.edge-exists k u), old-cell w.edge_row (edge m k) 2 (s.edge-exists k u)) (s.edge-names k u));
        leads-out = λ v u q. out v (made-vertex-was w v u) q (w.leads v);
        next-leaves = each-arc (λ k. (next n k ≡ 0 → ⊥) → IsArc n (next n k) × (source n (next n k) ≡ dest n k)) (λ q. absurd (q (w.first-row 2))) (λ q. absurd (q (w.second-row 2))) (λ k u q. let h = s.next-leaves k u (λ z. q (made-old-cell w k 2 u ∙ z)) in rw (made-old-cell w k 2 u, made-old-cell w k 1 u) (made-old-arc w (next m k) h.0, made-old-cell w (next m k) 0 h.0 ∙ h.1));
        previous-arrives = each-arc (λ k. (previous n k ≡ 0 → ⊥) → IsArc n (previous n k) × (dest n (previous n k) ≡ source n k)) (λ q. absurd (q (w.first-row 3))) (λ q. absurd (q (w.second-row 3))) (λ k u q. let h = s.previous-arrives k u (λ z. q (made-old-cell w k 3 u ∙ z)) in rw (made-old-cell w k 3 u, made-old-cell w k 0 u) (made-old-arc w (previous m k) h.0, made-old-cell w (previous m k) 1 h.0 ∙ h.1));
        face-exists = each-arc (λ k. (face n k ≡ 0 → ⊥) → IsFace n (face n k)) (λ q. absurd (q (w.first-row 4))) (λ q. absurd (q (w.second-row 4))) (λ k u q. rw (w.faces-stay, made-old-cell w k 4 u) (s.face-exists k u (λ z. q (made-old-cell w k 4 u ∙ z))));
        vertices-zero = λ v c q. zero-vertex v c (λ u. q (made-vertex w v u)) (w.leads v) (ℕ_discrete c 1);
        arcs-zero = λ k c q. w.arcs-stay k c (λ i. q (subst (IsArc n) (sym i) is-first)) (λ i. q (subst (IsArc n) (sym i) is-second)) ∙ s.arcs-zero k c (λ u. q (made-old-arc w k u));
        edges-zero = took-zero w.edge_row key-used s.edges-zero;
        faces-zero = rw w.faces-stay s.faces-zero;
        two-free = omega (arith, s.two-free, w.arcs-fewer, w.edge_row.fewer);
        positions-zero = λ v c i j q l. rw w.positions-stay (s.positions-zero v c i (rw w.positions-stay at j) (λ u. q (made-vertex w v u)) l);
        all-finite = λ v c i j l q. s.all-finite v c i (rw w.positions-stay at j) l (rw w.positions-stay at q);
      }
    where
      vertex-key : (v : ℕ) → cell n.vertices v 0 - 1 ≡ cell m.vertices v 0 - 1
      vertex-key v = ap (λ (z : ℕ). z - 1) (w.vertex-cells v 0 (λ q. omega arith))

      is-a : IsVertex n a
      is-a = made-vertex w a r.from-vertex

      is_b : IsVertex n b
      is_b = made-vertex w b r.to-vertex

      both : (g : ℕ) → (g ≡ e) ⊎ IsEdge m g → BothArcs n g
      both g (inl q) = subst (BothArcs n) (sym q) new-both
      both g (inr u) = old-both g u

      out : (v : ℕ) → IsVertex m v → (leading n v ≡ 0 → ⊥) → (leading n v ≡ leading m v) ⊎ (((v ≡ a) × (leading n v ≡ x)) ⊎ ((v ≡ b) × (leading n v ≡ y))) → IsArc n (leading n v) × (source n (leading n v) ≡ v)
      out v u q (inl i) = let h = s.leads-out v u (λ z. q (i ∙ z)) in rw i (made-old-arc w (leading m v) h.0, made-old-cell w (leading m v) 0 h.0 ∙ h.1)
      out v u q (inr (inl i)) = rw i.1 (is-first, w.first-row 0 ∙ sym i.0)
      out v u q (inr (inr i)) = rw i.1 (is-second, w.second-row 0 ∙ sym i.0)

      zero-vertex : (v c : ℕ) → (IsVertex m v → ⊥) → (leading n v ≡ leading m v) ⊎ (((v ≡ a) × (leading n v ≡ x)) ⊎ ((v ≡ b) × (leading n v ≡ y))) → Dec (c ≡ 1) → cell n.vertices v c ≡ 0
      zero-vertex v c q l (no d) = w.vertex-cells v c d ∙ s.vertices-zero v c q
      zero-vertex v c q (inl i) (yes d) = ap (cell n.vertices v) d ∙ i ∙ s.vertices-zero v 1 q
      zero-vertex v c q (inr (inl i)) (yes d) = absurd (q (subst (IsVertex m) (sym i.0) r.from-vertex))
      zero-vertex v c q (inr (inr i)) (yes d) = absurd (q (subst (IsVertex m) (sym i.0) r.to-vertex))
