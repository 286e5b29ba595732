-- What a face insert cannot reach, for any that is accepted: other arcs keep their ends, edge and face, arcs of other faces keep next and
-- previous, arcs with no end on the perimeter keep their row, vertices outside it keep their record; no face that was there gains an arc. And
-- what answer 8 to a face insert means.
use Prim.Native.Nat.{ℕ, suc, ◌+◌, ◌-◌, ◌*◌, ◌<◌}
use native.Mathlib.Omega.{arith}
use mathlib.Core.Path.{◌≡◌, refl, ap, sym, subst, ◌∙◌}
use mathlib.Core.Bool.{Bool, true, false, not}
use mathlib.Core.List.{List, [], ◌∷◌}
use mathlib.Core.Logic.{◌⊎◌, inl, inr}
use lib.ListN.{length, length-set}
use lib.Dec.{T, eqb, leb→le}
use lib.Ieee.{Float}
use Rattle.rules.specs.Point.{position_at}
use Rattle.kept.proofs.NewRing.{among}
use Rattle.kept.proofs.Face.{unheld}
use Rattle.rules.specs.declared.Edit.TheVariants.{FaceInsert}
use Rattle.rules.specs.Table.{Table, cell, there, has, free_row, after, count, unused, sum_below}
use Rattle.rules.specs.Mesh.{Mesh, Room, ring_limit, source, dest, next, previous, face, vertex_kind, edge_kind, face_kind, next_key, one_up, key_at}
use Rattle.rules.specs.Insert.{arc_at, conflict, lists_of, put_face, insert_work}
use Rattle.rules.specs.Step.{told}
use Rattle.rules.specs.Sound.{sound}
use Rattle.rules.specs.Call.{given, checks, need, pairs_without, insert_need, work, by_keys, face_insert}
use Rattle.proved.specs.Demand.{Holds}
use Rattle.proved.specs.Facts.{SoundFacts, RingFacts, IsArc, IsEdge, IsFace}
use Rattle.proved.proofs.Clauses.{facts, sound-from}
use Rattle.kept.specs.Frame.{AllButRings, Took, ThreeCounters, Met}
use Rattle.kept.specs.Perimeter.{ListsLeave, Perimeter, corner, following, Inserted}
use Rattle.kept.specs.Reaches.{InsertReaches, InsertMakes, Spared, KeepsEnds}
use Rattle.kept.specs.Local.{Local, GainsNothing}
use Rattle.kept.proofs.Base.{but-rings}
use Rattle.kept.proofs.Counted.{met, one_up_lem, key_back, counted-here, counted-other}
use Rattle.kept.proofs.Free.{old-differs, old-cell, there-cases, unused-same}
use Rattle.kept.proofs.Spared.{spared-next, spared-previous}
use Rattle.proved.proofs.Rows.{true-T, in_table}
use Rattle.kept.proofs.Find.{Between}
use Rattle.kept.proofs.EdgesIn.{EdgesUpTo, need_at, on-place, grown-vertex, grown-new-edge}
use Rattle.kept.proofs.Interior.{pair-arc, pair_found}
use Rattle.kept.proofs.Insert.{faces-took, insert-whole, insert-ring, with_edges, edges-up, perimeter-up, room-up, result_up, Leaves, leaves, all-but-rings, edges-pair-before, edges-pair-after}
use Rattle.kept.proofs.Lists.{lists-leave}
use Rattle.kept.proofs.Passed.{passed, pair-faceless, keys-perimeter}
use Rattle.kept.proofs.Eight.{answer-zero, never-8}

-- no arc of a perimeter holds g; the checks of an insert see to that for every g
abbrev pub NotOn : Mesh → List ℕ → ℕ → Type 0
NotOn m per g = (i : ℕ) → i < length per → Holds m g (arc_at m per i) → ⊥

pub not_on : (m : Mesh) (per : List ℕ) → T (not (conflict m per)) → (g : ℕ) → (g ≡ 0 → ⊥) → NotOn m per g
not_on m per free g n i l h =
    n (sym h.its-face ∙ pair-faceless m per free i l (λ e. let b = in_table m.arcs (arc_at m per i) h.exists in omega arith))

module _ (m : Mesh) (s : AllButRings m) (per : List ℕ) (p : Perimeter m per) (k : ThreeCounters m) (w : Met m (insert_need m per)) (lists : List (List ℕ)) (leave : ListsLeave m per lists) (mark : ℕ) where
  abbrev m₁ : Mesh
  m₁ = with_edges m s per p k w

  up : EdgesUpTo m per (length per) m₁
  up = edges-up m s per p k w

  s₁ : AllButRings m₁
  s₁ = up.base

  p₁ : Perimeter m₁ per
  p₁ = perimeter-up m s per p k w

  made : Leaves m s per p k w lists leave mark
  made = leaves m s per p k w lists leave mark

  abbrev f : ℕ
  f = free_row m₁.faces

  abbrev t₀ : Table
  t₀ = made.inside-arcs

  abbrev t : Table
  t = made.arcs

  abbrev r : Mesh
  r = result_up m s per p k w lists leave mark t

  whole : Inserted m₁ per f t
  whole = insert-whole m₁ s₁ per p₁ up.joined (room-up m s per p k w) mark t₀ made.in-ring t made.reached.linked made.reached.out

  took : Took m₁.faces r.faces f (one_up (next_key m₁ face_kind) ∷ arc_at m₁ per 0 ∷ mark ∷ [])
  took = faces-took m₁ s₁ per p₁ up.joined (room-up m s per p k w) mark

  -- pair i has the same arc in the result as after the edges
  same-pair : (i : ℕ) → arc_at r per i ≡ arc_at m₁ per i
  same-pair i = pair_found m₁ s₁ per p₁ up.joined r t whole.ends i

  joins : (i : ℕ) → i < length per → Between m₁.arcs (corner per i) (following per i) (arc_at m₁ per i)
  joins = pair-arc m₁ s₁ per p₁ up.joined

  still : (x : ℕ) → IsArc m₁ x → IsArc r x
  still x u = subst (λ (z : ℕ). T (not (eqb z 0))) (sym (whole.ends.source_stays x)) u

  was : (x : ℕ) → IsArc r x → IsArc m₁ x
  was x u = subst (λ (z : ℕ). T (not (eqb z 0))) (whole.ends.source_stays x) u

  old : (x c : ℕ) → IsArc m x → cell m₁.arcs x c ≡ cell m.arcs x c
  old = up.grown.arcs-stay

  older : (x : ℕ) → IsArc m x → IsArc m₁ x
  older x u = subst (λ (z : ℕ). T (not (eqb z 0))) (sym (old x 0 u)) u

  -- an arc of the perimeter that was there was the pair's arc then
  pair-before : (x i : ℕ) → IsArc m x → i < length per → x ≡ arc_at m₁ per i → arc_at m per i ≡ x
  pair-before = edges-pair-before m s per p k w

  -- a face now is a face after the interior
  face-inside : (y : ℕ) → face r y ≡ cell t₀ y 4
  face-inside y = made.reached.out.cells_stay y 4 (λ e. omega arith) (λ e. omega arith)

  -- a face that was there gains nothing, whether the result is sound or not
  gains : (g : ℕ) → IsFace m g → GainsNothing m r g
  gains g u =
      record {
        record-stays = λ c. old-cell took g c is-old ∙ ap (λ (z : Table). cell z g c) up.grown.faces-stay;
        no_more = before;
        next-or = λ x h. nexts x h (made.reached.next-either x);
        previous-or = λ x h. previouses x h (made.reached.previous-either x);
      }
    where
      is-old : IsFace m₁ g
      is-old = subst (λ (z : Table). T (there z g)) (sym up.grown.faces-stay) u

      none : g ≡ 0 → ⊥
      none z = let l = in_table m.faces g u in omega arith

      -- the perimeter's arcs hold the new face
      off-ring : (x : ℕ) → Holds r g x → (i : ℕ) → i < length per → x ≡ arc_at m₁ per i → ⊥
      off-ring x h i l e = old-differs took g is-old (sym h.its-face ∙ ap (face r) e ∙ whole.face-on i l)

      before : (x : ℕ) → Holds r g x → Holds m g x
      before x h = go (there m.arcs x) refl
        where
          its : face m₁ x ≡ g
          its = sym (whole.faces-stay x (off-ring x h)) ∙ h.its-face

          go : (b : Bool) → there m.arcs x ≡ b → Holds m g x
          go true e = let v : IsArc m x = true-T e in record { exists = v; its-face = sym (old x 4 v) ∙ its }
          go false e = absurd (none (sym its ∙ (up.grown.arcs-new x (was x h.exists) (λ v. subst T e v)).blank.no-face))

      nexts : (x : ℕ) → Holds r g x → (cell t x 2 ≡ cell t₀ x 2) ⊎ ((cell t₀ x 4 ≡ 0) ⊎ (cell t₀ (cell t x 2) 4 ≡ 0)) → (next r x ≡ next m x) ⊎ (Holds r g (next r x) → ⊥)
      nexts x h (inl e) = inl (e ∙ made.in-ring.others-stay x 2 (off-ring x h) ∙ old x 2 (before x h).exists)
      nexts x h (inr (inl e)) = absurd (none (sym h.its-face ∙ face-inside x ∙ e))
      nexts x h (inr (inr e)) = inr (λ q. none (sym q.its-face ∙ face-inside (next r x) ∙ e))

      previouses : (x : ℕ) → Holds r g x → (cell t x 3 ≡ cell t₀ x 3) ⊎ ((cell t₀ x 4 ≡ 0) ⊎ (cell t₀ (cell t x 3) 4 ≡ 0)) → (previous r x ≡ previous m x) ⊎ (Holds r g (previous r x) → ⊥)
      previouses x h (inl e) = inl (e ∙ made.in-ring.others-stay x 3 (off-ring x h) ∙ old x 3 (before x h).exists)
      previouses x h (inr (inl e)) = absurd (none (sym h.its-face ∙ face-inside x ∙ e))
      previouses x h (inr (inr e)) = inr (λ q. none (sym q.its-face ∙ face-inside (previous r x) ∙ e))

  -- and is spared, if no arc of the perimeter holds it
  spares : (g : ℕ) → IsFace m g → NotOn m per g → Spared m r g
  spares g u free =
      let a = gains g u in
      record { record-stays = a.record-stays; still-hold = hold; no_more = a.no_more; next-or = λ x h. a.next-or x (hold x h); previous-or = λ x h. a.previous-or x (hold x h) }
    where
      off-ring : (x : ℕ) → Holds m g x → (i : ℕ) → i < length per → x ≡ arc_at m₁ per i → ⊥
      off-ring x h i l e = free i l (subst (Holds m g) (sym (pair-before x i h.exists l e)) h)

      hold : (x : ℕ) → Holds m g x → Holds r g x
      hold x h = record { exists = still x (older x h.exists); its-face = whole.faces-stay x (off-ring x h) ∙ old x 4 h.exists ∙ h.its-face }

  -- in a result that is sound, the ring of a face that was there is sound
  old-ring : SoundFacts r → (g : ℕ) → IsFace m g → NotOn m per g → RingFacts r g
  old-ring sr g u free = sr.rings g (subst (λ (z : ℕ). T (not (eqb z 0))) (sym ((spares g u free).record-stays 0)) u)

  reaches : T (not (conflict m per)) → SoundFacts r → InsertReaches m r per f mark
  reaches free sr =
      record {
        arcs-on = λ i l. rw (same-pair i) (still (arc_at m₁ per i) (joins i l).exists);
        leaves-on = λ i l. ap (source r) (same-pair i) ∙ whole.ends.source_stays (arc_at m₁ per i) ∙ (joins i l).leaves;
        arrives-on = λ i l. ap (dest r) (same-pair i) ∙ whole.ends.dest-stays (arc_at m₁ per i) ∙ (joins i l).arrives;
        holds_on = λ i l. ap (face r) (same-pair i) ∙ whole.face-on i l;
        next-on = λ i l. ap (next r) (same-pair i) ∙ whole.next-on i l ∙ sym (same-pair (after (length per) i));
        previous-on = λ i l. ap (previous r) (same-pair (after (length per) i)) ∙ whole.previous-on i l ∙ sym (same-pair i);
        was_free = ap (λ (z : Table). cell z f 0) (sym up.grown.faces-stay) ∙ took.was_free;
        has_key = took.row 0 ∙ one_up_lem (next_key m₁ face_kind) (room-up m s per p k w).a_key ∙ ap suc up.grown.face-counter;
        has-arc = took.row 1 ∙ sym (same-pair 0);
        has-mark = took.row 2;
        arcs-stay = λ x u. still x (older x u);
        sources-stay = λ x u. whole.ends.source_stays x ∙ old x 0 u;
        dests-stay = λ x u. whole.ends.dest-stays x ∙ old x 1 u;
        edge_stays = λ x u. whole.ends.edge_stays x ∙ old x 5 u;
        faces-stay = λ x u o. whole.faces-stay x (λ i l e. o i l (e ∙ sym (same-pair i))) ∙ old x 4 u;
        next-stays = λ x u n. let h = s.face-exists x u n in let o = not_on m per free (face m x) n in spared-next (spares (face m x) h o) (old-ring sr (face m x) h o) x (record { exists = u; its-face = refl });
        previous-stays = λ x u n. let h = s.face-exists x u n in let o = not_on m per free (face m x) n in spared-previous (spares (face m x) h o) (old-ring sr (face m x) h o) x (record { exists = u; its-face = refl });
        arcs-new = λ x u o. rw (whole.ends.source_stays x, whole.ends.dest-stays x) (up.grown.arcs-new x (was x u) o).pair;
        vertices-stay = up.grown.vertices-stay;
        vertex-cells = up.grown.vertex-cells;
        positions-stay = up.grown.positions-stay;
        edges-stay = up.grown.edges-stay;
        other-faces = λ g c ne. took.others g c ne ∙ ap (λ (z : Table). cell z g c) up.grown.faces-stay;
      }

  makes : InsertMakes m r per
  unfolding pairs_without
  makes =
      record {
        edges-made = up.edges-made;
        arcs-made = ap (λ (z : ℕ). z + 2 * sum_below (need_at m per) (length per)) (unused-same t m₁.arcs whole.ends.rows whole.ends.source_stays) ∙ up.arcs-made;
        faces-made = omega (arith, took.fewer, ap (λ (z : Table). count unused z) up.grown.faces-stay);
        no-vertices = unused-same m₁.vertices m.vertices up.grown.vertex-rows (λ v. up.grown.vertex-cells v 0 (λ e. omega arith));
        edge-keys = counted-other m₁.counters face_kind edge_kind (λ e. omega arith) ∙ up.keys-made;
        face-keys = counted-here m₁.counters face_kind (omega (arith, (room-up m s per p k w).counters)) (room-up m s per p k w).a_key ∙ ap suc up.grown.face-counter ∙ more (next_key m face_kind);
        vertex-keys = counted-other m₁.counters face_kind vertex_kind (λ e. omega arith) ∙ up.grown.vertex-counter;
      }
    where
      more : (n : ℕ) → suc n ≡ n + 1
      more n = omega arith

  ends-kept : KeepsEnds m r
  ends-kept =
      record {
        arcs = λ x u. still x (older x u);
        sources = λ x u. whole.ends.source_stays x ∙ old x 0 u;
        dests = λ x u. whole.ends.dest-stays x ∙ old x 1 u;
        vertices = λ v u. grown-vertex up.grown v u;
        places = λ v u. ap (λ (z : List (List Float)). position_at z v) up.grown.positions-stay;
        arc-rows = whole.ends.rows ∙ up.grown.arc-rows;
        counter-rows = length-set m₁.counters face_kind (one_up (next_key m₁ face_kind)) ∙ up.grown.counter-rows;
      }

  -- only rows of arcs with an end on the perimeter change
  local : Local (λ v. T (has per v)) m r
  local =
      record {
        keeps = ends-kept;
        edge_stays = λ x u. whole.ends.edge_stays x ∙ old x 5 u;
        edges-stay = up.grown.edges-stay;
        new-edge = λ x u o e. grown-new-edge up.grown s s₁ x (was x u) o (subst (IsEdge m) (whole.ends.edge_stays x) e);
        away = rows;
      }
    where
      rows : (x c : ℕ) → IsArc m x → (T (has per (source m x)) → ⊥) → (T (has per (dest m x)) → ⊥) → cell r.arcs x c ≡ cell m.arcs x c
      rows x c u a b =
          made.reached.away x c (rw (old x 0 u) a) (rw (old x 1 u) b)
          ∙ made.in-ring.others-stay x c (λ i l e. a (on-place per i l (sym (old x 0 u) ∙ ap (source m₁) e ∙ (joins i l).leaves)))
          ∙ old x c u

  -- every arc and vertex that was there is there, and every pair has its arc
  pub insert-ends : KeepsEnds m (put_face m per lists mark)
  insert-ends = subst (KeepsEnds m) (sym made.is) ends-kept

  pub insert-joined : (i : ℕ) → i < length per → (x : ℕ) × Between (put_face m per lists mark).arcs (corner per i) (following per i) x
  insert-joined i l =
      let b = joins i l in
      let x = arc_at m₁ per i in
      (x, subst (λ (n : Mesh). Between n.arcs (corner per i) (following per i) x) (sym made.is) (record { exists = still x b.exists; leaves = whole.ends.source_stays x ∙ b.leaves; arrives = whole.ends.dest-stays x ∙ b.arrives }))

  -- what an insert takes, whether its result is sound or not
  pub insert-makes : InsertMakes m (put_face m per lists mark) per
  insert-makes = subst (λ (n : Mesh). InsertMakes m n per) (sym made.is) makes

  -- any insert spares every face that was there, and that no arc of its perimeter holds
  pub insert-spares : (g : ℕ) → IsFace m g → NotOn m per g → Spared m (put_face m per lists mark) g
  insert-spares g u free = subst (λ (n : Mesh). Spared m n g) (sym made.is) (spares g u free)

  -- and no face that was there gains anything
  pub insert-gains : (g : ℕ) → IsFace m g → GainsNothing m (put_face m per lists mark) g
  insert-gains g u = subst (λ (n : Mesh). GainsNothing m n g) (sym made.is) (gains g u)

  -- any insert works among the vertices of its perimeter
  pub insert-local : Local (λ v. T (has per v)) m (put_face m per lists mark)
  insert-local = subst (Local (λ v. T (has per v)) m) (sym made.is) local

  -- the new face: all others were there, its ring is sound, and its key is the next
  pub insert-cases : (g : ℕ) → IsFace (put_face m per lists mark) g → (g ≡ free_row m.faces) ⊎ IsFace m g
  insert-cases g u = rw up.grown.faces-stay at (there-cases took g (subst (λ (n : Mesh). IsFace n g) made.is u))

  pub insert-new-ring : RingFacts (put_face m per lists mark) (free_row m.faces)
  insert-new-ring =
      let a = insert-ring m₁ s₁ per p₁ up.joined (room-up m s per p k w) mark t₀ made.in-ring t made.reached.linked made.reached.out in
      let b = subst (λ (n : Mesh). RingFacts n f) (sym made.is) a in
      subst (λ (z : Table). RingFacts (put_face m per lists mark) (free_row z)) up.grown.faces-stay b

  pub insert-new-key : key_at (put_face m per lists mark).faces (free_row m.faces) ≡ next_key m face_kind
  insert-new-key =
      ap (λ (z : Table). key_at (put_face m per lists mark).faces (free_row z)) (sym up.grown.faces-stay)
      ∙ ap (λ (n : Mesh). key_at n.faces f) made.is
      ∙ ap (λ (z : ℕ). z - 1) (took.row 0)
      ∙ key_back (next_key m₁ face_kind) (room-up m s per p k w).a_key
      ∙ up.grown.face-counter

  pub insert-positions-stay : (put_face m per lists mark).positions ≡ m.positions
  insert-positions-stay = ap (λ (n : Mesh). n.positions) made.is ∙ up.grown.positions-stay

  -- what holds the new face joins a pair of the perimeter
  new-arcs : (x : ℕ) → Holds r f x → (i : ℕ) × (i < length per) × (source r x ≡ corner per i) × (dest r x ≡ following per i)
  new-arcs x h = go (among (arc_at m₁ per) (length per) x)
    where
      here : IsArc m₁ x
      here = was x h.exists

      go : ((i : ℕ) × (i < length per) × (x ≡ arc_at m₁ per i)) ⊎ ((i : ℕ) → i < length per → x ≡ arc_at m₁ per i → ⊥) → (i : ℕ) × (i < length per) × (source r x ≡ corner per i) × (dest r x ≡ following per i)
      go (inl (i, l, e)) = (i, l, whole.ends.source_stays x ∙ ap (source m₁) e ∙ (joins i l).leaves, whole.ends.dest-stays x ∙ ap (dest m₁) e ∙ (joins i l).arrives)
      go (inr off) = absurd (unheld m₁ s₁ (room-up m s per p k w) (arc_at m₁ per 0) mark x here (sym (whole.faces-stay x off) ∙ h.its-face))

  pub insert-new-arcs : (x : ℕ) → Holds (put_face m per lists mark) (free_row m.faces) x → (i : ℕ) × (i < length per) × (source (put_face m per lists mark) x ≡ corner per i) × (dest (put_face m per lists mark) x ≡ following per i)
  insert-new-arcs =
      let a : (x : ℕ) → Holds (put_face m per lists mark) f x → (i : ℕ) × (i < length per) × (source (put_face m per lists mark) x ≡ corner per i) × (dest (put_face m per lists mark) x ≡ following per i)
      = subst (λ (n : Mesh). (x : ℕ) → Holds n f x → (i : ℕ) × (i < length per) × (source n x ≡ corner per i) × (dest n x ≡ following per i)) (sym made.is) new-arcs in
      subst (λ (z : Table). (x : ℕ) → Holds (put_face m per lists mark) (free_row z) x → (i : ℕ) × (i < length per) × (source (put_face m per lists mark) x ≡ corner per i) × (dest (put_face m per lists mark) x ≡ following per i)) up.grown.faces-stay a

  -- the perimeter's arcs hold it, and every other arc keeps its face
  pub insert-holds : (x i : ℕ) → IsArc m x → i < length per → x ≡ arc_at m per i → face (put_face m per lists mark) x ≡ 0 → ⊥
  insert-holds x i u l e z =
      let h = ap (λ (y : ℕ). face r y) (sym (edges-pair-after m s per p k w x i u l e)) ∙ whole.face-on i l in
      let q = ap (λ (n : Mesh). face n x) (sym made.is) ∙ z in
      omega (arith, took.some)

  pub insert-faces-stay : (x : ℕ) → IsArc m x → ((i : ℕ) → i < length per → x ≡ arc_at m per i → ⊥) → face (put_face m per lists mark) x ≡ face m x
  insert-faces-stay x u off =
      ap (λ (n : Mesh). face n x) made.is ∙ whole.faces-stay x (λ i l e. off i l (sym (pair-before x i u l e))) ∙ old x 4 u

  -- an insert whose result is sound reaches no further
  pub insert-reaches : T (not (conflict m per)) → SoundFacts (put_face m per lists mark) → InsertReaches m (put_face m per lists mark) per (free_row m.faces) mark
  insert-reaches free sr =
      let a = reaches free (subst SoundFacts made.is sr) in
      let b = subst (λ (n : Mesh). InsertReaches m n per f mark) (sym made.is) a in
      subst (λ (z : Table). InsertReaches m (put_face m per lists mark) per (free_row z) mark) up.grown.faces-stay b

-- ---- the call

-- a face insert that is answered with 0
pub accepted-insert-reaches : (m : Mesh) (one two : Room) (keys : List ℕ) (mark : ℕ) → ThreeCounters m → (told (face_insert m one two keys mark).answer).number ≡ 0 → InsertReaches m (face_insert m one two keys mark).mesh (by_keys m keys) (free_row m.faces) mark
unfolding face_insert checks work insert_work given need
accepted-insert-reaches m one two keys mark k h =
    let a = answer-zero m (FaceInsert mark) keys one two h in
    let s = but-rings m (facts m a.behind.was-sound) in
    let l = leb→le (length keys) ring_limit a.behind.numbers-given in
    let q = passed m keys (by_keys m keys) a.behind.checks-passed in
    let per = by_keys m keys in
    subst (λ (n : Mesh). InsertReaches m n per (free_row m.faces) mark) (sym a.is)
    (insert-reaches m s per (keys-perimeter m keys l q) k (met m (insert_need m per) a.behind.need-met) (lists_of m per) (lists-leave m s per (keys-perimeter m keys l q)) mark q.no-conflict (facts (put_face m per (lists_of m per) mark) (subst (λ (n : Mesh). T (sound n)) a.is a.now-sound)))

-- a face insert is answered with 8 only if a face that was there would lose its ring
pub eight-breaks-a-ring : (m : Mesh) (one two : Room) (keys : List ℕ) (mark : ℕ) → ThreeCounters m → ((g : ℕ) → IsFace m g → RingFacts (put_face m (by_keys m keys) (lists_of m (by_keys m keys)) mark) g) → (told (face_insert m one two keys mark).answer).number ≡ 8 → ⊥
unfolding face_insert checks work insert_work given need
eight-breaks-a-ring m one two keys mark k rings =
    never-8 m (FaceInsert mark) keys one two
    (λ b.
    let s = but-rings m (facts m b.was-sound) in
    let l = leb→le (length keys) ring_limit b.numbers-given in
    let q = passed m keys (by_keys m keys) b.checks-passed in
    let per = by_keys m keys in
    sound-from (put_face m per (lists_of m per) mark) (all-but-rings m s per (keys-perimeter m keys l q) k (met m (insert_need m per) b.need-met) (lists_of m per) (lists-leave m s per (keys-perimeter m keys l q)) mark rings))
