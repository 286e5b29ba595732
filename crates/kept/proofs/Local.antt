-- How far the parts of an edit reach, and the parts one after another: rows near its vertices, faces that gain nothing, faces that have come.
use Prim.Native.Nat.{ℕ, ◌≤◌}
use native.Mathlib.Omega.{arith}
use native.Mathlib.Decide.{ℕ_discrete}
use mathlib.Core.Path.{◌≡◌, refl, ap, sym, subst, ◌∙◌}
use mathlib.Core.Bool.{Bool, true, false, not}
use mathlib.Core.List.{List, [], ◌∷◌, ◌++◌}
use mathlib.Core.Logic.{◌⊎◌, inl, inr}
use lib.Dec.{T, eqb}
use lib.ListN.{length}
use Rattle.kept.proofs.Passed.{none_of}
use Rattle.rules.specs.declared.Position.{Position}
use Rattle.rules.specs.declared.Edit.{Edit}
use Rattle.rules.specs.Table.{Table, cell, there, has}
use Rattle.rules.specs.Mesh.{Mesh, source, dest, next, previous, edge, face_kind, next_key}
use Rattle.rules.specs.Link.{ring, ring_vertices, new_vertex}
use Rattle.rules.specs.Step.{Step}
use Rattle.rules.specs.Insert.{conflict, insert_work, in_one_spot, has_hair}
use Rattle.rules.specs.Edit.{remove}
use Rattle.rules.specs.Call.{work, insert_need}
use Rattle.rules.proofs.Sums.{or_l, or_r, or_cases, has-map}
use Rattle.proved.specs.Demand.{Holds}
use Rattle.proved.specs.Facts.{SoundFacts, RingFacts, IsVertex, IsArc, IsEdge, IsFace}
use Rattle.proved.proofs.Rows.{true-T, differ, in_table}
use Rattle.proved.proofs.Around.{place-has}
use Rattle.kept.specs.Frame.{AllButRings, ThreeCounters, Met, RoomForVertex, RoomForEdge, MadeEdge}
use Rattle.kept.specs.Perimeter.{Perimeter}
use Rattle.kept.specs.Reaches.{KeepsEnds, Spared, Apart}
use Rattle.makers.specs.Makers.{ruled, insert_work_by}
use Rattle.kept.specs.Local.{among, Local, GainsNothing, Came, FacesSince, Reach}
use Rattle.kept.proofs.Rings.{previous-holds}
use Rattle.kept.proofs.Spared.{spared-none, spared-onto, stays-spared}
use Rattle.kept.proofs.Keeps.{keeps-none, keeps-onto, keeps-edge}
use Rattle.kept.proofs.Free.{old-cell}
use Rattle.kept.proofs.Edge.{made-old-cell, made-ring}
use Rattle.kept.proofs.Vertex.{vertex-rest, vertex-ring, vertex-ends}
use Rattle.kept.proofs.Remove.{Cleared, removed, holder-place, remove-spares, remove-ends, remove-was}
use Rattle.kept.proofs.Reaches.{not_on}
use Rattle.makers.proofs.Ruled.{ruled-like}
use Rattle.kept.proofs.Along.{Along, along-so}
use Rattle.kept.proofs.Put.{Put, along-insert}

-- ---- lists

-- what is in a list is in that list with another before or after it
pub has_first : (l k : List ℕ) (x : ℕ) → T (has l x) → T (has (l ++ k) x)
unfolding has
has_first [] k x h = absurd h
has_first (y ∷ ys) k x h = or_cases (eqb x y) (has ys x) h (or_l (eqb x y) (has (ys ++ k) x)) (λ r. or_r (eqb x y) (has (ys ++ k) x) (has_first ys k x r))

pub has-second : (l k : List ℕ) (x : ℕ) → T (has k x) → T (has (l ++ k) x)
unfolding has
has-second [] k x h = h
has-second (y ∷ ys) k x h = or_r (eqb x y) (has (ys ++ k) x) (has-second ys k x h)

-- ---- rows

-- nothing done
pub local-none : {near : ℕ → Type 0} (m : Mesh) → Local near m m
local-none m = record { keeps = keeps-none m; edge_stays = λ x u. refl; edges-stay = λ e c u. refl; new-edge = λ x u n e. n u; away = λ x c u p q. refl }

-- among more vertices
pub local-wider : {P Q : ℕ → Type 0} {m n : Mesh} → Local P m n → ((v : ℕ) → P v → Q v) → Local Q m n
local-wider {m = m} w h =
    record { keeps = w.keeps; edge_stays = w.edge_stays; edges-stay = w.edges-stay; new-edge = w.new-edge; away = λ x c u f g. w.away x c u (λ q. f (h (source m x) q)) (λ q. g (h (dest m x) q)) }

-- one part after another, where of the vertices that were there at first those near either are near the whole
pub local-onto : {P Q R : ℕ → Type 0} {m a n : Mesh} → AllButRings m → Local P m a → Local Q a n → ((v : ℕ) → IsVertex m v → P v → R v) → ((v : ℕ) → IsVertex m v → Q v → R v) → Local R m n
local-onto {P} {Q} {R} {m} {a} {n} s p q first second =
    record {
      keeps = keeps-onto p.keeps q.keeps;
      edge_stays = λ x u. q.edge_stays x (p.keeps.arcs x u) ∙ p.edge_stays x u;
      edges-stay = λ e c u. q.edges-stay e c (edge_in e u) ∙ p.edges-stay e c u;
      new-edge = λ x u o e. new x u o e (there a.arcs x) refl;
      away = λ x c u f g. let v = s.ends-exist x u in
          q.away x c (p.keeps.arcs x u) (λ h. f (second (source m x) v.0 (subst Q (p.keeps.sources x u) h))) (λ h. g (second (dest m x) v.1 (subst Q (p.keeps.dests x u) h)))
          ∙ p.away x c u (λ h. f (first (source m x) v.0 h)) (λ h. g (first (dest m x) v.1 h));
    }
  where
    edge_in : (e : ℕ) → IsEdge m e → IsEdge a e
    edge_in e u = subst (λ (z : ℕ). T (not (eqb z 0))) (sym (p.edges-stay e 0 u)) u

    -- an arc that was not there came with the second part, or with the first
    new : (x : ℕ) → IsArc n x → (IsArc m x → ⊥) → IsEdge m (edge n x) → (b : Bool) → there a.arcs x ≡ b → ⊥
    new x u o e true i = let h : IsArc a x = true-T i in p.new-edge x h o (subst (IsEdge m) (q.edge_stays x h) e)
    new x u o e false i = q.new-edge x u (λ h. subst T i h) (edge_in (edge n x) e)

-- a new vertex changes no arc and no edge
pub vertex-local : {near : ℕ → Type 0} (m : Mesh) (p : Position) → RoomForVertex m → SoundFacts m → Local near m (new_vertex m p)
vertex-local m p r s =
    let w = vertex-rest m p r s in
    record {
      keeps = vertex-ends m p r s;
      edge_stays = λ x u. ap (λ (t : Table). cell t x 5) w.0;
      edges-stay = λ e c u. ap (λ (t : Table). cell t e c) w.1;
      new-edge = λ x u n e. n (subst (λ (t : Table). T (there t x)) w.0 u);
      away = λ x c u f g. ap (λ (t : Table). cell t x c) w.0;
    }

module _ (m : Mesh) (s : SoundFacts m) (f : ℕ) (u : IsFace m f) where
  -- the ends of an arc that holds the face are among the ring's vertices: it ends at one, and leaves where the arc before it ends
  arrives-on-ring : (x : ℕ) → Holds m f x → T (has (ring_vertices m f) (dest m x))
  unfolding ring_vertices
  arrives-on-ring x h =
      let p = holder-place m f (s.rings f u) x h in
      has-map (dest m) (ring m f) x (subst (λ (z : ℕ). T (has (ring m f) z)) p.2 (place-has (ring m f) p.0 p.1))

  pub ends-on-ring : (x : ℕ) → Holds m f x → T (has (ring_vertices m f) (source m x)) × T (has (ring_vertices m f) (dest m x))
  ends-on-ring x h =
      let b = previous-holds m f (s.rings f u) x h in
      let l = in_table m.arcs (previous m x) b.exists in
      let e = (s.previous-arrives x h.exists (λ z. omega arith)).1 in
      (subst (λ (z : ℕ). T (has (ring_vertices m f) z)) e (arrives-on-ring (previous m x) b), arrives-on-ring x h)

  -- a removal changes only arcs of the ring
  pub remove-local : {near : ℕ → Type 0} → ((x : ℕ) → Holds m f x → near (dest m x)) → Local near m (remove m f)
  remove-local {near} on =
      subst (Local near m) (sym (removed m s f u).1)
      (record {
        keeps = subst (KeepsEnds m) (removed m s f u).1 (remove-ends m s f u);
        edge_stays = λ x v. w.cells_stay x 5 (λ e. omega arith);
        edges-stay = λ e c v. refl;
        new-edge = λ x v n e. n (subst (λ (z : ℕ). T (not (eqb z 0))) (w.cells_stay x 0 (λ q. omega arith)) v);
        away = λ x c v a b. away x c v b (ℕ_discrete c 4);
      })
    where
      t : Table
      t = (removed m s f u).0

      w : Cleared m f t
      w = (removed m s f u).2

      away : (x c : ℕ) → IsArc m x → (near (dest m x) → ⊥) → Dec (c ≡ 4) → cell t x c ≡ cell m.arcs x c
      away x c v b (yes e) = rw e (w.others-stay x (λ h. b (on x h)))
      away x c v b (no n) = w.cells_stay x c n

  -- and so works among the ring's vertices
  pub removed-local : Local (λ v. T (has (ring_vertices m f) v)) m (remove m f)
  removed-local = remove-local (λ x h. (ends-on-ring x h).1)

-- a new edge changes no arc that was there
pub edge-local : {near : ℕ → Type 0} {m n : Mesh} {a b x y e : ℕ} → AllButRings m → MadeEdge m n a b x y e → Local near m n
edge-local {m = m} {n = n} {x = x} {y = y} {e = e} s w =
    record {
      keeps = keeps-edge w;
      edge_stays = λ k u. made-old-cell w k 5 u;
      edges-stay = λ k c u. old-cell w.edge_row k c u;
      new-edge = λ k u o h. new k u o h (ℕ_discrete k x) (ℕ_discrete k y);
      away = λ k c u f g. made-old-cell w k c u;
    }
  where
    none : IsEdge m e → ⊥
    none h = differ (cell m.edges e 0) 0 h w.edge_row.was_free

    new : (k : ℕ) → IsArc n k → (IsArc m k → ⊥) → IsEdge m (edge n k) → Dec (k ≡ x) → Dec (k ≡ y) → ⊥
    new k u o h (yes q) d = none (subst (IsEdge m) (ap (edge n) q ∙ w.first-row 5) h)
    new k u o h (no p) (yes q) = none (subst (IsEdge m) (ap (edge n) q ∙ w.second-row 5) h)
    new k u o h (no p) (no q) = o (subst (λ (z : ℕ). T (not (eqb z 0))) (w.arcs-stay k 0 p q) u)

-- ---- faces that gain nothing

-- nothing done
pub gains-none : (m : Mesh) (g : ℕ) → GainsNothing m m g
gains-none m g = record { record-stays = λ c. refl; no_more = λ x h. h; next-or = λ x h. inl refl; previous-or = λ x h. inl refl }

-- a face that is spared gains nothing
pub spared-gains : {m n : Mesh} {g : ℕ} → Spared m n g → GainsNothing m n g
spared-gains s =
    record { record-stays = s.record-stays; no_more = s.no_more; next-or = λ x h. s.next-or x (s.no_more x h); previous-or = λ x h. s.previous-or x (s.no_more x h) }

-- one part after another
pub gains-onto : {m a n : Mesh} {g : ℕ} → GainsNothing m a g → GainsNothing a n g → GainsNothing m n g
gains-onto {m} {a} {n} {g} p q =
    record {
      record-stays = λ c. q.record-stays c ∙ p.record-stays c;
      no_more = λ x h. p.no_more x (q.no_more x h);
      next-or = λ x h. nexts x (q.next-or x h) (p.next-or x (q.no_more x h));
      previous-or = λ x h. previouses x (q.previous-or x h) (p.previous-or x (q.no_more x h));
    }
  where
    nexts : (x : ℕ) → (next n x ≡ next a x) ⊎ (Holds n g (next n x) → ⊥) → (next a x ≡ next m x) ⊎ (Holds a g (next a x) → ⊥) → (next n x ≡ next m x) ⊎ (Holds n g (next n x) → ⊥)
    nexts x (inl e) (inl d) = inl (e ∙ d)
    nexts x (inl e) (inr f) = inr (λ h. f (subst (Holds a g) e (q.no_more (next n x) h)))
    nexts x (inr f) d = inr f

    previouses : (x : ℕ) → (previous n x ≡ previous a x) ⊎ (Holds n g (previous n x) → ⊥) → (previous a x ≡ previous m x) ⊎ (Holds a g (previous a x) → ⊥) → (previous n x ≡ previous m x) ⊎ (Holds n g (previous n x) → ⊥)
    previouses x (inl e) (inl d) = inl (e ∙ d)
    previouses x (inl e) (inr f) = inr (λ h. f (subst (Holds a g) e (q.no_more (previous n x) h)))
    previouses x (inr f) d = inr f

-- ---- faces that have come

-- nothing done
pub since_none : (m : Mesh) → FacesSince m m
since_none m g h = inl (h, spared-none m g)

-- the arcs of a new face have their ends apart, where no pair of its perimeter is in one spot
put-apart : {a r : Mesh} {per : List ℕ} → T (not (has_hair a per)) → (p : Put a r per) → (x : ℕ) → Holds r p.new x → Apart r x
unfolding has_hair in_one_spot
put-apart {a} {r} {per} hair p x h =
    let w = p.new-arcs x h in
    let e = p.base.ends-exist x h.exists in
    record { from-vertex = e.0; to-vertex = e.1; two-spots = rw (w.2, w.3, p.positions-stay) (none_of (in_one_spot a per) (length per) hair w.0 w.1) }

-- a face put in: it has come, those that have come before it gain nothing, and the others are spared
pub since-put : {m a r : Mesh} {per : List ℕ} → FacesSince m a → next_key m face_kind ≤ next_key a face_kind → T (not (has_hair a per)) → Put a r per → ((g : ℕ) → IsFace m g → IsFace a g → Spared a r g) → FacesSince m r
since-put {m} {a} {r} {per} since up hair p spares g h = go (p.face-cases g h)
  where
    old : IsFace a g → (IsFace m g × Spared m a g) ⊎ Came m a g → (IsFace m g × Spared m r g) ⊎ Came m r g
    old u (inl w) = inl (w.0, spared-onto w.1 (spares g w.0 u))
    old u (inr w) =
        let e = p.gains g u in
        inr (record { counted = rw (e.record-stays 0) w.counted; mid = w.mid; ring = w.ring; apart = w.apart; keeps = keeps-onto w.keeps p.keeps; gains = gains-onto w.gains e })

    go : (g ≡ p.new) ⊎ IsFace a g → (IsFace m g × Spared m r g) ⊎ Came m r g
    go (inl e) = inr (record { counted = rw (e, p.new-key) up; mid = r; ring = subst (RingFacts r) (sym e) p.new-ring; apart = λ x q. put-apart hair p x (subst (λ (z : ℕ). Holds r z x) e q); keeps = keeps-none r; gains = gains-none r g })
    go (inr u) = old u (since g u)

-- one part after another
pub since-onto : {m a n : Mesh} → FacesSince m a → next_key m face_kind ≤ next_key a face_kind → KeepsEnds a n → FacesSince a n → FacesSince m n
since-onto {m} {a} {n} first up keeps second g h = go (second g h)
  where
    spared : Spared a n g → (IsFace m g × Spared m a g) ⊎ Came m a g → (IsFace m g × Spared m n g) ⊎ Came m n g
    spared p (inl w) = inl (w.0, spared-onto w.1 p)
    spared p (inr w) = inr (record { counted = rw (p.record-stays 0) w.counted; mid = w.mid; ring = w.ring; apart = w.apart; keeps = keeps-onto w.keeps keeps; gains = gains-onto w.gains (spared-gains p) })

    go : (IsFace a g × Spared a n g) ⊎ Came a n g → (IsFace m g × Spared m n g) ⊎ Came m n g
    go (inl w) = spared w.1 (first g w.0)
    go (inr w) = inr (record { counted = omega (arith, w.counted); mid = w.mid; ring = w.ring; apart = w.apart; keeps = w.keeps; gains = w.gains })

-- a removal, a new vertex and a new edge spare every face that they leave
pub remove-since : (m : Mesh) (s : SoundFacts m) (f : ℕ) → IsFace m f → FacesSince m (remove m f)
remove-since m s f u g h =
    let was = remove-was m s f u g h in
    inl (was.1, remove-spares m s f u g was.0 was.1)

pub vertex-since : (m : Mesh) (p : Position) → RoomForVertex m → SoundFacts m → FacesSince m (new_vertex m p)
vertex-since m p r s g h =
    let w = (vertex-rest m p r s).2 in
    inl (subst (λ (t : Table). T (there t g)) w h, stays-spared (λ c. ap (λ (t : Table). cell t g c) w) (vertex-ring m p r s g))

pub edge-since : {m n : Mesh} {a b x y e : ℕ} → MadeEdge m n a b x y e → RoomForEdge m a b → AllButRings m → FacesSince m n
edge-since w r s g h =
    let u = subst (λ (t : Table). T (there t g)) w.faces-stay h in
    inl (u, stays-spared (λ c. ap (λ (t : Table). cell t g c) w.faces-stay) (made-ring w r s g u))

-- ---- a whole edit

-- what it leaves, wherever it stops: every clause of Sound but perhaps that on rings, and rows away from its vertices as they were
abbrev pub Left : (ℕ → Type 0) → Mesh → Mesh → Type 0
Left near m a = AllButRings a × Local near m a

-- and where it is accepted, what has become of its faces; t' is the edit by other makers, which does not matter here
abbrev pub Reaching : (ℕ → Type 0) → Mesh → Step → Step → Type 0
Reaching near m t t' = Along (FacesSince m) (Left near m) t t'

-- the same list of vertices, said otherwise
pub reaching-by : {l k : List ℕ} {m : Mesh} {t t' : Step} → l ≡ k → Reaching (λ v. T (has l v)) m t t' → Reaching (λ v. T (has k v)) m t t'
reaching-by {m = m} {t = t} {t' = t'} e w = subst (λ (z : List ℕ). Reaching (λ v. T (has z v)) m t t') e w

-- so far reaches an edit whose vertices these are
pub reach : (m : Mesh) (e : Edit) (keys : List ℕ) (t' : Step) → Reaching (λ v. T (has (among m e keys) v)) m (work m e keys) t' → Reach m e keys
reach m e keys t' w = record { base = w.leaves.0; local = w.leaves.1; faces = w.goes }

-- ---- a face insert

-- as a part of an edit: the vertices of its perimeter that were there at first are near the whole
pub put-left : {m a r : Mesh} {per : List ℕ} {near : ℕ → Type 0} → AllButRings m → Local near m a → Put a r per → ((v : ℕ) → IsVertex m v → T (has per v) → near v) → Left near m r
put-left s start p on = (p.base, local-onto s start p.local (λ v u h. h) on)

-- no arc of its perimeter holds a face, so it spares every face that was there
pub put-since : {m a r : Mesh} {per : List ℕ} → FacesSince m a → next_key m face_kind ≤ next_key a face_kind → T (not (has_hair a per)) → T (not (conflict a per)) → Put a r per → FacesSince m r
put-since {a = a} {per = per} since up hair free p = since-put since up hair p (λ g u v. p.spares g v (not_on a per free g (λ z. let l = in_table a.faces g v in omega arith)))

-- as an edit
pub insert-reaching : (m : Mesh) → AllButRings m → (per : List ℕ) → Perimeter m per → ThreeCounters m → Met m (insert_need m per) → T (not (has_hair m per)) → T (not (conflict m per)) → (mark : ℕ) → Reaching (λ v. T (has per v)) m (insert_work m per mark) (insert_work_by ruled m per mark)
insert-reaching m s per p k w hair free mark =
    along-so (along-insert m s per p k w ruled ruled-like mark (λ r z. z) (λ r z. z)) (λ r z. put-since (since_none m) (omega arith) hair free z) (λ r z. put-left s (local-none m) z (λ v u h. h))
