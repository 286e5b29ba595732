-- A face split: the left half needs an edge only if there is none between the two vertices, and the right half none. So one edge, one face and
-- two face keys suffice; and after one that is accepted, faces other than the one named keep their record and the same ring, arc for arc.
use Prim.Native.Nat.{ℕ, ◌+◌, ◌-◌, ◌≤◌, ◌<◌, zero-le}
use native.Mathlib.Omega.{arith}
use native.Mathlib.Decide.{ℕ_discrete}
use mathlib.Core.Path.{◌≡◌, refl, ap, sym, subst, ◌∙◌}
use mathlib.Core.Bool.{Bool, true, false, not, ◌||◌, cond}
use mathlib.Core.List.{List, [], ◌++◌}
use mathlib.Core.Logic.{inl, inr}
use lib.ListN.{length, get_or}
use lib.Dec.{T, eqb, eqb→eq, ltb}
use borrow.Author.Tests.{ne_eqb, eq-eqb}
use Rattle.rules.specs.Answer.{Answer}
use Rattle.rules.specs.Answer.{Done, Refused}
use Rattle.rules.specs.declared.Refusal.TheVariants.{TopologyNotFound, TopologyMalformed, TopologyConflict}
use Rattle.rules.specs.declared.Edit.TheVariants.{FaceSplit}
use Rattle.rules.specs.Table.{first_row, has}
use Rattle.rules.specs.Mesh.{Mesh, Room, source, dest, edge, opposite, opposite_of, find_arc, find_vertex, find_face}
use Rattle.rules.specs.Link.{ring_vertices}
use Rattle.rules.specs.Step.{Step, told, accepted}
use Rattle.rules.specs.Insert.{arc_at, insert_checks, lists_of, put_face}
use Rattle.rules.specs.Edit.{place, ring_distance, stretch, half, held_by_other, remove, split_checks, split_work}
use Rattle.rules.specs.Sound.{sound}
use Rattle.rules.specs.Call.{Need, needs, checks, need, insert_need, pairs_without, arc_by_keys, work, face_split}
use Rattle.rules.proofs.Counts.{found-passes}
use Rattle.rules.proofs.Scan.{first-le}
use Rattle.rules.proofs.Sums.{or_cases, or_l, or_r}
use Rattle.proved.specs.Demand.{Holds}
use Rattle.proved.specs.Facts.{SoundFacts, IsFace, IsArc}
use Rattle.proved.proofs.Rows.{true-T, in_table}
use Rattle.proved.proofs.Ring.{ring-counts, ring-from}
use Rattle.proved.proofs.Clauses.{facts}
use Rattle.kept.specs.Frame.{AllButRings, ThreeCounters, Met}
use Rattle.kept.specs.Perimeter.{Perimeter, corner, following, ListsLeave}
use Rattle.kept.specs.Reaches.{KeepsEnds, Spared, SameRing}
use Rattle.makers.specs.Search.{arcs_on}
use Rattle.makers.specs.Makers.{Makers, LikeRules, put_face_by, split_work_by}
use Rattle.kept.specs.Suffices.{Tally, Within}
use Rattle.kept.specs.Local.{FacesSince}
use Rattle.kept.proofs.Base.{but-rings}
use Rattle.kept.proofs.Counted.{met}
use Rattle.kept.proofs.Find.{Between, find-back, arc-back}
use Rattle.kept.proofs.Opposite.{found-is}
use Rattle.kept.proofs.Tells.{SearchedIn, searched-here, on-at, at_on, on-either}
use Rattle.kept.proofs.Spared.{spared-onto, same-ring}
use Rattle.kept.proofs.Remove.{remove-kept, remove-spares, remove-ends, remove-was}
use Rattle.kept.proofs.Lists.{lists-leave}
use Rattle.kept.proofs.Passed.{Passed, passed, places-apart, hair-same}
use Rattle.kept.proofs.Reaches.{NotOn, not_on}
use Rattle.kept.proofs.Halves.{vertices-length, half-vertex, half-on, half-end, half-start, half-need}
use Rattle.kept.proofs.Stretch.{stretch-ends}
use Rattle.kept.proofs.Keeps.{keeps-none, keeps-onto, keeps-between, back-there}
use Rattle.kept.proofs.Eight.{answer-zero, checked-through}
use Rattle.kept.proofs.Makers.{put-face-by}
use Rattle.kept.proofs.Tallies.{tally-onto, left-met, tally-remove}
use Rattle.kept.proofs.Along.{along-start, along-checked}
use Rattle.kept.proofs.Put.{Put, put_in}
use Rattle.kept.proofs.Local.{removed-local, since_none, since-onto, since-put, remove-since, Left, Reaching, put-left, put-since}
use Rattle.kept.proofs.WithinNeed.{Made, step-made}

-- ---- places

-- a vertex that has a place in a list stands there
pub place_is : (l : List ℕ) (x : ℕ) → (place l x ≡ 0 → ⊥) → (place l x - 1 < length l) × (get_or l (place l x - 1) 0 ≡ x)
unfolding place
place_is l x n =
    let some : 1 ≤ first_row (eqb x) l = omega arith in
    (omega (arith, first-le (eqb x) l), sym (eqb→eq x (get_or l (first_row (eqb x) l - 1) 0) (true-T (found-passes (eqb x) l 0 some))))

-- ---- the two inserts

-- what a split from a to b needs
abbrev pub split_need : Mesh → ℕ → ℕ → Need
split_need m a b = needs 0 (cond (eqb (find_arc m a b) 0) 1 0) 1 2

module _ (m : Mesh) (s : SoundFacts m) (k : ThreeCounters m) (f a b : ℕ) (u : IsFace m f) (pa : place (ring_vertices m f) a ≡ 0 → ⊥) (pb : place (ring_vertices m f) b ≡ 0 → ⊥) (r : Met m (split_need m a b)) where
  abbrev vs : List ℕ
  vs = ring_vertices m f

  abbrev i : ℕ
  i = place vs a - 1

  abbrev j : ℕ
  j = place vs b - 1

  abbrev left : List ℕ
  left = stretch vs i j

  abbrev right : List ℕ
  right = stretch vs j i

  abbrev m₁ : Mesh
  m₁ = remove m f

  s₁ : SoundFacts m₁
  s₁ = remove-kept m s f u

  b₁ : AllButRings m₁
  b₁ = but-rings m₁ s₁

  k₁ : KeepsEnds m m₁
  k₁ = remove-ends m s f u

  il : i < length vs
  il = (place_is vs a pa).0

  jl : j < length vs
  jl = (place_is vs b pb).0

  limit : length vs ≤ 64
  limit = omega (arith, vertices-length m s f u, ring-counts m f (ring-from m f (s.rings f u)), (s.rings f u).at-most-64)

  three : (n : Mesh) → KeepsEnds m n → ThreeCounters n
  three n w = omega (arith, w.counter-rows)

  tally₁ : Tally m m₁ 0 0 0 1
  tally₁ = tally-remove m s f u

  -- the ring's vertices, among which both halves are
  abbrev near : ℕ → Type 0
  near v = T (has vs v)

  -- a half that passes the checks is a perimeter
  half-perimeter : (n : Mesh) → KeepsEnds m n → (x y : ℕ) (xl : x < length vs) (yl : y < length vs) → Passed m₁ (stretch vs x y) (stretch vs x y) → Perimeter n (stretch vs x y)
  half-perimeter n w x y xl yl q =
      record {
        at-least-3 = q.at-least-3;
        at-most-64 = omega (arith, limit, (stretch-ends vs x y xl yl).not-longer);
        vertices = λ c l. w.vertices (corner (stretch vs x y) c) (half-vertex m s f u x y xl yl c l);
        differ = places-apart (stretch vs x y) q.keys-differ;
      }

  module _ (ql : Passed m₁ left left) (qr : Passed m₁ right right) where
    p₁ : Perimeter m₁ left
    p₁ = half-perimeter m₁ k₁ i j il jl ql

    -- the left half needs an edge only if there is none between a and b
    left-need : pairs_without m₁ left ≤ cond (eqb (find_arc m a b) 0) 1 0
    unfolding arc_at
    left-need = rw (half-need m s f u i j il jl m₁ k₁, half-end m s f u i j il jl ∙ (place_is vs b pb).1, half-start m s f u i j il jl ∙ (place_is vs a pa).1) (go (ℕ_discrete (find_arc m a b) 0))
      where
        go : Dec (find_arc m a b ≡ 0) → cond (eqb (find_arc m₁ b a) 0) 1 0 ≤ cond (eqb (find_arc m a b) 0) 1 0
        go (yes e) = rw (eq-eqb (find_arc m a b) 0 e) (one (eqb (find_arc m₁ b a) 0))
          where
            one : (c : Bool) → cond c 1 0 ≤ 1
            one true = omega arith
            one false = omega arith
        go (no n) = rw (ne_eqb (find_arc m₁ b a) 0 (back-there m m₁ (but-rings m s) k₁ a b (find_arc m a b) (arc-back m.arcs a b n))) zero-le

    need₁ : Met m₁ (insert_need m₁ left)
    unfolding insert_need
    need₁ = left-met tally₁ r (omega arith) (omega (arith, left-need)) (omega arith) (omega arith)

    abbrev m₂ : Mesh
    m₂ = put_face m₁ left (lists_of m₁ left) 0

    leave₁ : ListsLeave m₁ left (lists_of m₁ left)
    leave₁ = lists-leave m₁ b₁ left p₁

    put₁ : Put m₁ m₂ left
    put₁ = put_in m₁ b₁ left p₁ (three m₁ k₁) need₁ (lists_of m₁ left) leave₁ 0

    b₂ : AllButRings m₂
    b₂ = put₁.base

    k₂ : KeepsEnds m m₂
    k₂ = keeps-onto k₁ put₁.keeps

    p₂ : Perimeter m₂ right
    p₂ = half-perimeter m₂ k₂ j i jl il qr

    -- the right half needs none: the left one has the edge between them
    right-need : pairs_without m₂ right ≡ 0
    unfolding arc_at
    right-need = rw (half-need m s f u j i jl il m₂ k₂, half-end m s f u j i jl il ∙ (place_is vs a pa).1, half-start m s f u j i jl il ∙ (place_is vs b pb).1, ne_eqb (find_arc m₂ a b) 0 there-is)
      where
        last : ℕ
        last = length left - 1

        there-is : find_arc m₂ a b ≡ 0 → ⊥
        there-is =
            let w = put₁.joined last (omega (arith, ql.at-least-3)) in
            let h : Between m₂.arcs b a w.0 = record { exists = w.1.exists; leaves = w.1.leaves ∙ half-end m s f u i j il jl ∙ (place_is vs b pb).1; arrives = w.1.arrives ∙ half-start m s f u i j il jl ∙ (place_is vs a pa).1 } in
            back-there m₂ m₂ b₂ (keeps-none m₂) b a w.0 h

    tally₂ : Tally m m₂ 0 (pairs_without m₁ left) 1 1
    tally₂ = tally-onto tally₁ put₁.tally (omega arith) (omega arith) (omega arith) (omega arith)

    need₂ : Met m₂ (insert_need m₂ right)
    unfolding insert_need
    need₂ = left-met tally₂ r (omega arith) (omega (arith, left-need, right-need)) (omega arith) (omega arith)

    -- the lists of the right half, taken before the left one was in
    leave₂ : ListsLeave m₂ right (lists_of m₁ right)
    leave₂ c l y h =
        let w = lists-leave m₁ b₁ right (half-perimeter m₁ k₁ j i jl il qr) c l y h in
        (put₁.keeps.arcs y w.0, put₁.keeps.sources y w.0 ∙ w.1)

    abbrev m₃ : Mesh
    m₃ = put_face m₂ right (lists_of m₁ right) 0

    put₂ : Put m₂ m₃ right
    put₂ = put_in m₂ b₂ right p₂ (three m₂ k₂) need₂ (lists_of m₁ right) leave₂ 0

    tally₃ : Tally m m₃ 0 (pairs_without m₁ left + pairs_without m₂ right) 2 1
    tally₃ = tally-onto tally₂ put₂.tally (omega arith) refl (omega arith) (omega arith)

    -- one edge at most
    edges_few : pairs_without m₁ left + pairs_without m₂ right ≤ cond (eqb (find_arc m a b) 0) 1 0
    edges_few = omega (arith, left-need, right-need)

    -- the right half's lists are searched before the left half is in, with the arcs of both as soon held
    abbrev soon : List ℕ
    soon = arcs_on m₁ right ++ arcs_on m₁ left

    on-right : (x c : ℕ) → IsArc m₁ x → c < length right → x ≡ arc_at m₁ right c → arc_at m₂ right c ≡ x
    unfolding arc_at
    on-right x c v l e =
        let back = arc-back m₁.arcs (corner right c) (following right c) (λ z. let t = in_table m₁.arcs x v in omega arith) in
        found-is m₂ b₂ (corner right c) (following right c) x (keeps-between put₁.keeps (record { exists = v; leaves = ap (source m₁) e ∙ back.leaves; arrives = ap (dest m₁) e ∙ back.arrives }))

    was-right : (x c : ℕ) → IsArc m₁ x → c < length right → x ≡ arc_at m₂ right c → arc_at m₁ right c ≡ x
    unfolding arc_at
    was-right x c v l e =
        let back = arc-back m₂.arcs (corner right c) (following right c) (λ z. let t = in_table m₁.arcs x v in omega arith) in
        found-is m₁ b₁ (corner right c) (following right c) x
        (record { exists = v; leaves = sym (put₁.keeps.sources x v) ∙ ap (source m₂) e ∙ back.leaves; arrives = sym (put₁.keeps.dests x v) ∙ ap (dest m₂) e ∙ back.arrives })

    opposite-kept : (x : ℕ) → IsArc m₁ x → opposite m₂ x ≡ opposite m₁ x
    unfolding opposite_of
    opposite-kept x v = let e = b₁.edge-exists x v in rw (put₁.local.edge_stays x v, put₁.local.edges-stay (edge m₁ x) 1 e, put₁.local.edges-stay (edge m₁ x) 2 e)

    searched₂ : SearchedIn m₁ soon right m₂
    searched₂ =
        record {
          base = b₁;
          vertices = (half-perimeter m₁ k₁ j i jl il qr).vertices;
          arcs = put₁.keeps.arcs;
          opposites = opposite-kept;
          held = λ x v h. or_cases (has (arcs_on m₁ right) x) (has (arcs_on m₁ left) x) (subst T (on-either (arcs_on m₁ right) (arcs_on m₁ left) x) h)
              (λ q. let w = on-at m₁ right x q in inl (w.0, w.1, sym (on-right x w.0 v w.1 w.2)))
              (λ q. let w = on-at m₁ left x q in inr (put₁.holds x w.0 v w.1 w.2));
          others = λ x v n. let n' : T (has (arcs_on m₁ right) x || has (arcs_on m₁ left) x) → ⊥ = λ q. n (subst T (sym (on-either (arcs_on m₁ right) (arcs_on m₁ left) x)) q) in (
            put₁.faces-stay x v (λ c l e. n' (or_r (has (arcs_on m₁ right) x) (has (arcs_on m₁ left) x) (at_on m₁ left c x l e))),
            λ c l e. n' (or_l (has (arcs_on m₁ right) x) (has (arcs_on m₁ left) x) (at_on m₁ right c x l (sym (was-right x c v l e)))),
          );
        }

    both_by : (by : Makers) → LikeRules by → put_face_by by m₁ soon (put_face_by by m₁ (arcs_on m₁ left) m₁ left 0) right 0 ≡ m₃
    both_by by like =
        ap (λ (z : Mesh). put_face_by by m₁ soon z right 0) (put-face-by by like m₁ b₁ left p₁ (three m₁ k₁) need₁ m₁ (arcs_on m₁ left) (searched-here m₁ b₁ left p₁) 0)
        ∙ put-face-by by like m₂ b₂ right p₂ (three m₂ k₂) need₂ m₁ soon searched₂ 0

    -- ---- other faces

    module _ (g : ℕ) (v : IsFace m g) (ne : g ≡ f → ⊥) where
      none : g ≡ 0 → ⊥
      none z = let l = in_table m.faces g v in omega arith

      first : Spared m m₁ g
      first = remove-spares m s f u g ne v

      face-in : (n : Mesh) → Spared m n g → IsFace n g
      face-in n w = subst (λ (z : ℕ). T (not (eqb z 0))) (sym (w.record-stays 0)) v

      second : Spared m₁ m₂ g
      second = put₁.spares g (face-in m₁ first) (not_on m₁ left ql.no-conflict g none)

      -- the right half's arcs do not hold it either
      off-right : NotOn m₂ right g
      off-right c l h =
          let x = arc_at m₂ right c in
          let w = second.no_more x h in
          let e = was-right x c w.exists l refl in
          not_on m₁ right qr.no-conflict g none c l (subst (Holds m₁ g) (sym e) w)

      pub split-spares : Spared m m₃ g
      split-spares = spared-onto first (spared-onto second (put₂.spares g (face-in m₂ (spared-onto first second)) off-right))

    -- ---- how far it reaches

    -- both halves are of the ring's vertices
    both_left : Left near m m₃
    both_left =
        let t = but-rings m s in
        let first : Left near m m₂ = put-left t (removed-local m s f u) put₁ (λ v q h. half-on m s f u i j il jl v h) in
        put-left t first.1 put₂ (λ v q h. half-on m s f u j i jl il v h)

    -- both halves have come; of what was there before, the removed face is not, and the others are spared
    both-since : FacesSince m m₃
    both-since =
        let first : FacesSince m₁ m₂ = put-since (since_none m₁) (omega arith) ql.no-hair ql.no-conflict put₁ in
        let second : FacesSince m₁ m₃ = since-put first (omega (arith, put₁.tally.face-keys)) (subst (λ (z : Bool). T (not z)) (sym (hair-same m₁ m₂ right put₁.positions-stay)) qr.no-hair) put₂ (λ g q v. let was = remove-was m s f u g q in put₂.spares g v (off-right g was.1 was.0)) in
        since-onto (remove-since m s f u) (omega (arith, tally₁.face-keys)) (keeps-onto put₁.keeps put₂.keeps) second

  -- a split works among the ring's vertices
  pub split-reaching : Reaching near m (split_work m f a b) (split_work m f a b)
  unfolding split_work half
  split-reaching =
      let only : Left near m m₁ = (b₁, removed-local m s f u) in
      along-checked m₁ (insert_checks m₁ left left) _ _ only
      (λ h. along-checked m₁ (insert_checks m₁ right right) _ _ only
      (λ h'.
      let ql = passed m₁ left left h in
      let qr = passed m₁ right right h' in
      along-start (m₃ ql qr) (m₃ ql qr) _ (both-since ql qr) (both_left ql qr) refl))

  -- the need of a split suffices
  pub split-made : (by : Makers) → LikeRules by → Made m (split_need m a b) 1 (split_work m f a b) (split_work_by by m f a b)
  unfolding split_work split_work_by half
  split-made by like =
      along-checked m₁ (insert_checks m₁ left left) _ _ removed-only
      (λ h. along-checked m₁ (insert_checks m₁ right right) _ _ removed-only
      (λ h'.
      let ql = passed m₁ left left h in
      let qr = passed m₁ right right h' in
      step-made (put_face_by by m₁ (arcs_on m₁ right ++ arcs_on m₁ left) (put_face_by by m₁ (arcs_on m₁ left) m₁ left 0) right 0) _ (split_need m a b) (tally₃ ql qr) (edges_few ql qr) (omega arith) (both_by ql qr by like)))
    where
      removed-only : Within m m₁ (split_need m a b) 1
      removed-only =
          record { vertices = 0; edges = 0; faces = 0; tally = tally₁; vertices-needed = zero-le; edges-needed = zero-le; faces-needed = zero-le; face-keys-needed = zero-le }

-- ---- the call

-- the checks of a split that pass
pub split-passed : (m : Mesh) (f a b : ℕ) → T (accepted (split_checks m f a b)) → (f ≡ 0 → ⊥) × (place (ring_vertices m f) a ≡ 0 → ⊥) × (place (ring_vertices m f) b ≡ 0 → ⊥)
unfolding split_checks accepted
split-passed m f a b h = go (ℕ_discrete f 0) (ℕ_discrete (place (ring_vertices m f) a) 0) (ℕ_discrete (place (ring_vertices m f) b) 0) h
  where
    vs : List ℕ
    vs = ring_vertices m f

    rest : Answer
    rest =
        cond (ltb (ring_distance (length vs) (place vs a - 1) (place vs b - 1)) 2) (Refused TopologyMalformed) (cond (held_by_other m f (half m f a b) || held_by_other m f (half m f b a)) (Refused TopologyConflict) Done)

    go : Dec (f ≡ 0) → Dec (place vs a ≡ 0) → Dec (place vs b ≡ 0) → T (accepted (cond (eqb f 0) (Refused TopologyNotFound) (cond (eqb (place vs a) 0 || eqb (place vs b) 0) (Refused TopologyNotFound) rest))) → (f ≡ 0 → ⊥) × (place vs a ≡ 0 → ⊥) × (place vs b ≡ 0 → ⊥)
    go (yes e) x y q = absurd (rw (eq-eqb f 0 e) at q)
    go (no n) (yes e) y q = absurd (rw (ne_eqb f 0 n, eq-eqb (place vs a) 0 e) at q)
    go (no n) (no x) (yes e) q = absurd (rw (ne_eqb f 0 n, ne_eqb (place vs a) 0 x, eq-eqb (place vs b) 0 e) at q)
    go (no n) (no x) (no y) q = (n, x, y)

-- after a split that is answered with 0, every face but the one named has its record and the same ring, arc for arc
pub split-keeps-rings : (m : Mesh) (one two : Room) (f a b : ℕ) → ThreeCounters m → (told (face_split m one two f a b).answer).number ≡ 0 → (g : ℕ) → IsFace m g → (g ≡ find_face m f → ⊥) → SameRing m (face_split m one two f a b).mesh g
unfolding face_split checks work need arc_by_keys split_work half
split-keeps-rings m one two f a b k h g v ne =
    let w = answer-zero m (FaceSplit f a b) [] one two h in
    let s = facts m w.behind.was-sound in
    let face = find_face m f in
    let from = find_vertex m a in
    let to = find_vertex m b in
    let vs = ring_vertices m face in
    let left = stretch vs (place vs from - 1) (place vs to - 1) in
    let right = stretch vs (place vs to - 1) (place vs from - 1) in
    let m₁ = remove m face in
    let m₃ = put_face (put_face m₁ left (lists_of m₁ left) 0) right (lists_of m₁ right) 0 in
    let c = split-passed m face from to w.behind.checks-passed in
    let u = (find-back m.faces f c.0).0 in
    let room = met m (split_need m from to) w.behind.need-met in
    let first = checked-through m₁ (insert_checks m₁ left left) _ w.work-accepted in
    let second = checked-through m₁ (insert_checks m₁ right right) _ (subst (λ (t : Step). T (accepted t.answer)) first.1 w.work-accepted) in
    let is : (face_split m one two f a b).mesh ≡ m₃ = w.is ∙ ap (λ (t : Step). t.tables) (first.1 ∙ second.1) in
    let spared = split-spares m s k face from to u c.1 c.2 room (passed m₁ left left first.0) (passed m₁ right right second.0) g v ne in
    let sr = facts m₃ (subst (λ (n : Mesh). T (sound n)) is w.now-sound) in
    subst (λ (n : Mesh). SameRing m n g) (sym is) (same-ring spared (sr.rings g (subst (λ (z : ℕ). T (not (eqb z 0))) (sym (spared.record-stays 0)) v)))
