-- What was searched for in the lists before an insert still tells when its interior is in: of the mesh itself, and in a split of the mesh before
-- the other half went in.
use Prim.Native.Nat.{ℕ, zero, suc, ◌≤◌, ◌<◌}
use native.Mathlib.Nat.{not-suc-le-zero}
use native.Mathlib.Decide.{ℕ_discrete}
use native.Mathlib.Omega.{arith}
use mathlib.Core.Path.{◌≡◌, refl, ap, sym, subst, ◌∙◌}
use mathlib.Core.Bool.{Bool, true, false, not, ◌||◌}
use mathlib.Core.List.{List, [], ◌∷◌, ◌++◌}
use mathlib.Core.Logic.{◌⊎◌, inl, inr}
use lib.ListN.{length}
use lib.Dec.{T, eqb, eqb→eq}
use borrow.Author.Tests.{ne_eqb}
use Rattle.rules.specs.Table.{Table, cell, up_to, free_row, has}
use Rattle.rules.specs.Mesh.{Mesh, face, opposite, opposite_of}
use Rattle.rules.specs.Link.{turn_in}
use Rattle.rules.specs.Insert.{arc_at, interior, new_face}
use Rattle.rules.specs.Call.{insert_need}
use Rattle.rules.proofs.Sums.{or_cases, or_l, or_r}
use Rattle.proved.specs.Facts.{IsVertex, IsArc}
use Rattle.proved.proofs.Rows.{same-T}
use Rattle.makers.specs.Search.{arcs_on, held_in}
use Rattle.makers.specs.Makers.{StillTells}
use Rattle.kept.specs.Frame.{AllButRings, ThreeCounters, Met}
use Rattle.kept.specs.Perimeter.{Perimeter, corner, Grown, Inside}
use Rattle.kept.proofs.Opposite.{ends-opposite, opposite-is}
use Rattle.kept.proofs.Interior.{inside}
use Rattle.kept.proofs.NewRing.{among}
use Rattle.kept.proofs.Face.{new-face-is}
use Rattle.kept.proofs.Insert.{with_edges, edges-up, perimeter-up, room-up, new_faces, new_counters, faces-took, result, edges-pair-before, edges-pair-after}

-- ---- the arcs of a perimeter as a list

module _ (g : ℕ → ℕ) where
  abbrev listed : ℕ → List ℕ
  listed n = up_to (λ i l. l ++ (g i ∷ [])) n []

  has_part : (xs ys : List ℕ) (x : ℕ) → has (xs ++ ys) x ≡ (has xs x || has ys x)
  unfolding has
  has_part [] ys x = refl
  has_part (y ∷ xs) ys x = ap (λ (b : Bool). eqb x y || b) (has_part xs ys x) ∙ three (eqb x y) (has xs x) (has ys x)
    where
      three : (a b c : Bool) → (a || (b || c)) ≡ ((a || b) || c)
      three true b c = refl
      three false b c = refl

  -- something is listed just if it stands at a place below n
  listed_at : (n x : ℕ) → T (has (listed n) x) → (i : ℕ) × (i < n) × (x ≡ g i)
  unfolding up_to has
  listed_at zero x h = absurd h
  listed_at (suc n) x h =
      or_cases (has (listed n) x) (has (g n ∷ []) x) (subst T (has_part (listed n) (g n ∷ []) x) h) (λ q. let w = listed_at n x q in (w.0, omega (arith, w.1), w.2))
      (λ q. or_cases (eqb x (g n)) false q (λ e. (n, omega arith, eqb→eq x (g n) e)) (λ z. absurd z))

  listed_has : (n i x : ℕ) → i < n → x ≡ g i → T (has (listed n) x)
  unfolding up_to has
  listed_has zero i x l e = absurd (not-suc-le-zero l)
  listed_has (suc n) i x l e = subst T (sym (has_part (listed n) (g n ∷ []) x)) (go (ℕ_discrete i n) (λ q. listed_has n i x q e))
    where
      go : Dec (i ≡ n) → (i < n → T (has (listed n) x)) → T (has (listed n) x || (eqb x (g n) || false))
      go (yes q) ih = or_r (has (listed n) x) (eqb x (g n) || false) (or_l (eqb x (g n)) false (same-T x (g n) (e ∙ ap g q)))
      go (no q) ih = or_l (has (listed n) x) (eqb x (g n) || false) (ih (omega arith))

pub on-at : (m : Mesh) (per : List ℕ) (x : ℕ) → T (has (arcs_on m per) x) → (i : ℕ) × (i < length per) × (x ≡ arc_at m per i)
unfolding arcs_on
on-at m per x h = listed_at (arc_at m per) (length per) x h

pub at_on : (m : Mesh) (per : List ℕ) (i x : ℕ) → i < length per → x ≡ arc_at m per i → T (has (arcs_on m per) x)
unfolding arcs_on
at_on m per i x l e = listed_has (arc_at m per) (length per) i x l e

pub on-either : (xs ys : List ℕ) (x : ℕ) → has (xs ++ ys) x ≡ (has xs x || has ys x)
on-either xs ys x = has_part (λ i. i) xs ys x

-- ---- a search in an older mesh

-- m keeps the arcs of the older mesh with their opposites. What counted as held there is on the perimeter or has a face, and what did not is off it
-- and has the face that it had
pub record SearchedIn (old : Mesh) (soon per : List ℕ) (m : Mesh) : Type 0 where
  pub base : AllButRings old
  pub vertices : (i : ℕ) → i < length per → IsVertex old (corner per i)
  pub arcs : (x : ℕ) → IsArc old x → IsArc m x
  pub opposites : (x : ℕ) → IsArc old x → opposite m x ≡ opposite old x
  pub held : (x : ℕ) → IsArc old x → T (has soon x) → ((i : ℕ) × (i < length per) × (x ≡ arc_at m per i)) ⊎ (face m x ≡ 0 → ⊥)
  pub others : (x : ℕ) → IsArc old x → (T (has soon x) → ⊥) → (face m x ≡ face old x) × ((i : ℕ) → i < length per → x ≡ arc_at m per i → ⊥)

-- the mesh itself, before the insert
pub searched-here : (m : Mesh) → AllButRings m → (per : List ℕ) → Perimeter m per → SearchedIn m (arcs_on m per) per m
searched-here m s per p =
    record {
      base = s;
      vertices = p.vertices;
      arcs = λ x u. u;
      opposites = λ x u. refl;
      held = λ x u h. inl (on-at m per x h);
      others = λ x u n. (refl, λ i l e. n (at_on m per i x l e));
    }

module _ (m : Mesh) (s : AllButRings m) (per : List ℕ) (p : Perimeter m per) (k : ThreeCounters m) (w : Met m (insert_need m per)) (mark : ℕ) where
  abbrev n : Mesh
  n = with_edges m s per p k w

  abbrev f : ℕ
  f = free_row n.faces

  base : AllButRings n
  base = (edges-up m s per p k w).base

  abbrev g : Grown per m n
  g = (edges-up m s per p k w).grown

  some : 1 ≤ f
  some = (faces-took n base per (perimeter-up m s per p k w) (edges-up m s per p k w).joined (room-up m s per p k w) mark).some

  abbrev result_of : Table → Mesh
  result_of t = result n base per (perimeter-up m s per p k w) (edges-up m s per p k w).joined (room-up m s per p k w) mark t

  in-ring : (t : Table) × (interior per f (new_face n (arc_at n per 0) mark) ≡ result_of t) × Inside n per f t
  in-ring =
      let i = inside n base per (perimeter-up m s per p k w) (edges-up m s per p k w).joined f (new_faces n base per (perimeter-up m s per p k w) (edges-up m s per p k w).joined (room-up m s per p k w) mark) (new_counters n base per (perimeter-up m s per p k w) (edges-up m s per p k w).joined (room-up m s per p k w) mark) in
      (i.0, ap (interior per f) (new-face-is n base (room-up m s per p k w) (arc_at n per 0) mark) ∙ i.1, i.2)

  opposite-grown : (x : ℕ) → IsArc m x → opposite n x ≡ opposite m x
  unfolding opposite_of
  opposite-grown x u = let e = s.edge-exists x u in rw (g.arcs-stay x 5 u, g.edges-stay (cell m.arcs x 5) 1 e, g.edges-stay (cell m.arcs x 5) 2 e)

  module _ (t : Table) (h : Inside n per f t) (old : Mesh) (soon : List ℕ) (q : SearchedIn old soon per m) where
    has-face : (x : ℕ) → cell t x 4 ≡ f → not (eqb (cell t x 4) 0) ≡ true
    has-face x e = rw (ne_eqb (cell t x 4) 0 (λ z. omega (arith, some)))

    face-held : (x : ℕ) → IsArc old x → ((i : ℕ) × (i < length per) × (x ≡ arc_at m per i)) ⊎ (face m x ≡ 0 → ⊥) → not (eqb (cell t x 4) 0) ≡ true
    face-held x u (inl (i, l, e)) = has-face x (ap (λ (z : ℕ). cell t z 4) (sym (edges-pair-after m s per p k w x i (q.arcs x u) l e)) ∙ h.face-on i l)
    face-held x u (inr nz) = go (among (arc_at n per) (length per) x)
      where
        go : ((i : ℕ) × (i < length per) × (x ≡ arc_at n per i)) ⊎ ((i : ℕ) → i < length per → x ≡ arc_at n per i → ⊥) → not (eqb (cell t x 4) 0) ≡ true
        go (inl (i, l, e)) = has-face x (ap (λ (z : ℕ). cell t z 4) e ∙ h.face-on i l)
        go (inr off) = rw (h.others-stay x 4 off, g.arcs-stay x 4 (q.arcs x u), ne_eqb (face m x) 0 nz)

    face-stays : (x : ℕ) → IsArc old x → (T (has soon x) → ⊥) → cell t x 4 ≡ face old x
    face-stays x u n' =
        let o = q.others x u n' in
        h.others-stay x 4 (λ i l e. o.1 i l (sym (edges-pair-before m s per p k w x i (q.arcs x u) l e))) ∙ g.arcs-stay x 4 (q.arcs x u) ∙ o.0

    held-now : (x : ℕ) → IsArc old x → held_in old.arcs soon x ≡ not (eqb (cell t x 4) 0)
    unfolding held_in
    held-now x u = go (has soon x) refl
      where
        go : (b : Bool) → has soon x ≡ b → (not (eqb (face old x) 0) || b) ≡ not (eqb (cell t x 4) 0)
        go true e = or-true (not (eqb (face old x) 0)) ∙ sym (face-held x u (q.held x u (subst T (sym e) tt)))
          where
            or-true : (a : Bool) → (a || true) ≡ true
            or-true true = refl
            or-true false = refl
        go false e = or-false (not (eqb (face old x) 0)) ∙ ap (λ (z : ℕ). not (eqb z 0)) (sym (face-stays x u (λ i. subst T e i)))
          where
            or-false : (a : Bool) → (a || false) ≡ a
            or-false true = refl
            or-false false = refl

    tells-in : StillTells old soon per (result_of t)
    unfolding turn_in
    tells-in =
        record {
          leads-there = λ i l ne. (q.base.leads-out (corner per i) (q.vertices i l) ne).0;
          turns-there = λ x u ne. (q.base.next-leaves (opposite old x) (opposite-is old q.base x u).exists ne).0;
          opposites-there = λ x u. (opposite-is old q.base x u).exists;
          opposites-stay = λ x u. ends-opposite n t h.linked.ends x ∙ opposite-grown x (q.arcs x u) ∙ q.opposites x u;
          held = held-now;
        }

  -- what was found still tells when the interior is in
  pub still-tells : (old : Mesh) (soon : List ℕ) → SearchedIn old soon per m → StillTells old soon per (interior per f (new_face n (arc_at n per 0) mark))
  still-tells old soon q = subst (StillTells old soon per) (sym in-ring.1) (tells-in in-ring.0 in-ring.2 old soon q)
