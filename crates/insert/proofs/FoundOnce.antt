-- The interior and the exterior of an insert, written by the perimeter's arcs as they were found once, are those of document 01's rule 5:
-- no link and no face moves an arc's ends.
use Prim.Native.Nat.{ℕ, zero, suc, ◌-◌, ◌≤◌}
use native.Mathlib.Omega.{arith}
use mathlib.Core.Path.{◌≡◌, refl, ap, sym, ◌∙◌}
use mathlib.Core.Bool.{Bool, true, false, cond, ◌&&◌}
use mathlib.Core.List.{List, [], ◌∷◌, ◌++◌}
use lib.ListN.{length, get_or, set, length-set}
use lib.Seq.{get_or-set_other}
use lib.Dec.{eqb}
use Rattle.rules.specs.Table.{Table, cell, put, first_row, up_to, after, link_into, or_else, free_row}
use Rattle.rules.specs.Mesh.{Mesh, with_arcs, opposite_of, joins, arc_between}
use Rattle.rules.specs.Link.{connect, set_face}
use Rattle.rules.specs.Insert.{arc_at, interior, edges_in, new_face}
use Rattle.makers.specs.Search.{Sought, exterior_sought_at, exterior_sought}
use Rattle.pairs.specs.Pairs.{list_below, pair_arc, arcs_of}
use Rattle.pairs.proofs.Listed.{arcs-length, pair-listed}
use Rattle.insert.specs.Perimeter.{interior_to, interior_by, exterior_to, exterior_by}
use Rattle.insert.specs.Sought.{put_sought}

-- ---- an arc's ends

-- a scan is unchanged by a store that passes the test as the old row does
pub first-set : (p : List ℕ → Bool) (xs : Table) (i : ℕ) (y : List ℕ) → p y ≡ p (get_or xs i []) → first_row p (set xs i y) ≡ first_row p xs
unfolding first_row
first-set p [] i y e = refl
first-set p (x ∷ xs) zero y e = rw e
first-set p (x ∷ xs) (suc i) y e = rw (first-set p xs i y e)

joins_set : (a b c v : ℕ) (r : List ℕ) → 2 ≤ c → joins a b (set r c v) ≡ joins a b r
joins_set a b c v r h =
    ap (λ (s : ℕ). eqb s a && eqb (get_or (set r c v) 1 0) b) (get_or-set_other r c 0 v 0 (λ e. omega arith))
    ∙ ap (λ (d : ℕ). eqb (get_or r 0 0) a && eqb d b) (get_or-set_other r c 1 v 0 (λ e. omega arith))

-- a table with every arc between the same ends
pub record SameEnds (t u : Table) : Type 0 where
  pub same : (a b : ℕ) → arc_between t a b ≡ arc_between u a b

pub ends-put : (t : Table) (x c v : ℕ) → 2 ≤ c → SameEnds (put t x c v) t
unfolding put arc_between
ends-put t x c v h = record { same = λ a b. go a b (eqb x 0) }
  where
    row : List ℕ
    row = get_or t (x - 1) []

    go : (a b : ℕ) (z : Bool) → cond (eqb a 0) 0 (link_into (cond z t (set t (x - 1) (set (get_or t (x - 1) []) c v))) (first_row (joins a b) (cond z t (set t (x - 1) (set (get_or t (x - 1) []) c v))))) ≡ cond (eqb a 0) 0 (link_into t (first_row (joins a b) t))
    go a b true = refl
    go a b false = rw (length-set t (x - 1) (set (get_or t (x - 1) []) c v), first-set (joins a b) t (x - 1) (set (get_or t (x - 1) []) c v) (joins_set a b c v (get_or t (x - 1) []) h))

pub ends-trans : (t u w : Table) → SameEnds t u → SameEnds u w → SameEnds t w
ends-trans t u w p q = record { same = λ a b. p.same a b ∙ q.same a b }

pub ends-refl : (t : Table) → SameEnds t t
ends-refl t = record { same = λ a b. refl }

pair_ends : (t u : Table) (per : List ℕ) (i : ℕ) → SameEnds t u → pair_arc t per i ≡ pair_arc u per i
unfolding pair_arc
pair_ends t u per i s = s.same (get_or per i 0) (get_or per (after (length per) i) 0)

ends-interior : (x y f : ℕ) (t : Table) → SameEnds (interior_to x y f t) t
unfolding interior_to
ends-interior x y f t =
    ends-trans (put (put (put t x 2 y) y 3 x) x 4 f) (put (put t x 2 y) y 3 x) t (ends-put (put (put t x 2 y) y 3 x) x 4 f (omega arith))
    (ends-trans (put (put t x 2 y) y 3 x) (put t x 2 y) t (ends-put (put t x 2 y) y 3 x (omega arith)) (ends-put t x 2 y (omega arith)))

ends-cond : (b : Bool) (t u w : Table) → SameEnds t w → SameEnds u w → SameEnds (cond b t u) w
ends-cond true t u w p q = p
ends-cond false t u w p q = q

-- two connections
ends-two : (t : Table) (o a b : ℕ) → SameEnds (put (put (put (put t o 2 a) a 3 o) b 2 o) o 3 b) t
ends-two t o a b =
    let t₁ = put t o 2 a in
    let t₂ = put t₁ a 3 o in
    let t₃ = put t₂ b 2 o in
    ends-trans (put t₃ o 3 b) t₃ t (ends-put t₃ o 3 b (omega arith))
    (ends-trans t₃ t₂ t (ends-put t₂ b 2 o (omega arith)) (ends-trans t₂ t₁ t (ends-put t₁ a 3 o (omega arith)) (ends-put t o 2 a (omega arith))))

ends-exterior : (edges : Table) (out back x : ℕ) (t : Table) → SameEnds (exterior_to edges out back x t) t
unfolding exterior_to
ends-exterior edges out back x t =
    let o = opposite_of t edges x in
    let a = or_else out (opposite_of t edges (cell t x 3)) in
    let b = or_else back (opposite_of t edges (cell t x 2)) in
    ends-cond (eqb (cell t o 4) 0) (put (put (put (put t o 2 a) a 3 o) b 2 o) o 3 b) t t (ends-two t o a b) (ends-refl t)

-- ---- a loop over the perimeter that writes arcs, by the arcs found once

-- what such a loop does at pair i, on the mesh and on the arc table
module _ (m : Mesh) (on_mesh : ℕ → Mesh → Mesh) (on_arcs : ℕ → Table → Table)
    (same : (i : ℕ) (t : Table) → SameEnds t m.arcs → on_mesh i (with_arcs m t) ≡ with_arcs m (on_arcs i t))
    (ends : (i : ℕ) (t : Table) → SameEnds (on_arcs i t) t) where
  loop-ends : (k : ℕ) → SameEnds (up_to on_arcs k m.arcs) m.arcs
  unfolding up_to
  loop-ends zero = ends-refl m.arcs
  loop-ends (suc k) = ends-trans (on_arcs k (up_to on_arcs k m.arcs)) (up_to on_arcs k m.arcs) m.arcs (ends k (up_to on_arcs k m.arcs)) (loop-ends k)

  loop-arcs : (k : ℕ) → up_to on_mesh k m ≡ with_arcs m (up_to on_arcs k m.arcs)
  unfolding up_to
  loop-arcs zero = refl
  loop-arcs (suc k) = ap (on_mesh k) (loop-arcs k) ∙ same k (up_to on_arcs k m.arcs) (loop-ends k)

-- the arc found once is the arc of the pair
found-once : (m : Mesh) (per : List ℕ) (i : ℕ) (t : Table) → SameEnds t m.arcs → pair_arc t per i ≡ get_or (arcs_of m.arcs per) i 0
found-once m per i t s = pair_ends t m.arcs per i s ∙ sym (pair-listed m.arcs per i)

interior-by : (m : Mesh) (per : List ℕ) (f : ℕ) → interior per f m ≡ with_arcs m (interior_by (arcs_of m.arcs per) f m.arcs)
unfolding interior interior_by interior_to arc_at pair_arc connect set_face
interior-by m per f =
    rw (arcs-length m.arcs per)
    (loop-arcs m (λ i a. set_face (connect a (arc_at a per i) (arc_at a per (after (length per) i))) (arc_at a per i) f)
    (λ i u. interior_to (get_or xs i 0) (get_or xs (after (length per) i) 0) f u)
    at_pair (λ i t. ends-interior (get_or xs i 0) (get_or xs (after (length per) i) 0) f t) (length per))
  where
    xs : List ℕ
    xs = arcs_of m.arcs per

    at_pair : (i : ℕ) (t : Table) → SameEnds t m.arcs → set_face (connect (with_arcs m t) (arc_at (with_arcs m t) per i) (arc_at (with_arcs m t) per (after (length per) i))) (arc_at (with_arcs m t) per i) f ≡ with_arcs m (interior_to (get_or xs i 0) (get_or xs (after (length per) i) 0) f t)
    at_pair i t s =
        let x = found-once m per i t s in
        let y = found-once m per (after (length per) i) t s in
        λ j. with_arcs m (interior_to (x j) (y j) f t)

exterior-by : (m : Mesh) (per : List ℕ) (s : Sought) → exterior_sought per s m ≡ with_arcs m (exterior_by m.edges s.outs s.backs (arcs_of m.arcs per) m.arcs)
unfolding exterior_sought exterior_sought_at exterior_by exterior_to arc_at pair_arc connect
exterior-by m per s =
    rw (arcs-length m.arcs per)
    (loop-arcs m (exterior_sought_at per s)
    (λ i u. exterior_to m.edges (get_or s.outs i 0) (get_or s.backs (after (length per) i) 0) (get_or xs i 0) u)
    at_pair (λ i t. ends-exterior m.edges (get_or s.outs i 0) (get_or s.backs (after (length per) i) 0) (get_or xs i 0) t) (length per))
  where
    xs : List ℕ
    xs = arcs_of m.arcs per

    with-cond : (b : Bool) (t u : Table) → cond b (with_arcs m t) (with_arcs m u) ≡ with_arcs m (cond b t u)
    with-cond true t u = refl
    with-cond false t u = refl

    at_pair : (i : ℕ) (t : Table) → SameEnds t m.arcs → exterior_sought_at per s i (with_arcs m t) ≡ with_arcs m (exterior_to m.edges (get_or s.outs i 0) (get_or s.backs (after (length per) i) 0) (get_or xs i 0) t)
    at_pair i t e =
        let w = arc_at (with_arcs m t) per i in
        let o = opposite_of t m.edges w in
        let a = or_else (get_or s.outs i 0) (opposite_of t m.edges (cell t w 3)) in
        let b = or_else (get_or s.backs (after (length per) i) 0) (opposite_of t m.edges (cell t w 2)) in
        with-cond (eqb (cell t o 4) 0) (put (put (put (put t o 2 a) a 3 o) b 2 o) o 3 b) t
        ∙ ap (λ (x : ℕ). with_arcs m (exterior_to m.edges (get_or s.outs i 0) (get_or s.backs (after (length per) i) 0) x t)) (found-once m per i t e)

-- ---- the whole insert

below-ext : (f g : ℕ → ℕ) (n : ℕ) → ((i : ℕ) → f i ≡ g i) → list_below f n ≡ list_below g n
unfolding list_below up_to
below-ext f g zero h = refl
below-ext f g (suc n) h = λ j. below-ext f g n h j ++ (h n j ∷ [])

arcs-ends : (t u : Table) (per : List ℕ) → SameEnds t u → arcs_of t per ≡ arcs_of u per
unfolding arcs_of
arcs-ends t u per s = below-ext (pair_arc t per) (pair_arc u per) (length per) (λ i. pair_ends t u per i s)

ends-up_to : (f : ℕ → Table → Table) (n : ℕ) (t : Table) → ((i : ℕ) (u : Table) → SameEnds (f i u) u) → SameEnds (up_to f n t) t
unfolding up_to
ends-up_to f zero t h = ends-refl t
ends-up_to f (suc n) t h = ends-trans (f n (up_to f n t)) (up_to f n t) t (h n (up_to f n t)) (ends-up_to f n t h)

ends-interiors : (xs : List ℕ) (f : ℕ) (t : Table) → SameEnds (interior_by xs f t) t
unfolding interior_by
ends-interiors xs f t =
    ends-up_to (λ i u. interior_to (get_or xs i 0) (get_or xs (after (length xs) i) 0) f u) (length xs) t (λ i u. ends-interior (get_or xs i 0) (get_or xs (after (length xs) i) 0) f u)

-- interior and exterior of a mesh, by the arcs found once
both_by : (m : Mesh) (per : List ℕ) (s : Sought) (f : ℕ) → exterior_sought per s (interior per f m) ≡ with_arcs m (exterior_by m.edges s.outs s.backs (arcs_of m.arcs per) (interior_by (arcs_of m.arcs per) f m.arcs))
both_by m per s f =
    let xs = arcs_of m.arcs per in
    let t = interior_by xs f m.arcs in
    ap (exterior_sought per s) (interior-by m per f)
    ∙ exterior-by (with_arcs m t) per s
    ∙ ap (λ (ys : List ℕ). with_arcs m (exterior_by m.edges s.outs s.backs ys t)) (arcs-ends t m.arcs per (ends-interiors xs f m.arcs))

-- the edges, the face with the first perimeter arc, the interior, then the exterior
pub put-sought-by : (m : Mesh) (per : List ℕ) (s : Sought) (mark : ℕ) → put_sought s m per mark
    ≡ (let m₁ = edges_in per m in
    let m₂ = new_face m₁ (pair_arc m₁.arcs per 0) mark in
    let xs = arcs_of m₁.arcs per in
    with_arcs m₂ (exterior_by m₁.edges s.outs s.backs xs (interior_by xs (free_row m₁.faces) m₁.arcs)))
unfolding put_sought new_face arc_at pair_arc
put-sought-by m per s mark =
    let m₁ = edges_in per m in
    both_by (new_face m₁ (pair_arc m₁.arcs per 0) mark) per s (free_row m₁.faces)
