-- Arcs, edges and faces are made in the lowest unused rows, and nothing else in an insert writes a row's first cell: so each step of an edit leaves
-- these tables filled up. What is known of used rows stays known.
use Prim.Native.Nat.{ℕ, zero, suc, ◌+◌, ◌-◌, ◌≤◌, ◌<◌}
use native.Mathlib.Omega.{arith}
use native.Mathlib.Decide.{ℕ_discrete, dec_lt}
use mathlib.Core.Path.{◌≡◌, refl, ap, sym, subst, ◌∙◌}
use mathlib.Core.Bool.{Bool, true, false, cond}
use mathlib.Core.List.{List, [], ◌∷◌}
use lib.ListN.{length, get_or, set, length-set}
use lib.Seq.{get_or-set_other}
use lib.Dec.{eqb}
use borrow.Author.Tests.{ne_eqb, eqb-true, eqb-false}
use Rattle.rules.specs.Answer.{Answer}
use Rattle.rules.specs.Table.{Table, cell, put, put_row, free_row, up_to, after, or_else}
use Rattle.rules.specs.Mesh.{Mesh, previous, next, face, opposite, find_arc}
use Rattle.rules.specs.Link.{connect, set_face, new_arc, new_edge, get_or_insert_edge}
use Rattle.rules.specs.Step.{Step, step, accepted, checked}
use Rattle.rules.specs.Insert.{arc_at, edges_in, new_face, interior, insert_checks}
use Rattle.rules.specs.Edit.{corners, arc_bridge_checks}
use Rattle.tables.proofs.Cells.{cell-none, cell-here, row-none, row_here}
use Rattle.edges.specs.Free.{UsedBefore}
use Rattle.edges.proofs.Searches.{used-free, free-unused}
use Rattle.pairs.specs.Near.{FilledUp}
use Rattle.pairs.proofs.Filled.{filled-same, filled_trans}
use Rattle.makers.specs.Search.{Sought, arcs_on, sought_for, exterior_sought_at, exterior_sought}
use Rattle.makers.specs.Makers.{searching, put_face_by, insert_work_by, insert_face_by, arc_bridge_work_by, arc_bridge_by}
use Rattle.insert.specs.Sought.{put_sought}
use Rattle.insert.proofs.Loops.{by-sought}

-- ---- one table

filled-itself : (t : Table) → FilledUp t t
filled-itself t = filled-same t t refl (λ x. refl)

same_row : (t u : Table) (x : ℕ) → get_or (get_or u (x - 1) []) 0 0 ≡ get_or (get_or t (x - 1) []) 0 0 → cell u x 0 ≡ cell t x 0
unfolding cell
same_row t u x e = ap (λ (v : ℕ). cond (eqb x 0) 0 v) e

-- links of one row are one
one_link : (x y : ℕ) → (x ≡ 0 → ⊥) → (y ≡ 0 → ⊥) → x - 1 ≡ y - 1 → x ≡ y
one_link zero y a b e = absurd (a refl)
one_link (suc x) zero a b e = absurd (b refl)
one_link (suc x) (suc y) a b e = omega (arith, e)

-- a record put into the lowest unused row
module _ (t : Table) (r : List ℕ) (some : free_row t ≡ 0 → ⊥) where
  free-empty : cell t (free_row t) 0 ≡ 0
  free-empty = sym (cell-here t (free_row t) 0 some) ∙ eqb-true _ 0 (free-unused t some)

  other_row : (x : ℕ) → (x ≡ free_row t → ⊥) → cell (set t (free_row t - 1) r) x 0 ≡ cell t x 0
  other_row x ne = go (ℕ_discrete x 0)
    where
      go : Dec (x ≡ 0) → cell (set t (free_row t - 1) r) x 0 ≡ cell t x 0
      go (yes z) = sym (cell-none (set t (free_row t - 1) r) x 0 z) ∙ cell-none t x 0 z
      go (no nz) = same_row t (set t (free_row t - 1) r) x (ap (λ (s : List ℕ). get_or s 0 0) (get_or-set_other t (free_row t - 1) (x - 1) r [] (λ e. ne (one_link x (free_row t) nz some e))))

  -- a row before it is used
  used-below : (s : ℕ) → 1 ≤ s → s < free_row t → cell t s 0 ≡ 0 → ⊥
  used-below s one l z = eqb-false _ 0 (used-free t (s - 1) (omega arith)) (cell-here t s 0 (λ e. omega arith) ∙ z)

  filled-set : FilledUp t (set t (free_row t - 1) r)
  filled-set = record {
    rows = length-set t (free_row t - 1) r;
    stays = λ x u. other_row x (λ e. u (ap (λ (y : ℕ). cell t y 0) e ∙ free-empty));
    beyond = λ s x one l z q. go s x one z q (ℕ_discrete x (free_row t)) (dec_lt s (free_row t));
  }
    where
      go : (s x : ℕ) → 1 ≤ s → cell (set t (free_row t - 1) r) s 0 ≡ 0 → s ≤ x → Dec (x ≡ free_row t) → Dec (s < free_row t) → cell (set t (free_row t - 1) r) x 0 ≡ cell t x 0
      go s x one z q (no ne) d = other_row x ne
      go s x one z q (yes e) (yes l) = absurd (used-below s one l (sym (other_row s (λ w. omega arith)) ∙ z))
      go s x one z q (yes e) (no l) =
          let is : x ≡ s = omega arith in
          ap (λ (y : ℕ). cell (set t (free_row t - 1) r) y 0) is ∙ z ∙ sym (ap (λ (y : ℕ). cell t y 0) e ∙ free-empty)

filled_row : (t : Table) (r : List ℕ) → FilledUp t (put_row t (free_row t) r)
filled_row t r = go (ℕ_discrete (free_row t) 0)
  where
    go : Dec (free_row t ≡ 0) → FilledUp t (put_row t (free_row t) r)
    go (yes z) = subst (FilledUp t) (row-none t (free_row t) r z) (filled-itself t)
    go (no nz) = subst (FilledUp t) (row_here t (free_row t) r nz) (filled-set t r nz)

-- a cell that is not the first
first-kept : (t : Table) (i : ℕ) (r : List ℕ) → get_or r 0 0 ≡ get_or (get_or t i []) 0 0 → (k : ℕ) → get_or (get_or (set t i r) k []) 0 0 ≡ get_or (get_or t k []) 0 0
first-kept [] i r e k = refl
first-kept (x ∷ xs) zero r e zero = e
first-kept (x ∷ xs) zero r e (suc k) = refl
first-kept (x ∷ xs) (suc i) r e zero = refl
first-kept (x ∷ xs) (suc i) r e (suc k) = first-kept xs i r e k

filled_put : (t : Table) (l c v : ℕ) → 1 ≤ c → FilledUp t (put t l c v)
unfolding put
filled_put t l c v one = go (eqb l 0)
  where
    row : List ℕ
    row = set (get_or t (l - 1) []) c v

    go : (b : Bool) → FilledUp t (cond b t (set t (l - 1) (set (get_or t (l - 1) []) c v)))
    go true = filled-itself t
    go false = filled-same t (set t (l - 1) row) (length-set t (l - 1) row) (λ x. same_row t (set t (l - 1) row) x (first-kept t (l - 1) row (get_or-set_other (get_or t (l - 1) []) c 0 v 0 (λ e. omega arith)) (x - 1)))

-- what was used is used: a row past the end is not
pub used-stays : (t n : Table) (l : ℕ) → FilledUp t n → UsedBefore t l → UsedBefore n l
used-stays t n l f h k q = ne_eqb (get_or (get_or n k []) 0 0) 0 some
  where
    link : k + 1 - 1 ≡ k
    link = omega arith

    here : (u : Table) → cell u (k + 1) 0 ≡ get_or (get_or u k []) 0 0
    here u = sym (cell-here u (k + 1) 0 (λ e. omega arith)) ∙ ap (λ (j : ℕ). get_or (get_or u j []) 0 0) link

    was : cell t (k + 1) 0 ≡ 0 → ⊥
    was z = eqb-false _ 0 (h k q) (sym (here t) ∙ z)

    some : get_or (get_or n k []) 0 0 ≡ 0 → ⊥
    some z = was (sym (f.stays (k + 1) was) ∙ here n ∙ z)

-- ---- arcs, edges and faces of a mesh

pub record Filled (m n : Mesh) : Type 0 where
  pub arcs : FilledUp m.arcs n.arcs
  pub edges : FilledUp m.edges n.edges
  pub faces : FilledUp m.faces n.faces

pub as-it-is : (m : Mesh) → Filled m m
as-it-is m = record { arcs = filled-itself m.arcs; edges = filled-itself m.edges; faces = filled-itself m.faces }

pub and-then : (m n o : Mesh) → Filled m n → Filled n o → Filled m o
and-then m n o f g = record { arcs = filled_trans m.arcs n.arcs o.arcs f.arcs g.arcs; edges = filled_trans m.edges n.edges o.edges f.edges g.edges; faces = filled_trans m.faces n.faces o.faces f.faces g.faces }

in_turns : (f : ℕ → Mesh → Mesh) → ((i : ℕ) (m : Mesh) → Filled m (f i m)) → (n : ℕ) (m : Mesh) → Filled m (up_to f n m)
unfolding up_to
in_turns f h zero m = as-it-is m
in_turns f h (suc n) m = and-then m (up_to f n m) (f n (up_to f n m)) (in_turns f h n m) (h n (up_to f n m))

either_way_lem : (b : Bool) (m n o : Mesh) → Filled m n → Filled m o → Filled m (cond b n o)
either_way_lem true m n o f g = f
either_way_lem false m n o f g = g

-- ---- the steps of rules 2 and 4

filled-connect : (m : Mesh) (x y : ℕ) → Filled m (connect m x y)
unfolding connect
filled-connect m x y = record {
  arcs = filled_trans m.arcs (put m.arcs x 2 y) (put (put m.arcs x 2 y) y 3 x) (filled_put m.arcs x 2 y (omega arith)) (filled_put (put m.arcs x 2 y) y 3 x (omega arith));
  edges = filled-itself m.edges;
  faces = filled-itself m.faces;
}

filled-face : (m : Mesh) (x f : ℕ) → Filled m (set_face m x f)
unfolding set_face
filled-face m x f = record { arcs = filled_put m.arcs x 4 f (omega arith); edges = filled-itself m.edges; faces = filled-itself m.faces }

filled-arc : (m : Mesh) (a b e : ℕ) → Filled m (new_arc m a b e)
unfolding new_arc
filled-arc m a b e = record { arcs = filled_row m.arcs (a ∷ b ∷ 0 ∷ 0 ∷ 0 ∷ e ∷ []); edges = filled-itself m.edges; faces = filled-itself m.faces }

pub filled-edge : (m : Mesh) (a b : ℕ) → Filled m (new_edge m a b)
unfolding new_edge new_arc
filled-edge m a b =
    let e = free_row m.edges in
    let g = and-then m (new_arc m a b e) (new_arc (new_arc m a b e) b a e) (filled-arc m a b e) (filled-arc (new_arc m a b e) b a e) in
    record { arcs = g.arcs; edges = filled_row m.edges _; faces = g.faces }

pub filled-get : (m : Mesh) (a b : ℕ) → Filled m (get_or_insert_edge m a b)
unfolding get_or_insert_edge
filled-get m a b = either_way_lem (eqb (find_arc m a b) 0) m (new_edge m a b) m (filled-edge m a b) (as-it-is m)

-- ---- those of rule 5

pub filled-edges : (per : List ℕ) (m : Mesh) → Filled m (edges_in per m)
unfolding edges_in
filled-edges per m = in_turns _ (λ i a. filled-get a (get_or per i 0) (get_or per (after (length per) i) 0)) (length per) m

filled-record : (m : Mesh) (x mark : ℕ) → Filled m (new_face m x mark)
unfolding new_face
filled-record m x mark = record { arcs = filled-itself m.arcs; edges = filled-itself m.edges; faces = filled_row m.faces _ }

filled-interior : (per : List ℕ) (f : ℕ) (m : Mesh) → Filled m (interior per f m)
unfolding interior
filled-interior per f m = in_turns _ turn (length per) m
  where
    turn : (i : ℕ) (a : Mesh) → Filled a (set_face (connect a (arc_at a per i) (arc_at a per (after (length per) i))) (arc_at a per i) f)
    turn i a =
        let x = arc_at a per i in
        let y = arc_at a per (after (length per) i) in
        and-then a (connect a x y) (set_face (connect a x y) x f) (filled-connect a x y) (filled-face (connect a x y) x f)

filled-exterior : (per : List ℕ) (s : Sought) (m : Mesh) → Filled m (exterior_sought per s m)
unfolding exterior_sought exterior_sought_at
filled-exterior per s m = in_turns (exterior_sought_at per s) turn (length per) m
  where
    turn : (i : ℕ) (a : Mesh) → Filled a (exterior_sought_at per s i a)
    turn i a =
        let x = arc_at a per i in
        let o = opposite a x in
        let after-o = or_else (get_or s.outs i 0) (opposite a (previous a x)) in
        let before-o = or_else (get_or s.backs (after (length per) i) 0) (opposite a (next a x)) in
        let one = connect a o after-o in
        let two = connect one before-o o in
        either_way_lem (eqb (face a o) 0) a two a (and-then a one two (filled-connect a o after-o) (filled-connect one before-o o)) (as-it-is a)

pub filled-sought : (s : Sought) (m : Mesh) (per : List ℕ) (mark : ℕ) → Filled m (put_sought s m per mark)
unfolding put_sought
filled-sought s m per mark =
    let m₁ = edges_in per m in
    let m₂ = new_face m₁ (arc_at m₁ per 0) mark in
    let m₃ = interior per (free_row m₁.faces) m₂ in
    and-then m m₁ (exterior_sought per s m₃) (filled-edges per m)
    (and-then m₁ m₂ (exterior_sought per s m₃) (filled-record m₁ (arc_at m₁ per 0) mark)
    (and-then m₂ m₃ (exterior_sought per s m₃) (filled-interior per (free_row m₁.faces) m₂) (filled-exterior per s m₃)))

-- by the code's makers
pub filled-put-face : (old : Mesh) (soon : List ℕ) (m : Mesh) (per : List ℕ) (mark : ℕ) → Filled m (put_face_by searching old soon m per mark)
filled-put-face old soon m per mark = subst (Filled m) (sym (by-sought old soon m per mark)) (filled-sought (sought_for old soon per) m per mark)

-- ---- an insert with its checks, and an arc bridge: refused or not

filled-checked : (m : Mesh) (a : Answer) (s : Step) → Filled m s.tables → Filled m (checked m a s).tables
unfolding checked
filled-checked m a s f = go (accepted a)
  where
    go : (b : Bool) → Filled m (cond b s (step m a)).tables
    go true = f
    go false = as-it-is m

filled-work : (m : Mesh) (per : List ℕ) (mark : ℕ) → Filled m (insert_work_by searching m per mark).tables
unfolding insert_work_by
filled-work m per mark = filled-put-face m (arcs_on m per) m per mark

pub filled-insert : (m : Mesh) (per : List ℕ) (mark : ℕ) → Filled m (insert_face_by searching m per mark).tables
unfolding insert_face_by
filled-insert m per mark = filled-checked m (insert_checks m per per) (insert_work_by searching m per mark) (filled-work m per mark)

pub filled-bridge : (m : Mesh) (x y : ℕ) → Filled m (arc_bridge_by searching m x y).tables
unfolding arc_bridge_by arc_bridge_work_by
filled-bridge m x y = filled-checked m (arc_bridge_checks m x y) (arc_bridge_work_by searching m x y) (filled-work m (corners m x y) 0)
