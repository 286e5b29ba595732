-- Each clause of Sound as a test of each row of one table, and all clauses of a table as one test of each row: what the loop over that
-- table tests.
use Prim.Native.Nat.{ℕ, zero, suc, ◌+◌, ◌*◌, ◌≤◌, ◌<◌}
use native.Mathlib.Omega.{arith}
use mathlib.Core.Path.{◌≡◌, refl, ap, sym, subst, ◌∙◌}
use mathlib.Core.Bool.{Bool, true, false, not, cond, ◌&&◌, ◌||◌}
use mathlib.Core.List.{List, [], ◌∷◌}
use lib.ListN.{length, get_or}
use lib.Dec.{eqb, ltb, eqb→eq}
use lib.Ieee.Fits.{and_l, and_r}
use borrow.Author.Tests.{eq-eqb, ne_eqb}
use Rattle.rules.specs.Table.{Table, all_below, every, count, there, used, unused}
use Rattle.rules.specs.Mesh.{Mesh, key_of, next_key, vertex_kind, edge_kind, face_kind}
use Rattle.rules.specs.Point.{zero_position_row, finite_row}
use Rattle.rules.specs.Sound.{keys_of, has_both_arcs, both_arcs, leads_out, next_leaves, previous_arrives, zero_row, unused_zero, positions_zero, all_finite}
use Rattle.std.specs.List.{list_all}
use Rattle.rules.proofs.Sums.{same_test}
use Rattle.proved.specs.Demand.{holds_some}
use Rattle.proved.proofs.Rows.{T_true, true-T, same-T, row-link, cell_row}
use Rattle.names.proofs.Loops.{every-all, Passed, one-failed, all-passed}
use Rattle.tables.proofs.Scans.{Counted, counted-one, counted_none}
use Rattle.sound.specs.Tests.{blank_row, key_test, both_row, ends_row, leads_row, next_row, previous_row, loose_row, vertex_test, position_test, arc_test, edge_test, face_test}
use Rattle.sound.specs.Parts.{below, vertices_sound, positions_sound, edge_ends, loose_links, arcs_sound, edges_sound, faces_sound}

-- ---- two tests of each row are one

pub all-and : (p q : ℕ → Bool) (n : ℕ) → (all_below p n && all_below q n) ≡ all_below (λ i. p i && q i) n
unfolding all_below
all-and p q zero = refl
all-and p q (suc n) = go (all_below p n) (all_below q n) (p n) (q n) ∙ ap (λ (b : Bool). b && (p n && q n)) (all-and p q n)
  where
    go : (a b c d : Bool) → ((a && c) && (b && d)) ≡ ((a && b) && (c && d))
    go true true c d = refl
    go true false true d = refl
    go true false false d = refl
    go false b c d = refl

pub and-true : (b : Bool) → (b && true) ≡ b
and-true true = refl
and-true false = refl

pub used-blank : (r : List ℕ) → (get_or r 0 0 ≡ 0 → ⊥) → blank_row r ≡ true
unfolding blank_row
used-blank r u = rw (ne_eqb (get_or r 0 0) 0 u)

and_assoc : (a b c : Bool) → (a && (b && c)) ≡ ((a && b) && c)
and_assoc true b c = refl
and_assoc false b c = refl

-- ---- each clause

module _ (m : Mesh) where
  pub both-arcs : both_arcs m ≡ all_below (λ i. both_row m.arcs (get_or m.edges i []) (i + 1)) (length m.edges)
  unfolding both_arcs has_both_arcs both_row
  both-arcs = simp cell_row

  edge-ends : edge_ends m ≡ all_below (λ i. ends_row m.vertices m.arcs (get_or m.edges i [])) (length m.edges)
  unfolding edge_ends ends_row
  edge-ends = simp cell_row

  leads-out : leads_out m ≡ all_below (λ i. leads_row m.arcs (get_or m.vertices i []) (i + 1)) (length m.vertices)
  unfolding leads_out leads_row
  leads-out = simp cell_row

  pub next-leaves : next_leaves m ≡ all_below (λ i. next_row m.arcs (get_or m.arcs i [])) (length m.arcs)
  unfolding next_leaves next_row
  next-leaves = simp cell_row

  pub previous-arrives : previous_arrives m ≡ all_below (λ i. previous_row m.arcs (get_or m.arcs i [])) (length m.arcs)
  unfolding previous_arrives previous_row
  previous-arrives = simp cell_row

  positions-zero : positions_zero m ≡ all_below (λ i. there m.vertices (i + 1) || zero_position_row (get_or m.positions i [])) (length m.positions)
  unfolding positions_zero
  positions-zero = simp row-link

  all-finite : all_finite m ≡ all_below (λ i. finite_row (get_or m.positions i [])) (length m.positions)
  unfolding all_finite
  all-finite = every-all finite_row m.positions []

pub unused-zero : (t : Table) → unused_zero t ≡ all_below (λ i. blank_row (get_or t i [])) (length t)
unfolding blank_row
unused-zero t = every-all (λ r. used r || zero_row r) t []

-- a test of every key is a test of every row
rows-keys : (p : ℕ → Bool) (t : Table) → every p (keys_of t) ≡ every (λ r. unused r || p (key_of r)) t
unfolding keys_of every
rows-keys p [] = refl
rows-keys p (r ∷ rs) = go (unused r) (rows-keys p rs)
  where
    go : (b : Bool) → every p (keys_of rs) ≡ every (λ r. unused r || p (key_of r)) rs → every p (cond b (keys_of rs) (key_of r ∷ keys_of rs)) ≡ ((b || p (key_of r)) && every (λ r. unused r || p (key_of r)) rs)
    go true ih = ih
    go false ih = ap (λ (x : Bool). p (key_of r) && x) ih

pub keys_below_lem : (t : Table) (counter : ℕ) → below t counter ≡ all_below (λ i. key_test counter (get_or (get_or t i []) 0 0)) (length t)
unfolding key_test
keys_below_lem t counter = rows-keys (λ k. ltb k counter) t ∙ every-all (λ r. unused r || ltb (key_of r) counter) t []

-- one cell after the other
pub zero_row_lem : (r : List ℕ) → zero_row r ≡ all_below (λ i. eqb 0 (get_or r i 0)) (length r)
zero_row_lem r = every-all (eqb 0) r 0

zero-either : (x : ℕ) → eqb x 0 ≡ eqb 0 x
zero-either x = same_test (eqb x 0) (eqb 0 x) (λ t. same-T 0 x (sym (eqb→eq x 0 t))) (λ t. same-T x 0 (sym (eqb→eq 0 x t)))

-- as the library goes over the cells
pub zero-cells : (r : List ℕ) → list_all (λ y. eqb y 0) r ≡ zero_row r
unfolding every
zero-cells [] = refl
zero-cells (x ∷ xs) = rw (zero-either x, zero-cells xs)

-- ---- each table

-- clauses that are a test of each row: a row fails, or all rows were gone through
module _ (q : ℕ → Bool) (b : Bool) (n : ℕ) (told : b ≡ all_below q n) (i : ℕ) where
  pub table-fails : i < n → q i ≡ false → b ≡ false
  table-fails l e = told ∙ sym (one-failed q n i l e)

  pub table-passes : n ≤ i → i ≤ n → Passed q i → b ≡ true
  table-passes a c h = told ∙ sym (all-passed q n i a c h)

module _ (m : Mesh) where
  abbrev pub vertex_passes : ℕ → Bool
  vertex_passes i = vertex_test m.arcs (next_key m vertex_kind) (get_or m.vertices i []) (i + 1)

  abbrev pub position_passes : ℕ → Bool
  position_passes i = position_test m.vertices (get_or m.positions i []) (i + 1)

  abbrev pub edge_passes : ℕ → Bool
  edge_passes i = edge_test m.vertices m.arcs (next_key m edge_kind) (get_or m.edges i []) (i + 1)

  abbrev pub face_passes : ℕ → Bool
  face_passes i = face_test (next_key m face_kind) (get_or m.faces i [])

module _ (m : Mesh) where
  pub vertices-rows : vertices_sound m ≡ all_below (λ i. vertex_test m.arcs (next_key m vertex_kind) (get_or m.vertices i []) (i + 1)) (length m.vertices)
  unfolding vertices_sound vertex_test
  vertices-rows = rw (unused-zero m.vertices, keys_below_lem m.vertices (next_key m vertex_kind), leads-out m) (simp all-and)

  pub positions-rows : positions_sound m ≡ all_below (λ i. position_test m.vertices (get_or m.positions i []) (i + 1)) (length m.positions)
  unfolding positions_sound position_test
  positions-rows = rw (positions-zero m, all-finite m) (simp all-and)

  pub arcs-rows : arcs_sound m ≡ (all_below (λ i. arc_test m.arcs (get_or m.arcs i [])) (length m.arcs) && eqb (count used m.arcs) (2 * count used m.edges))
  unfolding arcs_sound arc_test loose_links
  arcs-rows = rw (unused-zero m.arcs, ← all-and (λ i. blank_row (get_or m.arcs i [])) (λ i. loose_row m.arcs (get_or m.arcs i [])) (length m.arcs)) (and_assoc (all_below (λ i. blank_row (get_or m.arcs i [])) (length m.arcs)) (all_below (λ i. loose_row m.arcs (get_or m.arcs i [])) (length m.arcs)) (eqb (count used m.arcs) (2 * count used m.edges)))

  pub edges-rows : edges_sound m ≡ all_below (λ i. edge_test m.vertices m.arcs (next_key m edge_kind) (get_or m.edges i []) (i + 1)) (length m.edges)
  unfolding edges_sound edge_test
  edges-rows = rw (unused-zero m.edges, keys_below_lem m.edges (next_key m edge_kind), both-arcs m, edge-ends m) (simp all-and)

  pub faces-rows : faces_sound m ≡ all_below (λ i. face_test (next_key m face_kind) (get_or m.faces i [])) (length m.faces)
  unfolding faces_sound face_test
  faces-rows = rw (unused-zero m.faces, keys_below_lem m.faces (next_key m face_kind)) (simp all-and)

-- ---- the arcs, and how many they are

module _ (m : Mesh) where
  abbrev passes : ℕ → Bool
  passes i = arc_test m.arcs (get_or m.arcs i [])

  abbrev two_each : Bool
  two_each = eqb (count used m.arcs) (2 * count used m.edges)

  pub arcs-fail : (i : ℕ) → i < length m.arcs → arc_test m.arcs (get_or m.arcs i []) ≡ false → arcs_sound m ≡ false
  arcs-fail i l e = arcs-rows m ∙ ap (λ (b : Bool). b && two_each) (sym (one-failed passes (length m.arcs) i l e))

  module _ (there named : ℕ) (et : there ≡ count used m.arcs) (en : named ≡ 2 * count used m.edges) (i : ℕ) (a : length m.arcs ≤ i) (b : i ≤ length m.arcs) (h : Passed (λ i. arc_test m.arcs (get_or m.arcs i [])) i) where
    all_pass : arcs_sound m ≡ two_each
    all_pass = arcs-rows m ∙ ap (λ (b : Bool). b && two_each) (sym (all-passed passes (length m.arcs) i a b h))

    pub arcs-other : (there ≡ named → ⊥) → arcs_sound m ≡ false
    arcs-other d = all_pass ∙ ne_eqb _ _ (λ q. d (et ∙ q ∙ sym en))

    pub arcs-pass : there ≡ named → arcs_sound m ≡ true
    arcs-pass q = all_pass ∙ eq-eqb _ _ (sym et ∙ q ∙ en)

-- an arc with a face passes, and is an arc
pub holder-passes : (arcs : Table) (r : List ℕ) → holds_some r ≡ true → (arc_test arcs r ≡ true) × (used r ≡ true)
unfolding arc_test blank_row loose_row
holder-passes arcs r e =
    let u = T_true (used r) (and_l (used r) (not (eqb (get_or r 4 0) 0)) (true-T e)) in
    let f = T_true (not (eqb (get_or r 4 0) 0)) (and_r (used r) (not (eqb (get_or r 4 0) 0)) (true-T e)) in
    (rw (u, f), u)

-- one more of the second of two numbers, if so
pub one-second : (held loose more : ℕ) (b : Bool) → more ≡ cond b (loose + 1) loose → held + more ≡ cond b (held + loose + 1) (held + loose)
one-second held loose more true e = omega arith
one-second held loose more false e = omega arith

-- a count, a row further
module _ (p : List ℕ → Bool) (t : Table) (n i : ℕ) (l : i < length t) (h : Counted p t [] n i) (more : ℕ) where
  pub counted-on : more ≡ cond (p (get_or t i [])) (n + 1) n → Counted p t [] more (i + 1)
  counted-on e = go (p (get_or t i [])) refl e
    where
      go : (b : Bool) → p (get_or t i []) ≡ b → more ≡ cond b (n + 1) n → Counted p t [] more (i + 1)
      go true q r = subst (λ (z : ℕ). Counted p t [] z (i + 1)) (sym r) (counted-one p t [] n i l q h)
      go false q r = subst (λ (z : ℕ). Counted p t [] z (i + 1)) (sym r) (counted_none p t [] n i l q h)

pub one_up_lem : (b : Bool) (n i more : ℕ) → n ≤ i → more ≡ cond b (n + 1) n → more ≤ i + 1
one_up_lem true n i more l e = omega arith
one_up_lem false n i more l e = omega arith
