-- The arcs of four vertices' pairs tell the two arcs to be bridged; and an arc that is found has the ends that it was looked for by.
use Prim.Native.Nat.{ℕ, ◌-◌}
use native.Mathlib.Omega.{arith}
use mathlib.Core.Path.{◌≡◌, refl, ap, ◌∙◌}
use mathlib.Core.Bool.{Bool, true, false, cond, ◌&&◌, ◌||◌}
use mathlib.Core.Logic.{◌⊎◌, inl, inr}
use mathlib.Core.List.{List, [], ◌∷◌}
use lib.ListN.{length, get_or}
use lib.Dec.{eqb, leb}
use borrow.Author.Tests.{eqb-true, eq-eqb, ne_eqb}
use Rattle.rules.specs.Table.{Table, cell, first_row, row_limit}
use Rattle.rules.specs.Mesh.{Mesh, joins, find_key, arc_between, links_of, list_of}
use Rattle.rules.specs.Edit.{corners}
use Rattle.rules.specs.Call.{arc_by_keys}
use Rattle.rules.proofs.Counts.{found-passes}
use Rattle.rules.proofs.Places.{list_back}
use Rattle.pairs.specs.Pairs.{pair_arc, arcs_of}
use Rattle.pairs.proofs.Listed.{pair-listed, arcs-held}
use Rattle.checks.specs.declared.bridge.Between.{Between}
use Rattle.checks.specs.Between.{one_of, other_of, Told, Cornered}

-- ---- an arc that is found

both : (p q : Bool) → (p && q) ≡ true → (p ≡ true) × (q ≡ true)
both true true e = (refl, refl)
both true false e = (refl, e)
both false q e = let z : ◌≡◌ {A = ℕ} 1 0 = ap (λ (t : Bool). cond t 0 1) e in absurd (omega arith)

found-ends : (t : Table) (a b : ℕ) → (arc_between t a b ≡ 0 → ⊥) → (cell t (arc_between t a b) 0 ≡ a) × (cell t (arc_between t a b) 1 ≡ b)
unfolding arc_between cell
found-ends t a b n = go (eqb a 0) (leb (length t) row_limit) n
  where
    at : ℕ → ℕ → ℕ
    at x c = cond (eqb x 0) 0 (get_or (get_or t (x - 1) []) c 0)

    row : (first_row (joins a b) t ≡ 0 → ⊥) → (at (first_row (joins a b) t) 0 ≡ a) × (at (first_row (joins a b) t) 1 ≡ b)
    row ne =
        let r : List ℕ = get_or t (first_row (joins a b) t - 1) [] in
        let w = both (eqb (get_or r 0 0) a) (eqb (get_or r 1 0) b) (found-passes (joins a b) t [] (omega arith)) in
        rw (ne_eqb (first_row (joins a b) t) 0 ne) (eqb-true (get_or r 0 0) a w.0, eqb-true (get_or r 1 0) b w.1)

    go : (z l : Bool) → (cond z 0 (cond l (first_row (joins a b) t) 0) ≡ 0 → ⊥) → (at (cond z 0 (cond l (first_row (joins a b) t) 0)) 0 ≡ a) × (at (cond z 0 (cond l (first_row (joins a b) t) 0)) 1 ≡ b)
    go true l ne = absurd (ne refl)
    go false true ne = row ne
    go false false ne = absurd (ne refl)

-- one of two arcs is missing
pub missing : (x y : ℕ) → (x ≡ 0) ⊎ ((x ≡ 0 → ⊥) × (y ≡ 0)) → (eqb x 0 || eqb y 0) ≡ true
missing x y (inl e) = rw (eq-eqb x 0 e)
missing x y (inr e) = rw (ne_eqb x 0 e.0, eq-eqb y 0 e.1)

-- ---- four vertices

four_are : (l : List ℕ) → length l ≡ 4 → l ≡ get_or l 0 0 ∷ get_or l 1 0 ∷ get_or l 2 0 ∷ get_or l 3 0 ∷ []
four_are [] e = absurd (omega arith)
four_are (a ∷ []) e = absurd (omega arith)
four_are (a ∷ b ∷ []) e = absurd (omega arith)
four_are (a ∷ b ∷ c ∷ []) e = absurd (omega arith)
four_are (a ∷ b ∷ c ∷ d ∷ []) e = refl
four_are (a ∷ b ∷ c ∷ d ∷ f ∷ l) e = absurd (omega arith)

module _ (arcs : Table) (four : List ℕ) (many : length four ≡ 4) (r : Between) (ep : r.per ≡ links_of four) (ef : r.found ≡ links_of (arcs_of arcs (list_of r.per))) (ex : r.x ≡ get_or (list_of r.found) 0 0) (ey : r.y ≡ get_or (list_of r.found) 2 0) where
  per-is : list_of r.per ≡ four
  per-is = ap list_of ep ∙ list_back four (omega arith)

  found-is : list_of r.found ≡ arcs_of arcs (list_of r.per)
  found-is = arcs-held arcs (list_of r.per) r.found (omega (arith, ap length per-is)) ef

  at_place : (i : ℕ) → get_or (list_of r.found) i 0 ≡ pair_arc arcs four i
  at_place i = ap (λ (l : List ℕ). get_or l i 0) found-is ∙ pair-listed arcs (list_of r.per) i ∙ ap (λ (l : List ℕ). pair_arc arcs l i) per-is

  pub told : Told arcs four r
  unfolding pair_arc
  told = record { one = ex ∙ at_place 0 ∙ rw many; other = ey ∙ at_place 2 ∙ rw many; found = found-is }

  pub cornered : (r.x ≡ 0 → ⊥) → (r.y ≡ 0 → ⊥) → Cornered arcs r
  unfolding corners
  cornered nx ny vs ps es fs ks =
      let p = found-ends arcs (get_or four 0 0) (get_or four 1 0) (λ z. nx (told.one ∙ z)) in
      let q = found-ends arcs (get_or four 2 0) (get_or four 3 0) (λ z. ny (told.other ∙ z)) in
      per-is ∙ four_are four many ∙ rw (told.one, told.other, p.0, p.1, q.0, q.1)

-- ---- four vertices by their keys

module _ (m : Mesh) (a b c d : ℕ) (four : List ℕ) (e : four ≡ find_key m.vertices a ∷ find_key m.vertices b ∷ find_key m.vertices c ∷ find_key m.vertices d ∷ []) where
  pub one_key : one_of m.arcs four ≡ arc_by_keys m a b
  unfolding arc_by_keys
  one_key = rw e

  pub other_key : other_of m.arcs four ≡ arc_by_keys m c d
  unfolding arc_by_keys
  other_key = rw e

  pub corners-key : (r : Between) → Told m.arcs four r → Cornered m.arcs r → list_of r.per ≡ corners m (arc_by_keys m a b) (arc_by_keys m c d)
  corners-key r t h = h m.vertices m.positions m.edges m.faces m.counters ∙ (λ i. corners m ((t.one ∙ one_key) i) ((t.other ∙ other_key) i))
