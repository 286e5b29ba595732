-- Lookups that the links do not touch: the arc between two vertices and the opposite of an arc are found by ends and edges alone. The opposite
-- of an arc of a sound mesh is an arc with its ends swapped.
use Prim.Native.Nat.{ℕ, suc, ◌+◌}
use native.Mathlib.Omega.{arith}
use mathlib.Core.Path.{◌≡◌, refl, ap, sym, ◌∙◌}
use mathlib.Core.Bool.{Bool, cond}
use mathlib.Core.List.{List, [], ◌∷◌}
use mathlib.Core.Logic.{◌⊎◌, inl, inr}
use lib.ListN.{length, get_or}
use lib.Dec.{eqb}
use borrow.Author.Tests.{ne_eqb, eq-eqb}
use Rattle.rules.specs.Table.{Table, cell, first_row}
use Rattle.rules.specs.Mesh.{Mesh, source, dest, edge, edge_arc, edge_other, opposite_of, opposite, joins, arc_between, find_arc}
use Rattle.proved.specs.Facts.{IsArc, BothArcs}
use Rattle.proved.proofs.Rows.{cell_row}
use Rattle.proved.proofs.Edges.{two-arcs}
use Rattle.kept.proofs.Base.{edges-of}
use Rattle.kept.proofs.Find.{Between, arc-back, arc-some}
use Rattle.kept.specs.Frame.{AllButRings, SameEnds}

-- ---- the first row that passes, in two tables whose rows pass alike

first-same {ℓ} : {A : Type ℓ} (p : A → Bool) (t u : List A) (d : A) → length t ≡ length u → ((k : ℕ) → p (get_or t k d) ≡ p (get_or u k d)) → first_row p t ≡ first_row p u
unfolding first_row
first-same p [] [] d e h = refl
first-same p [] (y ∷ ys) d e h = let z : ⊥ = omega arith in absurd z
first-same p (x ∷ xs) [] d e h = let z : ⊥ = omega arith in absurd z
first-same p (x ∷ xs) (y ∷ ys) d e h =
    rw (h 0, first-same p xs ys d (omega arith) (λ k. h (suc k)))

pub between-same : (t u : Table) → length t ≡ length u → ((x : ℕ) → cell t x 0 ≡ cell u x 0) → ((x : ℕ) → cell t x 1 ≡ cell u x 1) → (a b : ℕ) → arc_between t a b ≡ arc_between u a b
unfolding arc_between
between-same t u e p q a b =
    rw (e, first-same (joins a b) t u [] e (λ k. rw (sym (cell_row t k 0) ∙ p (k + 1) ∙ cell_row u k 0, sym (cell_row t k 1) ∙ q (k + 1) ∙ cell_row u k 1)))

-- ---- arcs with their ends and edges

module _ (m : Mesh) (t : Table) (w : SameEnds m t) where
  pub ends-between : (a b : ℕ) → arc_between t a b ≡ find_arc m a b
  ends-between = between-same t m.arcs w.rows w.source_stays w.dest-stays

  pub ends-opposite : (x : ℕ) → opposite_of t m.edges x ≡ opposite m x
  unfolding opposite_of
  ends-opposite x = rw (w.edge_stays x)

-- ---- the opposite of an arc

pub record Opposite (m : Mesh) (x o : ℕ) : Type 0 where
  pub exists : IsArc m o
  pub leaves : source m o ≡ dest m x
  pub arrives : dest m o ≡ source m x

pub opposite-is : (m : Mesh) → AllButRings m → (x : ℕ) → IsArc m x → Opposite m x (opposite m x)
unfolding opposite_of
opposite-is m s x u = go (s.edge-names x u)
  where
    e : ℕ
    e = edge m x

    b : BothArcs m e
    b = s.both-arcs e (s.edge-exists x u)

    go : (edge_arc m e ≡ x) ⊎ (edge_other m e ≡ x) → Opposite m x (cond (eqb (edge_arc m e) x) (edge_other m e) (edge_arc m e))
    go (inl q) =
        rw (eq-eqb (edge_arc m e) x q) (record { exists = b.second-exists; leaves = sym b.ends-where-leaves ∙ ap (dest m) q; arrives = sym b.leaves-where-ends ∙ ap (source m) q })
    go (inr q) =
        rw (ne_eqb (edge_arc m e) x (λ z. two-arcs m (edges-of m s) e (s.edge-exists x u) (z ∙ sym q))) (record { exists = b.first-exists; leaves = b.leaves-where-ends ∙ ap (dest m) q; arrives = b.ends-where-leaves ∙ ap (source m) q })

-- ---- the arc between two vertices

-- there is one at most, so any is the one that is found
pub found-is : (m : Mesh) → AllButRings m → (a b x : ℕ) → Between m.arcs a b x → find_arc m a b ≡ x
found-is m s a b x h =
    let some = arc-some m.arcs a b (omega (arith, s.sizes.arc-rows, s.sizes.edge-rows)) x h in
    let back = arc-back m.arcs a b some in
    s.pairs-differ (find_arc m a b) x back.exists h.exists (back.leaves ∙ sym h.leaves) (back.arrives ∙ sym h.arrives)
