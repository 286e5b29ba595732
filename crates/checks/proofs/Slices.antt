-- A list as the code holds it, as a slice: whether it has a number, and how many of the arcs of a perimeter are missing.
use Prim.Native.Nat.{ℕ, zero, suc}
use native.Mathlib.Omega.{arith}
use native.Mathlib.Decide.{ℕ_discrete}
use mathlib.Core.Path.{◌≡◌, refl, ap, sym}
use mathlib.Core.Bool.{Bool, true, false, cond}
use mathlib.Core.List.{List, [], ◌∷◌}
use lib.ListN.{length, length-append}
use lib.Dec.{eqb}
use borrow.Author.Tests.{ne_eqb}
use Rattle.std.specs.List.{filter, list_any}
use Rattle.std.proofs.lemmas.List.Elements.{filter-append}
use Rattle.rules.specs.Table.{has, sum_below, up_to}
use Rattle.rules.specs.Mesh.{Mesh}
use Rattle.rules.specs.Insert.{arc_at}
use Rattle.rules.specs.Call.{pairs_without}
use Rattle.pairs.specs.Pairs.{list_below, pair_arc, arcs_of}

same : (x y : ℕ) → eqb y x ≡ eqb x y
same x y = go (ℕ_discrete x y)
  where
    go : Dec (x ≡ y) → eqb y x ≡ eqb x y
    go (yes e) = rw e
    go (no n) = rw (ne_eqb x y n, ne_eqb y x (λ e. n (sym e)))

pub any_is : (l : List ℕ) (x : ℕ) → list_any (λ y. eqb y x) l ≡ has l x
unfolding has
any_is [] x = refl
any_is (y ∷ ys) x = rw (same x y, any_is ys x)

-- the places of f where it is none
alone : (b : Bool) (x : ℕ) → length (cond b (x ∷ []) []) ≡ cond b 1 0
alone true x = refl
alone false x = refl

none-at : (f : ℕ → ℕ) (n : ℕ) → length (filter (λ x. eqb x 0) (list_below f n)) ≡ sum_below (λ i. cond (eqb (f i) 0) 1 0) n
unfolding sum_below list_below up_to
none-at f zero = refl
none-at f (suc n) =
    let l = list_below f n in
    let two = length-append (filter (λ x. eqb x 0) l) (filter (λ x. eqb x 0) (f n ∷ [])) in
    omega (arith, ap length (filter-append (λ x. eqb x 0) l (f n ∷ [])), two, alone (eqb (f n) 0) (f n), none-at f n)

pub missing-arcs : (m : Mesh) (per : List ℕ) → length (filter (λ x. eqb x 0) (arcs_of m.arcs per)) ≡ pairs_without m per
unfolding pairs_without arc_at pair_arc arcs_of
missing-arcs m per = none-at (pair_arc m.arcs per) (length per)
