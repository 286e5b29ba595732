-- The outgoing list of a vertex: each of its arcs leaves that vertex, and still does after the edges of an insert.
use Prim.Native.Nat.{ℕ, zero, suc, ◌≤◌, ◌<◌, zero-le, suc-le-suc}
use native.Mathlib.Omega.{arith}
use native.Mathlib.Nat.{not-suc-le-zero, le_of_suc-le-suc}
use mathlib.Core.Path.{◌≡◌, refl, sym, subst, ◌∙◌}
use mathlib.Core.Bool.{Bool, true, false, cond}
use mathlib.Core.List.{List, [], ◌∷◌, map}
use lib.ListN.{length, get_or}
use lib.Dec.{T, eqb, eqb→eq}
use Rattle.rules.specs.Table.{Table, cell, has}
use Rattle.rules.specs.Mesh.{Mesh, source, next, leading, opposite}
use Rattle.rules.specs.Link.{walk, turn, turn_in, outgoing, arc_count}
use Rattle.rules.specs.Insert.{faceless_in, lists_of}
use Rattle.rules.proofs.Sums.{or_cases, or_l, or_r}
use Rattle.proved.specs.Facts.{IsVertex, IsArc}
use Rattle.proved.proofs.Rows.{same-T}
use Rattle.kept.specs.Frame.{AllButRings}
use Rattle.kept.specs.Perimeter.{Perimeter, corner, Grown, ListsLeave}
use Rattle.kept.proofs.EdgesIn.{grown-arc}
use Rattle.kept.proofs.Opposite.{opposite-is}

-- ---- lists

pub map_at {ℓ ℓ'} : {A : Type ℓ} {B : Type ℓ'} (g : A → B) (l : List A) (i : ℕ) (d : A) (e : B) → i < length l → get_or (map g l) i e ≡ g (get_or l i d)
map_at g [] i d e l = absurd (not-suc-le-zero l)
map_at g (x ∷ xs) zero d e l = refl
map_at g (x ∷ xs) (suc i) d e l = map_at g xs i d e (le_of_suc-le-suc l)

-- what stands in a list of values is the value of something that stands in the list
pub map-has : (g : ℕ → ℕ) (l : List ℕ) (z : ℕ) → T (has (map g l) z) → (y : ℕ) × T (has l y) × (z ≡ g y)
unfolding has
map-has g [] z h = absurd h
map-has g (x ∷ xs) z h =
    or_cases (eqb z (g x)) (has (map g xs) z) h (λ e. (x, or_l (eqb x x) (has xs x) (same-T x x refl), eqb→eq z (g x) e)) (λ r. later (map-has g xs z r))
  where
    later : (y : ℕ) × T (has xs y) × (z ≡ g y) → (y : ℕ) × T (has (x ∷ xs) y) × (z ≡ g y)
    later w = (w.0, or_r (eqb w.0 x) (has xs w.0) w.1, w.2)

-- the first arc without a face stands in the list
pub faceless-has : (t : Table) (l : List ℕ) → (faceless_in t l ≡ 0 → ⊥) → T (has l (faceless_in t l))
unfolding faceless_in has
faceless-has t [] n = absurd (n refl)
faceless-has t (x ∷ xs) n = go (eqb (cell t x 4) 0) n (faceless-has t xs)
  where
    go : (b : Bool) → (cond b x (faceless_in t xs) ≡ 0 → ⊥) → ((faceless_in t xs ≡ 0 → ⊥) → T (has xs (faceless_in t xs))) → T (has (x ∷ xs) (cond b x (faceless_in t xs)))
    go true q ih = or_l (eqb x x) (has xs x) (same-T x x refl)
    go false q ih = or_r (eqb (faceless_in t xs) x) (has xs (faceless_in t xs)) (ih q)

-- ---- walks

-- what holds where a walk starts, and after each step that leads somewhere, holds of all that it meets
module _ (step : ℕ → ℕ) (first : ℕ) (P : ℕ → Type 0) (on : (x : ℕ) → P x → 1 ≤ step x → P (step x)) where
  pub walk-each : (bound x : ℕ) → (1 ≤ x → P x) → (y : ℕ) → T (has (walk step first bound x) y) → P y
  unfolding walk has
  walk-each zero x p y h = absurd h
  walk-each (suc bound) zero p y h = absurd h
  walk-each (suc bound) (suc x) p y h =
      let here = p (suc-le-suc zero-le) in
      or_cases (eqb y (suc x)) (has (cond (eqb (step (suc x)) first) [] (walk step first bound (step (suc x)))) y) h (λ e. subst P (sym (eqb→eq y (suc x) e)) here)
      (λ r. go (eqb (step (suc x)) first) r (walk-each bound (step (suc x)) (on (suc x) here) y))
    where
      go : (b : Bool) → T (has (cond b [] (walk step first bound (step (suc x)))) y) → (T (has (walk step first bound (step (suc x))) y) → P y) → P y
      go true r ih = absurd r
      go false r ih = ih r

-- ---- outgoing lists

pub outgoing-leaves : (m : Mesh) → AllButRings m → (v : ℕ) → IsVertex m v → (y : ℕ) → T (has (outgoing m v) y) → IsArc m y × (source m y ≡ v)
unfolding outgoing turn_in
outgoing-leaves m s v u = walk-each (turn m) (leading m v) (λ y. IsArc m y × (source m y ≡ v)) on (arc_count m) (leading m v) (λ l. s.leads-out v u (λ e. omega arith))
  where
    on : (x : ℕ) → IsArc m x × (source m x ≡ v) → 1 ≤ next m (opposite m x) → IsArc m (next m (opposite m x)) × (source m (next m (opposite m x)) ≡ v)
    on x p l =
        let o = opposite-is m s x p.0 in
        let h = s.next-leaves (opposite m x) o.exists (λ e. omega arith) in
        (h.0, h.1 ∙ o.arrives ∙ p.1)

-- the lists of a perimeter's vertices are such lists
pub lists-leave : (m : Mesh) → AllButRings m → (per : List ℕ) → Perimeter m per → ListsLeave m per (lists_of m per)
unfolding lists_of
lists-leave m s per p i l y h =
    outgoing-leaves m s (corner per i) (p.vertices i l) y (subst (λ (z : List ℕ). T (has z y)) (map_at (outgoing m) per i 0 [] l) h)

-- and stay so after the edges
pub lists-stay : (m n : Mesh) (per : List ℕ) (lists : List (List ℕ)) → Grown per m n → ListsLeave m per lists → ListsLeave n per lists
lists-stay m n per lists g leave i l y h =
    let w = leave i l y h in
    (grown-arc g y w.0, g.arcs-stay y 0 w.0 ∙ w.1)
