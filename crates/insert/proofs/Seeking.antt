-- The search of a vertex's list for the first arc that is not held, one step at a time, as a loop takes it. What stands for an arc of the list is
-- given: itself, or its opposite. Where the list meets an arc that it met before it runs in a circle: all that follows is held too.
use Prim.Native.Nat.{ℕ, zero, suc, ◌+◌, ◌-◌, ◌≤◌, ◌<◌, zero-le}
use native.Mathlib.Nat.{not-suc-le-zero, sub-zero}
use native.Mathlib.Numerals.{add-one}
use native.Mathlib.Omega.{arith}
use native.Mathlib.Decide.{dec_lt, ℕ_discrete}
use mathlib.Core.Path.{◌≡◌, refl, ap, sym, ◌∙◌}
use mathlib.Core.Bool.{Bool, true, false, not, cond, ◌||◌}
use mathlib.Core.List.{List, [], ◌∷◌, ◌++◌, map}
use mathlib.Core.Logic.{◌⊎◌, ⊎_elim, inl, inr}
use lib.ListN.{length, length-map}
use lib.Dec.{eqb}
use borrow.Author.Tests.{eq-eqb, ne_eqb, not-true, not-false}
use Rattle.std.specs.List.{list_any}
use Rattle.rules.specs.Table.{Table, cell, has, times}
use Rattle.rules.specs.Mesh.{Mesh, opposite_of, list_of}
use Rattle.rules.specs.Link.{walk, turn_in}
use Rattle.rules.proofs.Walks.{walk_none, walk-zero, walk_here, walk-stop, walk-on}
use Rattle.rules.proofs.Places.{list_back}
use Rattle.walks.proofs.Listing.{Made}
use Rattle.lists.proofs.Laws.{made_list}
use Rattle.makers.specs.Search.{held_in, first_free, list_from, out_from, back_from, sought_for}
use Rattle.insert.specs.Sought.{sought_of, Tries}

-- ---- whether an arc is held

has_both : (a b : List ℕ) (x : ℕ) → has (a ++ b) x ≡ (has a x || has b x)
unfolding has
has_both [] b x = refl
has_both (y ∷ ys) b x = go (eqb x y) (has_both ys b x)
  where
    go : (e : Bool) → has (ys ++ b) x ≡ (has ys x || has b x) → (e || has (ys ++ b) x) ≡ ((e || has ys x) || has b x)
    go true h = refl
    go false h = h

module _ (arcs : Table) (a b : List ℕ) (x f : ℕ) (ef : f ≡ cell arcs x 4) where
  pub held-face : (f ≡ 0 → ⊥) → true ≡ held_in arcs (a ++ b) x
  unfolding held_in
  held-face h = rw (ne_eqb (cell arcs x 4) 0 (λ q. h (ef ∙ q)))

  pub held-mine : f ≡ 0 → has a x ≡ true → true ≡ held_in arcs (a ++ b) x
  unfolding held_in
  held-mine e h = rw (eq-eqb (cell arcs x 4) 0 (sym ef ∙ e), has_both a b x, h)

  pub held-others : (r : Bool) → f ≡ 0 → has a x ≡ false → r ≡ has b x → r ≡ held_in arcs (a ++ b) x
  unfolding held_in
  held-others r e h q = rw (eq-eqb (cell arcs x 4) 0 (sym ef ∙ e), has_both a b x, h) q

-- ---- a list looked through

pub any_is : (l : List ℕ) (x : ℕ) → list_any (λ y. eqb y x) l ≡ has l x
unfolding has
any_is [] x = refl
any_is (y ∷ ys) x = rw (same x y, any_is ys x)
  where
    same : (x y : ℕ) → eqb y x ≡ eqb x y
    same x y = go (ℕ_discrete x y)
      where
        go : Dec (x ≡ y) → eqb y x ≡ eqb x y
        go (yes e) = rw e
        go (no n) = rw (ne_eqb x y n, ne_eqb y x (λ e. n (sym e)))

-- ---- the search of a walk

-- what is found among n arcs from x on
abbrev found : (ℕ → Bool) → (ℕ → ℕ) → (ℕ → ℕ) → ℕ → ℕ → ℕ → ℕ
found held g step first n x = first_free held (map g (walk step first n x))

module _ (held : ℕ → Bool) (g step : ℕ → ℕ) (first : ℕ) where
  -- the arc after n steps is that after fewer
  module _ (n j : ℕ) (l : j < n) (again : times step n first ≡ times step j first) where
    one_of : (k : ℕ) → k ≤ n → (i : ℕ) × (i < n) × (times step k first ≡ times step i first)
    one_of k q = go (dec_lt k n)
      where
        go : Dec (k < n) → (i : ℕ) × (i < n) × (times step k first ≡ times step i first)
        go (yes p) = (k, p, refl)
        go (no np) =
            let e : k ≡ n = omega arith in
            (j, l, ap (λ (i : ℕ). times step i first) e ∙ again)

    none-later : ((k : ℕ) → k < n → held (g (times step k first)) ≡ true) → (c k : ℕ) → k < n → found held g step first c (times step k first) ≡ 0
    unfolding walk first_free times
    none-later all zero k q = refl
    none-later all (suc c) k q = go (times step k first) (all k q) (one_of (suc k) q) (none-later all c)
      where
        go : (y : ℕ) → held (g y) ≡ true → (i : ℕ) × (i < n) × (step y ≡ times step i first) → ((i : ℕ) → i < n → found held g step first c (times step i first) ≡ 0) → found held g step first (suc c) y ≡ 0
        go zero e w ih = refl
        go (suc y) e w ih = rw e (either (eqb (step (suc y)) first) (ap (found held g step first c) w.2 ∙ ih w.0 w.1))
          where
            either : (r : Bool) → found held g step first c (step (suc y)) ≡ 0 → first_free held (map g (cond r [] (walk step first c (step (suc y))))) ≡ 0
            either true z = refl
            either false z = z

-- ---- what the loop keeps: n arcs are passed by, all held, x is next, and the saved arc is one of them or x. all is what the whole search finds

pub record Seeking (held : ℕ → Bool) (g step : ℕ → ℕ) (first bound all n x saved : ℕ) : Type 0 where
  pub next : x ≡ times step n first
  pub kept : (j : ℕ) × (j ≤ n) × (saved ≡ times step j first)
  pub passed : (k : ℕ) → k < n → held (g (times step k first)) ≡ true
  pub left : all ≡ found held g step first (bound - n) x

seeking-start : (held : ℕ → Bool) (g step : ℕ → ℕ) (first bound all : ℕ) → all ≡ found held g step first bound first → Seeking held g step first bound all 0 first first
unfolding times
seeking-start held g step first bound all e = record {
  next = refl;
  kept = (0, zero-le, refl);
  passed = λ k l. absurd (not-suc-le-zero l);
  left = rw (sub-zero bound) e;
}

module _ {held : ℕ → Bool} {g step : ℕ → ℕ} {first bound all n x saved : ℕ} (s : Seeking held g step first bound all n x saved) where
  seeking-end : bound ≤ n → 0 ≡ all
  unfolding first_free
  seeking-end l =
      let z : bound - n ≡ 0 = omega arith in
      sym (s.left ∙ rw (z, walk-zero step first x))

  seeking-none : x ≡ 0 → 0 ≡ all
  unfolding first_free
  seeking-none e = sym (s.left ∙ rw (e, walk_none step first (bound - n)))

  -- at the arc x, which z stands for, and r tells whether that is held; y is the next
  module _ (l : n < bound) (h : x ≡ 0 → ⊥) (z : ℕ) (ez : z ≡ g x) (r : Bool) (er : r ≡ held z) where
    there : 1 ≤ x
    there = omega arith

    seeking-found : not r ≡ true → z ≡ all
    unfolding first_free
    seeking-found e =
        let free : held (g x) ≡ false = ap held (sym ez) ∙ sym er ∙ not-true r e in
        sym (s.left ∙ rw (walk_here step first bound n x l there, free, ez))

    module _ (e : not r ≡ false) (y : ℕ) (ey : y ≡ step x) where
      is_held : held (g x) ≡ true
      is_held = ap held (sym ez) ∙ sym er ∙ not-false r e

      seeking-closed : y ≡ first → 0 ≡ all
      unfolding first_free
      seeking-closed c = sym (s.left ∙ rw (walk-stop step first bound n x l there (sym ey ∙ c), is_held))

      next-is : y ≡ times step (n + 1) first
      unfolding times
      next-is = rw (add-one n) (ey ∙ ap step s.next)

      passed_on : (k : ℕ) → k < n + 1 → held (g (times step k first)) ≡ true
      passed_on k q = go (ℕ_discrete k n)
        where
          go : Dec (k ≡ n) → held (g (times step k first)) ≡ true
          go (yes w) = ap (λ (i : ℕ). held (g (times step i first))) w ∙ ap (λ (a : ℕ). held (g a)) (sym s.next) ∙ is_held
          go (no nw) = s.passed k (omega arith)

      module _ (onward : y ≡ first → ⊥) where
        left-on : all ≡ found held g step first (bound - (n + 1)) y
        unfolding first_free
        left-on = s.left ∙ rw (walk-on step first bound n x l there (λ q. onward (ey ∙ q)), is_held, ey)

        seeking-circle : y ≡ saved → 0 ≡ all
        seeking-circle c =
            let j = s.kept.0 in
            let before : j < n + 1 = omega (arith, s.kept.1) in
            let again : y ≡ times step j first = c ∙ s.kept.2 in
            sym (left-on ∙ ap (found held g step first (bound - (n + 1))) again ∙ none-later held g step first (n + 1) j before (sym next-is ∙ again) passed_on (bound - (n + 1)) j before)

        seeking-on : (saved' : ℕ) → (saved' ≡ saved) ⊎ (saved' ≡ y) → Seeking held g step first bound all (n + 1) y saved'
        seeking-on saved' es = record {
          next = next-is;
          kept = ⊎_elim (λ q. (s.kept.0, omega (arith, s.kept.1), q ∙ s.kept.2)) (λ q. (n + 1, omega arith, q ∙ next-is)) es;
          passed = passed_on;
          left = left-on;
        }

-- ---- a search that may be done while the other of its walk goes on

pub clash : {A : Type 0} (b : Bool) → b ≡ true → b ≡ false → A
clash b t f = let z : ◌≡◌ {A = ℕ} 0 1 = ap (λ (c : Bool). cond c 0 1) (sym t ∙ f) in absurd (omega arith)

-- it has found what the whole search finds, or it has come so far
abbrev pub Comes : (ℕ → Bool) → (ℕ → ℕ) → (ℕ → ℕ) → ℕ → ℕ → ℕ → ℕ → ℕ → ℕ → Bool → ℕ → Type 0
Comes held g step first bound all n x saved done arc =
    ((done ≡ true) × (arc ≡ all)) ⊎ ((done ≡ false) × (arc ≡ 0) × Seeking held g step first bound all n x saved)

-- and so once it has tried the arc x: done, or x is held
abbrev pub Tested : (ℕ → Bool) → (ℕ → ℕ) → (ℕ → ℕ) → ℕ → ℕ → ℕ → ℕ → ℕ → ℕ → Bool → Bool → ℕ → Type 0
Tested held g step first bound all n x saved r done arc =
    ((done ≡ true) × (arc ≡ all)) ⊎ ((done ≡ false) × (arc ≡ 0) × (not r ≡ false) × Seeking held g step first bound all n x saved)

module _ (held : ℕ → Bool) (g step : ℕ → ℕ) (first bound all n x saved : ℕ) (done : Bool) (arc : ℕ) (w : Comes held g step first bound all n x saved done arc) where
  pub comes-end : bound ≤ n → arc ≡ all
  comes-end l = ⊎_elim (λ p. p.1) (λ p. p.1 ∙ seeking-end p.2 l) w

  pub comes-none : x ≡ 0 → arc ≡ all
  comes-none e = ⊎_elim (λ p. p.1) (λ p. p.1 ∙ seeking-none p.2 e) w

  -- it tries x, which z stands for
  module _ (l : n < bound) (h : x ≡ 0 → ⊥) (z : ℕ) (ez : z ≡ g x) (r : Bool) (er : r ≡ held z) (done' : Bool) (arc' : ℕ) (t : Tries done arc r z done' arc') where
    pub tested : Tested held g step first bound all n x saved r done' arc'
    tested = ⊎_elim was-done (λ q. ⊎_elim is_held is_free q) t
      where
        was-done : (done ≡ true) × (done' ≡ true) × (arc' ≡ arc) → Tested held g step first bound all n x saved r done' arc'
        was-done q = ⊎_elim (λ p. inl (q.1, q.2 ∙ p.1)) (λ p. clash done q.0 p.0) w

        is_held : (done ≡ false) × (r ≡ true) × (done' ≡ false) × (arc' ≡ arc) → Tested held g step first bound all n x saved r done' arc'
        is_held q = ⊎_elim (λ p. clash done p.0 q.0) (λ p. inr (q.2, q.3 ∙ p.1, ap not q.1, p.2)) w

        is_free : (done ≡ false) × (r ≡ false) × (done' ≡ true) × (arc' ≡ z) → Tested held g step first bound all n x saved r done' arc'
        is_free q = ⊎_elim (λ p. clash done p.0 q.0) (λ p. inl (q.2, q.3 ∙ seeking-found p.2 l h z ez r er (ap not q.1))) w

module _ (held : ℕ → Bool) (g step : ℕ → ℕ) (first bound all n x saved : ℕ) (r done : Bool) (arc : ℕ) (w : Tested held g step first bound all n x saved r done arc) where
  pub tested-done : done ≡ true → arc ≡ all
  tested-done e = ⊎_elim (λ p. p.1) (λ p. clash done e p.0) w

  module _ (l : n < bound) (h : x ≡ 0 → ⊥) (z : ℕ) (ez : z ≡ g x) (er : r ≡ held z) (y : ℕ) (ey : y ≡ step x) where
    pub tested-closed : y ≡ first → arc ≡ all
    tested-closed c = ⊎_elim (λ p. p.1) (λ p. p.1 ∙ seeking-closed p.3 l h z ez r er p.2 y ey c) w

    module _ (onward : y ≡ first → ⊥) where
      pub tested-circle : y ≡ saved → arc ≡ all
      tested-circle c = ⊎_elim (λ p. p.1) (λ p. p.1 ∙ seeking-circle p.3 l h z ez r er p.2 y ey onward c) w

      pub tested-on : (saved' : ℕ) → (saved' ≡ saved) ⊎ (saved' ≡ y) → Comes held g step first bound all (n + 1) y saved' done arc
      tested-on saved' es = ⊎_elim (λ p. inl p) (λ p. inr (p.0, p.1, seeking-on p.3 l h z ez r er p.2 y ey onward saved' es)) w

-- ---- the two searches of a list

map_same : (l : List ℕ) → map (λ x. x) l ≡ l
map_same [] = refl
map_same (x ∷ xs) = ap {B = List ℕ} (λ r. x ∷ r) (map_same xs)

module _ (arcs edges : Table) (soon : List ℕ) (first : ℕ) where
  abbrev pub ComesOut : ℕ → ℕ → ℕ → Bool → ℕ → Type 0
  ComesOut n x saved done arc = Comes (held_in arcs soon) (λ x. x) (turn_in arcs edges) first (length arcs) (out_from arcs edges soon first) n x saved done arc

  abbrev pub ComesBack : ℕ → ℕ → ℕ → Bool → ℕ → Type 0
  ComesBack n x saved done arc = Comes (held_in arcs soon) (opposite_of arcs edges) (turn_in arcs edges) first (length arcs) (back_from arcs edges soon first) n x saved done arc

  -- next of the opposite comes after an arc
  pub turned : (x o y : ℕ) → o ≡ opposite_of arcs edges x → y ≡ cell arcs o 2 → y ≡ turn_in arcs edges x
  unfolding turn_in
  turned x o y e q = q ∙ ap (λ (z : ℕ). cell arcs z 2) e

  pub start-out : Seeking (held_in arcs soon) (λ x. x) (turn_in arcs edges) first (length arcs) (out_from arcs edges soon first) 0 first first
  unfolding out_from list_from
  start-out = seeking-start (held_in arcs soon) (λ x. x) (turn_in arcs edges) first (length arcs) (out_from arcs edges soon first) (ap (first_free (held_in arcs soon)) (sym (map_same (walk (turn_in arcs edges) first (length arcs) first))))

  pub start_back : Seeking (held_in arcs soon) (opposite_of arcs edges) (turn_in arcs edges) first (length arcs) (back_from arcs edges soon first) 0 first first
  unfolding back_from list_from
  start_back = seeking-start (held_in arcs soon) (opposite_of arcs edges) (turn_in arcs edges) first (length arcs) (back_from arcs edges soon first) refl

-- ---- what was found for every vertex of a perimeter, as the loop over it keeps it

module _ (vertices arcs edges : Table) (soon : List ℕ) where
  abbrev pub out_of : ℕ → ℕ
  out_of v = out_from arcs edges soon (cell vertices v 1)

  abbrev pub back_of : ℕ → ℕ
  back_of v = back_from arcs edges soon (cell vertices v 1)

-- a list made of a perimeter, element by element, at its end
made-back : (f : ℕ → ℕ) (per at : List ℕ) (n : ℕ) → length per ≤ 64 → n ≡ length per → Made f per at n → list_of (record { at = at; len = n }) ≡ map f per
made-back f per at n few en h = ap list_of (made_list f per at n en h) ∙ list_back (map f per) (omega (arith, length-map per f))

pub sought-all : (m : Mesh) (soon per outs backs : List ℕ) (n : ℕ) → length per ≤ 64 → n ≡ length per → Made (out_of m.vertices m.arcs m.edges soon) per outs n → Made (back_of m.vertices m.arcs m.edges soon) per backs n
    → sought_of (record { outs = record { at = outs; len = n }; backs = record { at = backs; len = n } }) ≡ sought_for m soon per
unfolding sought_for
sought-all m soon per outs backs n few en h g =
    let a = made-back (out_of m.vertices m.arcs m.edges soon) per outs n few en h in
    let b = made-back (back_of m.vertices m.arcs m.edges soon) per backs n few en g in
    λ i. record { outs = a i; backs = b i }
