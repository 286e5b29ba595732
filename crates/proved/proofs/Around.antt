-- A walk that returns, place by place: its element k is k steps on from where it starts, it is back after as many steps as it is long,
-- and not before. And lists of numbers by place.
use Prim.Native.Nat.{ℕ, zero, suc, ◌≤◌, ◌<◌, zero-le, suc-le-suc}
use native.Mathlib.Nat.{le_of_suc-le-suc, not-suc-le-zero}
use native.Mathlib.Omega.{arith}
use native.Mathlib.Decide.{ℕ_discrete}
use mathlib.Core.Path.{◌≡◌, refl, ap, sym, subst, ◌∙◌}
use mathlib.Core.Bool.{Bool, true, false, not, cond}
use mathlib.Core.List.{List, [], ◌∷◌, map}
use lib.ListN.{length, get_or}
use lib.Dec.{T, T_not, not_T, eqb, eqb→eq, eqb_refl}
use lib.Ieee.Fits.{and_l, and_r, and_i}
use borrow.Author.Tests.{eqb-true, eqb-false, eq-eqb, ne_eqb}
use Rattle.rules.specs.declared.Ended.TheVariants.{Closed}
use Rattle.rules.specs.Table.{has, distinct, times}
use Rattle.rules.specs.Link.{walk, walk_ended}
use Rattle.rules.specs.Sound.{closed}
use Rattle.rules.proofs.Sums.{or_cases, or_l, or_r, has-map}

-- ---- steps

pub times-shift : (f : ℕ → ℕ) (k x : ℕ) → times f k (f x) ≡ f (times f k x)
unfolding times
times-shift f zero x = refl
times-shift f (suc k) x = ap f (times-shift f k x)

pub times_more : (f : ℕ → ℕ) (k x : ℕ) → times f (suc k) x ≡ f (times f k x)
unfolding times
times_more f k x = refl

pub times_none : (f : ℕ → ℕ) (x : ℕ) → times f 0 x ≡ x
unfolding times
times_none f x = refl

-- ---- walks

module _ (step : ℕ → ℕ) (first : ℕ) where
  -- what comes after the step from x
  abbrev rest : ℕ → ℕ → List ℕ
  rest n x = walk step first n (step x)

  pub walk_at : (n x k : ℕ) → k < length (walk step first n x) → get_or (walk step first n x) k 0 ≡ times step k x
  unfolding walk times
  walk_at zero x k l = absurd (not-suc-le-zero l)
  walk_at (suc n) zero k l = absurd (not-suc-le-zero l)
  walk_at (suc n) (suc x) zero l = refl
  walk_at (suc n) (suc x) (suc k) l = go (eqb (step (suc x)) first) (le_of_suc-le-suc l) (walk_at n (step (suc x)) k)
    where
      go : (b : Bool) → k < length (cond b [] (rest n (suc x))) → (k < length (rest n (suc x)) → get_or (rest n (suc x)) k 0 ≡ times step k (step (suc x))) → get_or (cond b [] (rest n (suc x))) k 0 ≡ step (times step k (suc x))
      go true q ih = absurd (not-suc-le-zero q)
      go false q ih = ih q ∙ times-shift step k (suc x)

  -- a walk that ended closed is back at the first after as many steps as it is long
  abbrev Back : ℕ → ℕ → Type 0
  Back n x = T (closed (walk_ended step first n x)) → times step (length (walk step first n x)) x ≡ first

  pub walk-back : (n x : ℕ) → Back n x
  unfolding walk walk_ended closed times
  walk-back zero zero h = absurd h
  walk-back zero (suc x) h = absurd h
  walk-back (suc n) zero h = absurd h
  walk-back (suc n) (suc x) h = go (eqb (step (suc x)) first) refl h (walk-back n (step (suc x)))
    where
      go : (b : Bool) → eqb (step (suc x)) first ≡ b → T (closed (cond b Closed (walk_ended step first n (step (suc x))))) → Back n (step (suc x)) → step (times step (length (cond b [] (rest n (suc x)))) (suc x)) ≡ first
      go true e q ih = eqb-true (step (suc x)) first e
      go false e q ih = sym (times-shift step (length (rest n (suc x))) (suc x)) ∙ ih q

  -- and no step before the last comes to the first
  abbrev NotBefore : ℕ → ℕ → Type 0
  NotBefore n x = (k : ℕ) → suc k < length (walk step first n x) → times step (suc k) x ≡ first → ⊥

  pub not-before : (n x : ℕ) → NotBefore n x
  unfolding walk times
  not-before zero x k l e = absurd (not-suc-le-zero l)
  not-before (suc n) zero k l e = absurd (not-suc-le-zero l)
  not-before (suc n) (suc x) k l e = go k (eqb (step (suc x)) first) refl l e (not-before n (step (suc x)))
    where
      go : (k : ℕ) (b : Bool) → eqb (step (suc x)) first ≡ b → suc k < suc (length (cond b [] (rest n (suc x)))) → step (times step k (suc x)) ≡ first → NotBefore n (step (suc x)) → ⊥
      go k true q l e ih = not-suc-le-zero (le_of_suc-le-suc l)
      go zero false q l e ih = eqb-false (step (suc x)) first q e
      go (suc k) false q l e ih = ih k (le_of_suc-le-suc l) (times-shift step (suc k) (suc x) ∙ e)

  -- n steps come back to the first: none of them comes to none, and none comes to the first before
  pub record Comes (n x : ℕ) : Type 0 where
    pub some-on : (k : ℕ) → k < n → 1 ≤ times step k x
    pub back_at : times step n x ≡ first
    pub none_before : (k : ℕ) → 1 ≤ k → k < n → times step k x ≡ first → ⊥

  -- then the walk ends closed and is n long
  abbrev pub Closes : ℕ → ℕ → ℕ → Type 0
  Closes n bound x = T (closed (walk_ended step first bound x)) × (length (walk step first bound x) ≡ n)

  pub walk-closes : (n bound x : ℕ) → 1 ≤ n → n ≤ bound → Comes n x → Closes n bound x
  unfolding walk walk_ended closed times
  walk-closes zero bound x a b c = absurd (not-suc-le-zero a)
  walk-closes (suc n) zero x a b c = absurd (not-suc-le-zero b)
  walk-closes (suc n) (suc bound) zero a b c = absurd (not-suc-le-zero (c.some-on 0 (suc-le-suc zero-le)))
  walk-closes (suc n) (suc bound) (suc x) a b c =
      go n c (ℕ_discrete (step (suc x)) first) (λ l. walk-closes n bound (step (suc x)) l (le_of_suc-le-suc b))
    where
      go : (n : ℕ) → Comes (suc n) (suc x) → Dec (step (suc x) ≡ first) → (1 ≤ n → Comes n (step (suc x)) → Closes n bound (step (suc x))) → Closes (suc n) (suc bound) (suc x)
      go zero c (yes e) ih = rw (eq-eqb (step (suc x)) first e) (tt, refl)
      go zero c (no ne) ih = absurd (ne c.back_at)
      go (suc n) c (yes e) ih = absurd (c.none_before 1 (suc-le-suc zero-le) (suc-le-suc (suc-le-suc zero-le)) e)
      go (suc n) c (no ne) ih =
          let w = ih (suc-le-suc zero-le) (record { some-on = λ k l. rw (times-shift step k (suc x)) (c.some-on (suc k) (suc-le-suc l)); back_at = times-shift step (suc n) (suc x) ∙ c.back_at; none_before = λ k l q e. c.none_before (suc k) (suc-le-suc zero-le) (suc-le-suc q) (sym (times-shift step k (suc x)) ∙ e) }) in
          rw (ne_eqb (step (suc x)) first ne) (w.0, ap suc w.1)

-- ---- lists by place

-- what stands in a list stands at some place of it
pub has-place : (l : List ℕ) (x : ℕ) → T (has l x) → (k : ℕ) × (k < length l) × (get_or l k 0 ≡ x)
unfolding has
has-place [] x h = absurd h
has-place (y ∷ ys) x h =
    or_cases (eqb x y) (has ys x) h (λ e. (0, suc-le-suc zero-le, sym (eqb→eq x y e))) (λ r. later (has-place ys x r))
  where
    later : (k : ℕ) × (k < length ys) × (get_or ys k 0 ≡ x) → (k : ℕ) × (k < suc (length ys)) × (get_or (y ∷ ys) k 0 ≡ x)
    later w = (suc w.0, suc-le-suc w.1, w.2)

pub place-has : (l : List ℕ) (k : ℕ) → k < length l → T (has l (get_or l k 0))
unfolding has
place-has [] k h = absurd (not-suc-le-zero h)
place-has (y ∷ ys) zero h = or_l (eqb y y) (has ys y) (eqb_refl y)
place-has (y ∷ ys) (suc k) h = or_r (eqb (get_or ys k 0) y) (has ys (get_or ys k 0)) (place-has ys k (le_of_suc-le-suc h))

-- a list whose elements give no value twice gives a value at one place, and the other way round
first-place : (f : ℕ → ℕ) (y : ℕ) (ys : List ℕ) → T (distinct (map f (y ∷ ys))) → (k : ℕ) → k < length ys → f y ≡ f (get_or ys k 0) → ⊥
unfolding distinct
first-place f y ys d k l e =
    T_not (has (map f ys) (f y)) (and_l (not (has (map f ys) (f y))) (distinct (map f ys)) d) (subst (λ (z : ℕ). T (has (map f ys) z)) (sym e) (has-map f ys (get_or ys k 0) (place-has ys k l)))

pub one_place : (f : ℕ → ℕ) (l : List ℕ) → T (distinct (map f l)) → (j k : ℕ) → j < length l → k < length l → f (get_or l j 0) ≡ f (get_or l k 0) → j ≡ k
unfolding distinct
one_place f [] d j k a b e = absurd (not-suc-le-zero a)
one_place f (y ∷ ys) d zero zero a b e = refl
one_place f (y ∷ ys) d zero (suc k) a b e = absurd (first-place f y ys d k (le_of_suc-le-suc b) e)
one_place f (y ∷ ys) d (suc j) zero a b e = absurd (first-place f y ys d j (le_of_suc-le-suc a) (sym e))
one_place f (y ∷ ys) d (suc j) (suc k) a b e =
    ap suc (one_place f ys (and_r (not (has (map f ys) (f y))) (distinct (map f ys)) d) j k (le_of_suc-le-suc a) (le_of_suc-le-suc b) e)

has-from : (f : ℕ → ℕ) (l : List ℕ) (z : ℕ) → T (has (map f l) z) → (k : ℕ) × (k < length l) × (f (get_or l k 0) ≡ z)
unfolding has
has-from f [] z h = absurd h
has-from f (y ∷ ys) z h =
    or_cases (eqb z (f y)) (has (map f ys) z) h (λ e. (0, suc-le-suc zero-le, sym (eqb→eq z (f y) e))) (λ r. later (has-from f ys z r))
  where
    later : (k : ℕ) × (k < length ys) × (f (get_or ys k 0) ≡ z) → (k : ℕ) × (k < suc (length ys)) × (f (get_or (y ∷ ys) k 0) ≡ z)
    later w = (suc w.0, suc-le-suc w.1, w.2)

pub places-differ : (f : ℕ → ℕ) (l : List ℕ) → ((j k : ℕ) → j < length l → k < length l → f (get_or l j 0) ≡ f (get_or l k 0) → j ≡ k) → T (distinct (map f l))
unfolding distinct
places-differ f [] h = tt
places-differ f (y ∷ ys) h =
    and_i (not (has (map f ys) (f y))) (distinct (map f ys)) (not_T (has (map f ys) (f y)) (λ t. clash (has-from f ys (f y) t)))
    (places-differ f ys (λ j k a b e. let z = h (suc j) (suc k) (suc-le-suc a) (suc-le-suc b) e in omega arith))
  where
    clash : (k : ℕ) × (k < length ys) × (f (get_or ys k 0) ≡ f y) → ⊥
    clash w = let z = h 0 (suc w.0) (suc-le-suc zero-le) (suc-le-suc w.1) (sym w.2) in omega arith
