-- Sums over the numbers below n, and counts as such sums.
use Prim.Native.Nat.{ℕ, zero, suc, ◌+◌, ◌≤◌, ◌<◌}
use native.Mathlib.Nat.{not-suc-le-zero}
use mathlib.Core.Path.{◌≡◌, refl, ap, sym, subst}
use mathlib.Core.Bool.{Bool, true, false, not, ◌&&◌, ◌||◌}
use mathlib.Core.List.{List, [], ◌∷◌, map}
use native.Mathlib.Omega.{arith}
use native.Mathlib.Decide.{ℕ_discrete}
use lib.ListN.{length, get_or}
use lib.Dec.{T, eqb, eqb→eq, eqb_refl}
use lib.Ieee.Fits.{and_l, and_r}
use borrow.Author.Tests.{eq-eqb, ne_eqb}
use Rattle.rules.specs.Table.{count, every, has, distinct, sum_below, all_below}
use Rattle.rules.proofs.Counts.{bit, count-cons}

-- ---- tests

pub or_else : (a b : Bool) → T (a || b) → T (not a) → T b
or_else true b h n = absurd n
or_else false b h n = h

pub or_cases : {C : Type 0} (a b : Bool) → T (a || b) → (T a → C) → (T b → C) → C
or_cases true b h f g = f tt
or_cases false b h f g = g h

pub or_l : (a b : Bool) → T a → T (a || b)
or_l true b h = tt
or_l false b h = absurd h

pub or_r : (a b : Bool) → T b → T (a || b)
or_r true b h = tt
or_r false b h = h

pub same_test : (a b : Bool) → (T a → T b) → (T b → T a) → a ≡ b
same_test true true f g = refl
same_test true false f g = absurd (f tt)
same_test false true f g = absurd (g tt)
same_test false false f g = refl

pub bit_or : (a b : Bool) → (T a → T b → ⊥) → bit (a || b) ≡ bit a + bit b
bit_or true true h = absurd (h tt tt)
bit_or true false h = omega arith
bit_or false true h = omega arith
bit_or false false h = omega arith

pub not_T : (b : Bool) → T (not b) → T b → ⊥
not_T true n h = n
not_T false n h = h

-- ---- every i below n

pub all-at : (p : ℕ → Bool) (n : ℕ) → T (all_below p n) → (k : ℕ) → k < n → T (p k)
unfolding all_below
all-at p zero h k l = absurd (not-suc-le-zero l)
all-at p (suc n) h k l = go (all-at p n (and_l (all_below p n) (p n) h) k) (ℕ_discrete k n)
  where
    go : (k < n → T (p k)) → Dec (k ≡ n) → T (p k)
    go ih (yes e) = subst (λ (j : ℕ). T (p j)) (sym e) (and_r (all_below p n) (p n) h)
    go ih (no ne) = ih (omega arith)

-- ---- sums

pub sum-ext : (f g : ℕ → ℕ) (n : ℕ) → ((k : ℕ) → k < n → f k ≡ g k) → sum_below f n ≡ sum_below g n
unfolding sum_below
sum-ext f g zero h = refl
sum-ext f g (suc n) h = omega (arith, sum-ext f g n (λ k l. h k (omega arith)), h n (omega arith))

pub sum-add : (f g : ℕ → ℕ) (n : ℕ) → sum_below (λ k. f k + g k) n ≡ sum_below f n + sum_below g n
unfolding sum_below
sum-add f g zero = omega arith
sum-add f g (suc n) = omega (arith, sum-add f g n)

pub sum-zero : (f : ℕ → ℕ) (n : ℕ) → ((k : ℕ) → k < n → f k ≡ 0) → sum_below f n ≡ 0
unfolding sum_below
sum-zero f zero h = refl
sum-zero f (suc n) h = omega (arith, sum-zero f n (λ k l. h k (omega arith)), h n (omega arith))

pub sum_first : (f : ℕ → ℕ) (n : ℕ) → sum_below f (suc n) ≡ f 0 + sum_below (λ k. f (suc k)) n
unfolding sum_below
sum_first f zero = omega arith
sum_first f (suc n) = omega (arith, sum_first f n)

-- one link among those up to n
pub sum-hit : (l n : ℕ) → 1 ≤ l → l ≤ n → sum_below (λ k. bit (eqb (k + 1) l)) n ≡ 1
unfolding sum_below
sum-hit l zero a b = omega arith
sum-hit l (suc n) a b = go (sum-hit l n a) (ℕ_discrete (n + 1) l)
  where
    go : (l ≤ n → sum_below (λ k. bit (eqb (k + 1) l)) n ≡ 1) → Dec (n + 1 ≡ l) → sum_below (λ k. bit (eqb (k + 1) l)) n + bit (eqb (n + 1) l) ≡ 1
    go ih (yes e) =
        let none = sum-zero (λ k. bit (eqb (k + 1) l)) n (λ k q. ap bit (ne_eqb (k + 1) l (λ z. omega arith))) in
        omega (arith, none, ap bit (eq-eqb (n + 1) l e))
    go ih (no ne) = omega (arith, ih (omega arith), ap bit (ne_eqb (n + 1) l ne))

-- ---- lists of links

pub has-head : (y : ℕ) (ys : List ℕ) (x : ℕ) → x ≡ y → T (has (y ∷ ys) x)
unfolding has
has-head y ys x e = or_l (eqb x y) (has ys x) (subst (λ (z : ℕ). T (eqb x z)) e (eqb_refl x))

pub every-has : (p : ℕ → Bool) (l : List ℕ) → T (every p l) → (x : ℕ) → T (has l x) → T (p x)
unfolding every has
every-has p [] h x i = absurd i
every-has p (y ∷ ys) h x i =
    or_cases (eqb x y) (has ys x) i (λ e. subst (λ (z : ℕ). T (p z)) (sym (eqb→eq x y e)) (and_l (p y) (every p ys) h)) (λ r. every-has p ys (and_r (p y) (every p ys) h) x r)

pub has-map : (f : ℕ → ℕ) (l : List ℕ) (x : ℕ) → T (has l x) → T (has (map f l) (f x))
unfolding has
has-map f [] x h = h
has-map f (y ∷ ys) x h =
    or_cases (eqb x y) (has ys x) h (λ e. has-head (f y) (map f ys) (f x) (ap f (eqb→eq x y e))) (λ r. or_r (eqb (f x) (f y)) (has (map f ys) (f x)) (has-map f ys x r))

not-from : (a b : Bool) → (T a → T b) → T (not b) → T (not a)
not-from true b f n = not_T b n (f tt)
not-from false b f n = tt

both : (a b : Bool) → T a → T b → T (a && b)
both true b x y = y
both false b x y = absurd x

pub distinct-map : (f : ℕ → ℕ) (l : List ℕ) → T (distinct (map f l)) → T (distinct l)
unfolding distinct
distinct-map f [] h = tt
distinct-map f (y ∷ ys) h =
    both (not (has ys y)) (distinct ys)
    (not-from (has ys y) (has (map f ys) (f y)) (has-map f ys y) (and_l (not (has (map f ys) (f y))) (distinct (map f ys)) h))
    (distinct-map f ys (and_r (not (has (map f ys) (f y))) (distinct (map f ys)) h))

-- as many numbers up to n stand in a list with no element twice as the list is long
pub sum-list : (l : List ℕ) (n : ℕ) → T (distinct l) → ((x : ℕ) → T (has l x) → (1 ≤ x) × (x ≤ n)) → sum_below (λ k. bit (has l (k + 1))) n ≡ length l
unfolding has distinct
sum-list [] n d h = sum-zero (λ k. 0) n (λ k l. refl)
sum-list (y ∷ ys) n d h =
    let apart = and_l (not (has ys y)) (distinct ys) d in
    let here = h y (or_l (eqb y y) (has ys y) (eqb_refl y)) in
    let split = sum-ext (λ k. bit (eqb (k + 1) y || has ys (k + 1))) (λ k. bit (eqb (k + 1) y) + bit (has ys (k + 1))) n
    (λ k l. bit_or (eqb (k + 1) y) (has ys (k + 1)) (λ e i. not_T (has ys y) apart (subst (λ (z : ℕ). T (has ys z)) (eqb→eq (k + 1) y e) i))) in
    let rest = sum-list ys n (and_r (not (has ys y)) (distinct ys) d) (λ x i. h x (or_r (eqb x y) (has ys x) i)) in
    omega (arith, split, sum-add (λ k. bit (eqb (k + 1) y)) (λ k. bit (has ys (k + 1))) n, sum-hit y n here.0 here.1, rest)

-- ---- counts

pub count-sum {ℓ} : {A : Type ℓ} (p : A → Bool) (xs : List A) (d : A) → count p xs ≡ sum_below (λ k. bit (p (get_or xs k d))) (length xs)
unfolding count sum_below
count-sum p [] d = refl
count-sum p (x ∷ xs) d = omega (arith, count-cons p x xs, count-sum p xs d, sum_first (λ k. bit (p (get_or (x ∷ xs) k d))) (length xs))
