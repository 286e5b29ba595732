-- Places on a ring of n: the one after, the one before, and that they come back to one another.
use Prim.Native.Nat.{ℕ, ◌+◌, ◌-◌, ◌≤◌, ◌<◌}
use native.Mathlib.Omega.{arith}
use native.Mathlib.Decide.{ℕ_discrete}
use mathlib.Core.Path.{◌≡◌, sym, ◌∙◌}
use mathlib.Core.Bool.{cond}
use lib.Dec.{eqb}
use borrow.Author.Tests.{ne_eqb, eq-eqb}
use Rattle.rules.specs.Table.{after}

-- the place after the last is the first, and the place after another is the next number
pub after_last : (n i : ℕ) → i + 1 ≡ n → after n i ≡ 0
after_last n i e = rw (eq-eqb (i + 1) n e)

pub after_on : (n i : ℕ) → (i + 1 ≡ n → ⊥) → after n i ≡ i + 1
after_on n i ne = rw (ne_eqb (i + 1) n ne)

pub after-low : (n i : ℕ) → i < n → after n i < n
after-low n i l = go (ℕ_discrete (i + 1) n)
  where
    go : Dec (i + 1 ≡ n) → after n i < n
    go (yes e) = omega (arith, after_last n i e)
    go (no ne) = omega (arith, after_on n i ne)

pub after-differs : (n i : ℕ) → 2 ≤ n → i < n → i ≡ after n i → ⊥
after-differs n i h l e = go (ℕ_discrete (i + 1) n)
  where
    go : Dec (i + 1 ≡ n) → ⊥
    go (yes q) = omega (arith, after_last n i q)
    go (no ne) = omega (arith, after_on n i ne)

pub after_one : (n i j : ℕ) → i < n → j < n → after n i ≡ after n j → i ≡ j
after_one n i j a b e = go (ℕ_discrete (i + 1) n) (ℕ_discrete (j + 1) n)
  where
    go : Dec (i + 1 ≡ n) → Dec (j + 1 ≡ n) → i ≡ j
    go (yes p) (yes q) = omega arith
    go (yes p) (no q) = let z : ⊥ = omega (arith, after_last n i p, after_on n j q) in absurd z
    go (no p) (yes q) = let z : ⊥ = omega (arith, after_on n i p, after_last n j q) in absurd z
    go (no p) (no q) = omega (arith, after_on n i p, after_on n j q)

-- no place is the second after itself
pub after-twice : (n i : ℕ) → 3 ≤ n → i < n → after n (after n i) ≡ i → ⊥
after-twice n i h l e = go (ℕ_discrete (i + 1) n) (ℕ_discrete (after n i + 1) n)
  where
    go : Dec (i + 1 ≡ n) → Dec (after n i + 1 ≡ n) → ⊥
    go (yes p) (yes q) = omega (arith, after_last n i p)
    go (yes p) (no q) = omega (arith, after_last n i p, after_on n (after n i) q)
    go (no p) (yes q) = omega (arith, after_on n i p, after_last n (after n i) q)
    go (no p) (no q) = omega (arith, after_on n i p, after_on n (after n i) q)

-- the place before
abbrev pub before : ℕ → ℕ → ℕ
before n i = cond (eqb i 0) (n - 1) (i - 1)

before-first : (n i : ℕ) → i ≡ 0 → before n i ≡ n - 1
before-first n i e = rw (eq-eqb i 0 e)

before_on : (n i : ℕ) → (i ≡ 0 → ⊥) → before n i ≡ i - 1
before_on n i ne = rw (ne_eqb i 0 ne)

pub before-low : (n i : ℕ) → i < n → before n i < n
before-low n i l = go (ℕ_discrete i 0)
  where
    go : Dec (i ≡ 0) → before n i < n
    go (yes e) = omega (arith, before-first n i e)
    go (no ne) = omega (arith, before_on n i ne)

pub after-before : (n i : ℕ) → i < n → after n (before n i) ≡ i
after-before n i l = go (ℕ_discrete i 0)
  where
    go : Dec (i ≡ 0) → after n (before n i) ≡ i
    go (yes e) = let q = before-first n i e in after_last n (before n i) (omega arith) ∙ sym e
    go (no ne) = let q = before_on n i ne in let z = after_on n (before n i) (λ w. omega arith) in omega arith

pub before-after : (n i : ℕ) → i < n → before n (after n i) ≡ i
before-after n i l = after_one n (before n (after n i)) i (before-low n (after n i) (after-low n i l)) l (after-before n (after n i) (after-low n i l))
