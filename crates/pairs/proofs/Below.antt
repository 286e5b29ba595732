-- Some number below n passes: what a loop keeps, and what it has at its ends.
use Prim.Native.Nat.{ℕ, zero, suc, ◌+◌, ◌<◌}
use native.Mathlib.Nat.{not-suc-le-zero}
use native.Mathlib.Numerals.{add-one}
use native.Mathlib.Omega.{arith}
use native.Mathlib.Decide.{ℕ_discrete}
use mathlib.Core.Path.{◌≡◌, refl, ap}
use mathlib.Core.Bool.{Bool, true, false, ◌||◌, cond}
use Rattle.rules.specs.Table.{some_below}

pub or-true : (b : Bool) → (b || true) ≡ true
or-true true = refl
or-true false = refl

-- none below i passes, and i does not
pub some_more : (p : ℕ → Bool) (i : ℕ) → some_below p i ≡ false → p i ≡ false → some_below p (i + 1) ≡ false
unfolding some_below
some_more p i h e = rw (add-one i, h, e)

-- one below n passes
pub some-here : (p : ℕ → Bool) (n i : ℕ) → i < n → p i ≡ true → some_below p n ≡ true
unfolding some_below
some-here p zero i l e = absurd (not-suc-le-zero l)
some-here p (suc n) i l e = go (λ q. some-here p n i q e) (ℕ_discrete i n)
  where
    go : (i < n → some_below p n ≡ true) → Dec (i ≡ n) → (some_below p n || p n) ≡ true
    go h (yes q) = rw (← q, e) (or-true (some_below p i))
    go h (no nq) = rw (h (omega arith))

-- none below i + 1 passes: none below i does, nor does i
pub or_left : (a b : Bool) → (a || b) ≡ false → a ≡ false
or_left true b e = e
or_left false b e = refl

pub or_right : (a b : Bool) → (a || b) ≡ false → b ≡ false
or_right true b e = let z : ◌≡◌ {A = ℕ} 0 1 = ap (λ (t : Bool). cond t 0 1) e in absurd (omega arith)
or_right false b e = e

module _ (p : ℕ → Bool) (i : ℕ) (h : some_below p (i + 1) ≡ false) where
  last-two : (some_below p i || p i) ≡ false
  unfolding some_below
  last-two = rw (add-one i) at h

  pub some-fewer : some_below p i ≡ false
  some-fewer = or_left (some_below p i) (p i) last-two

  pub some-last : p i ≡ false
  some-last = or_right (some_below p i) (p i) last-two
