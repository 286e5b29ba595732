-- A sum over the numbers below n, where each is at most one; and a test as a number.
use Prim.Native.Nat.{ℕ, zero, suc, ◌≤◌, zero-le, suc-le-suc}
use native.Mathlib.Omega.{arith}
use mathlib.Core.Path.{◌≡◌, refl}
use mathlib.Core.Bool.{Bool, true, false, ◌&&◌, cond}
use mir.Val.{bool_byte}
use Rattle.rules.specs.Table.{sum_below}

pub and-true : (b : Bool) → (b && true) ≡ b
and-true true = refl
and-true false = refl

-- a test as a number
pub bit_of : (b : Bool) → bool_byte b ≡ cond b 1 0
bit_of true = refl
bit_of false = refl

-- one or none
pub one_at_most : (b : Bool) → cond b 1 0 ≤ 1
one_at_most true = suc-le-suc zero-le
one_at_most false = zero-le

-- where each is at most one, the sum is at most their number
pub sum-few : (f : ℕ → ℕ) (n : ℕ) → ((k : ℕ) → f k ≤ 1) → sum_below f n ≤ n
unfolding sum_below
sum-few f zero h = zero-le
sum-few f (suc n) h = omega (arith, sum-few f n h, h n)
