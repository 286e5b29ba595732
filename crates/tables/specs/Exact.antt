-- The exact sum of two numbers of signs s and t and sizes a / c and b / c: its sign, and its size over c. No rounding.
use Rattle.std.specs.Prelude.{ℕ, ◌+◌, ◌-◌, Bool, ◌&&◌, cond, ltb}
use Rattle.std.specs.Bool.{beq}

-- a sum that is exactly zero is -0 where both are negative, and +0 otherwise
unfoldable pub sum_sign : Bool → ℕ → Bool → ℕ → Bool
sum_sign s a t b = cond (beq s t) s (cond (ltb a b) t (s && ltb b a))

unfoldable pub sum_size : Bool → ℕ → Bool → ℕ → ℕ
sum_size s a t b = cond (beq s t) (a + b) (cond (ltb a b) (b - a) (a - b))
