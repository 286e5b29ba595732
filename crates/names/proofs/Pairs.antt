-- A pair's name: both orders have one, and one name has no other ends.
use Prim.Native.Nat.{ℕ, ◌+◌, ◌*◌, ◌≤◌, ◌<◌, min, max}
use native.Mathlib.Nat.{mod-eq_of_lt}
use native.Mathlib.Omega.{arith}
use native.Mathlib.Decide.{dec_lt}
use mathlib.Core.Path.{◌≡◌}
use mathlib.Core.Logic.{◌⊎◌, inl, inr}
use Rattle.names.specs.Names.{pair_name}

-- both orders have one name
pub pair-swap : (a b : ℕ) → pair_name a b ≡ pair_name b a
unfolding pair_name
pair-swap a b = let p : min a b ≡ min b a = omega arith in let q : max a b ≡ max b a = omega arith in rw (p, q)

module _ (a b : ℕ) (la : a < 8192) (lb : b < 8192) where
  pub pair_parts : pair_name a b ≡ min a b * 8192 + max a b
  unfolding pair_name
  pair_parts =
      let p : min a b < 8192 = omega arith in
      let q : max a b < 8192 = omega arith in
      rw (mod-eq_of_lt p, mod-eq_of_lt q)

  pub pair-some : 1 ≤ a → 1 ≤ b → pair_name a b ≡ 0 → ⊥
  pair-some p q e = omega (arith, pair_parts)

  -- and one name has no other ends
  pub pair_ends : (c e : ℕ) → c < 8192 → e < 8192 → min c e * 8192 + max c e ≡ pair_name a b → ((c ≡ a) × (e ≡ b)) ⊎ ((c ≡ b) × (e ≡ a))
  pair_ends c e lc le h = go (dec_lt c e) (dec_lt a b)
    where
      lows : min c e ≡ min a b
      lows = omega (arith, pair_parts)

      highs : max c e ≡ max a b
      highs = omega (arith, pair_parts, lows)

      go : Dec (c < e) → Dec (a < b) → ((c ≡ a) × (e ≡ b)) ⊎ ((c ≡ b) × (e ≡ a))
      go (yes p) (yes q) = inl (omega (arith, lows), omega (arith, highs))
      go (yes p) (no q) = inr (omega (arith, lows), omega (arith, highs))
      go (no p) (yes q) = inr (omega (arith, highs), omega (arith, lows))
      go (no p) (no q) = inl (omega (arith, highs), omega (arith, lows))
