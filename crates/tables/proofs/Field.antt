-- A float is finite exactly where its exponent field is not all ones; and the bits of a NaN.
use Prim.Native.Nat.{ℕ, zero, suc, ◌+◌, ◌/◌, ◌%◌, ◌^◌}
use mathlib.Core.Bool.{Bool, true, false, not, cond}
use mathlib.Core.Path.{◌≡◌, refl, sym, ap, subst, ◌∙◌}
use lib.Dec.{T, eqb, leb}
use lib.Bits.{bit_and, and_mask}
use lib.Pow.{field}
use lib.Ieee.{Float, nan, inf, fin, binary64, odd, of_fields, of_bits, to_bits, fits, low, hid, top, is_nan, ne, eq}
use lib.Ieee.Scale.{finite}
use lib.Ieee.Bits.{of_bits-to_bits}
use Rattle.rules.specs.Point.{exponent_field, finite_number, zero_number}

odd-finite : (d : ℕ) (s : Bool) (q k l : ℕ) → finite (odd d s q k l) ≡ true
unfolding odd
odd-finite d s zero k l = refl
odd-finite d s (suc q) k l = refl

-- all ones: an infinity or a NaN; else a number
all_ones : (b c s : Bool) (x : Float) → finite x ≡ true → finite (cond b (cond c (inf s) nan) x) ≡ not b
all_ones true true s x h = refl
all_ones true false s x h = refl
all_ones false c s x h = h

fields-finite : (s : Bool) (x t : ℕ) → finite (of_fields binary64 s x t) ≡ not (eqb x 2047)
unfolding of_fields
fields-finite s zero t = odd-finite 53 s t 0 (low binary64)
fields-finite s (suc x) t = all_ones (eqb (suc x) 2047) (eqb t 0) s _ (odd-finite 53 s (hid binary64 + t) x (low binary64))

bits-finite : (b : ℕ) → finite (of_bits binary64 b) ≡ not (eqb (exponent_field b) 2047)
unfolding of_bits exponent_field
bits-finite b =
    fields-finite (leb (top binary64) b) (b % top binary64 / hid binary64) (b % hid binary64)
    ∙ ap (λ (n : ℕ). not (eqb n 2047)) (field b 11 52)

-- the two meanings agree, at a NaN too
pub by_field : (x : Float) → T (fits binary64 x) → finite x ≡ finite_number x
unfolding finite_number
by_field x h = sym (ap finite (of_bits-to_bits binary64 x h)) ∙ bits-finite (to_bits binary64 x)

-- shift and mask give the field
pub masked : (x : Float) → not (eqb (bit_and (to_bits binary64 x / 2 ^ 52) 2047) 2047) ≡ finite_number x
unfolding finite_number exponent_field
masked x = ap (λ (n : ℕ). not (eqb n 2047)) (and_mask (to_bits binary64 x / 2 ^ 52) 11)

-- what differs from itself is not finite and not zero
pub nan-not-finite : (x : Float) → x ≡ nan → (false ≡ finite_number x) × (false ≡ finite x)
unfolding to_bits finite_number exponent_field
nan-not-finite x e = rw e (refl, refl)

pub nan-not-zero : (x : Float) → x ≡ nan → false ≡ zero_number x
unfolding to_bits zero_number
nan-not-zero x e = rw e refl

-- what does not differ from itself is no NaN
pub not-nan : (x : Float) → ne x x ≡ false → T (not (is_nan x))
unfolding is_nan ne eq
not-nan nan e = subst T e tt
not-nan (inf s) e = tt
not-nan (fin s m k) e = tt

-- the one pattern of a NaN
pub nan-bits : (x : Float) → true ≡ is_nan x → 9221120237041090560 ≡ to_bits binary64 x
unfolding to_bits is_nan
nan-bits nan e = refl
nan-bits (inf s) e = absurd (subst T e tt)
nan-bits (fin s m k) e = absurd (subst T e tt)
