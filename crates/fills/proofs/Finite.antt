-- 64 bits are a finite number exactly where their exponent field is not all ones.
use Prim.Native.Nat.{ℕ, zero, suc, ◌+◌, ◌/◌, ◌%◌}
use mathlib.Core.Bool.{Bool, true, false, not, ◌&&◌, cond, false≢true}
use mathlib.Core.Path.{◌≡◌, refl, sym, ap, subst, ◌∙◌}
use mathlib.Core.List.{List}
use lib.ListN.{get_or}
use lib.Dec.{T, eqb, leb}
use lib.Pow.{field}
use lib.Ieee.{Float, nan, inf, fin, binary64, odd, of_fields, of_bits, low, hid, top, is_nan, nan_bits}
use lib.Ieee.Scale.{finite}
use lib.Ieee.Bits.{of_bits-fits, nan_bits_is}
use Rattle.rules.specs.Point.{exponent_field, finite_number, finite_position, finite_row}
use Rattle.tables.proofs.Field.{by_field}
use Rattle.file.specs.File.{position_row}
use Rattle.fills.specs.Fills.{finite_record}

odd-finite : (d : ℕ) (s : Bool) (q k l : ℕ) → finite (odd d s q k l) ≡ true
unfolding odd
odd-finite d s zero k l = refl
odd-finite d s (suc q) k l = refl

all_ones : (b c s : Bool) (x : Float) → finite x ≡ true → finite (cond b (cond c (inf s) nan) x) ≡ not b
all_ones true true s x h = refl
all_ones true false s x h = refl
all_ones false c s x h = h

fields-finite : (s : Bool) (x t : ℕ) → finite (of_fields binary64 s x t) ≡ not (eqb x 2047)
unfolding of_fields
fields-finite s zero t = odd-finite 53 s t 0 (low binary64)
fields-finite s (suc x) t = all_ones (eqb (suc x) 2047) (eqb t 0) s _ (odd-finite 53 s (hid binary64 + t) x (low binary64))

bits-finite : (b : ℕ) → finite (of_bits binary64 b) ≡ not (eqb (exponent_field b) 2047)
unfolding of_bits exponent_field
bits-finite b =
    fields-finite (leb (top binary64) b) (b % top binary64 / hid binary64) (b % hid binary64)
    ∙ ap (λ (n : ℕ). not (eqb n 2047)) (field b 11 52)

pub by-exponent : (b : ℕ) → not (eqb (exponent_field b) 2047) ≡ finite_number (of_bits binary64 b)
by-exponent b = sym (bits-finite b) ∙ by_field (of_bits binary64 b) (of_bits-fits binary64 b)

-- a finite number is no NaN
no_nan : (x : Float) → finite x ≡ true → T (not (is_nan x))
unfolding is_nan
no_nan nan e = absurd (false≢true e)
no_nan (inf s) e = tt
no_nan (fin s m k) e = tt

pub no-nan-bits : (b : ℕ) → finite_number (of_bits binary64 b) ≡ true → T (not (nan_bits binary64 b))
no-nan-bits b e =
    subst (λ (z : Bool). T (not z)) (sym (nan_bits_is binary64 b))
    (no_nan (of_bits binary64 b) (by_field (of_bits binary64 b) (of_bits-fits binary64 b) ∙ e))

-- ---- a position

pub finite-is : (r : List ℕ)
    → finite_record r
    ≡ (finite_number (of_bits binary64 (get_or r 1 0)) && (finite_number (of_bits binary64 (get_or r 2 0)) && finite_number (of_bits binary64 (get_or r 3 0))))
unfolding finite_record finite_row finite_position position_row
finite-is r = refl

-- what was told of bits is so of the cell that they are
pub so-told : (b k : ℕ) (r v : Bool) → b ≡ k → r ≡ finite_number (of_bits binary64 b) → r ≡ v → finite_number (of_bits binary64 k) ≡ v
so-told b k r v e f g = ap (λ (n : ℕ). finite_number (of_bits binary64 n)) (sym e) ∙ sym f ∙ g
