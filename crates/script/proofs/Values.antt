-- The laws of digits and of their value, and of a coordinate's sign. Assumes nothing.
use Prim.Native.Nat.{ℕ, zero, suc, ◌+◌, ◌-◌, ◌*◌, ◌^◌, ◌≤◌, ◌<◌}
use native.Mathlib.Omega.{arith}
use mathlib.Core.Path.{◌≡◌, refl, ap, sym, ◌∙◌}
use mathlib.Core.Bool.{Bool, true, false, cond, ◌&&◌}
use mathlib.Core.Logic.{◌⊎◌, inl, inr}
use mathlib.Core.List.{[], ◌∷◌}
use native.Mathlib.Numerals.{add-one}
use lib.ListN.{length, get_or, drop, drop_of_length-le}
use lib.Seq.{drop-cons}
use lib.Dec.{leb, ltb, eqb-suc-zero}
use lib.IntN.{pos, neg_ℤ}
use lib.Ieee.{inf, Format, binary64, odd, units, round, neg, of_int, emax, low, prec}
use borrow.Author.Tests.{le-leb, lt-leb}
use Rattle.std.specs.Prelude.{◌==◌}
use Rattle.rules.specs.Table.{every}
use Rattle.rules.specs.Script.{Text, Reading, unread, reads, is_digit, value_from, digits_up_to, float_of}

-- the digits that are left, after those whose value is v
unfoldable pub digits_on : ℕ → ℕ → Text → Reading
digits_on limit v cs = cond (every is_digit cs && leb (value_from v cs) limit) (reads (value_from v cs)) unread

pub digits-begin : (limit : ℕ) (c : ℕ) (cs : Text) → digits_up_to limit (c ∷ cs) ≡ digits_on limit 0 (c ∷ cs)
unfolding digits_up_to digits_on
digits-begin limit c cs = refl

pub digits-none : (limit : ℕ) → digits_up_to limit [] ≡ unread
unfolding digits_up_to
digits-none limit = refl

pub digits-end : (limit v : ℕ) → v ≤ limit → digits_on limit v [] ≡ reads v
unfolding digits_on every value_from
digits-end limit v h = rw (le-leb v limit h)

pub is_digit_lem : (c : ℕ) → 48 ≤ c → c ≤ 57 → is_digit c ≡ true
unfolding is_digit
is_digit_lem c l h = rw (le-leb 48 c l, le-leb c 57 h)

low-no-digit : (c : ℕ) → c < 48 → is_digit c ≡ false
unfolding is_digit
low-no-digit c h = rw (lt-leb 48 c h)

high-no-digit : (c : ℕ) → 57 < c → is_digit c ≡ false
unfolding is_digit
high-no-digit c h = let l : 48 ≤ c = omega arith in rw (le-leb 48 c l, lt-leb c 57 h)

no_digit : (limit v c : ℕ) (cs : Text) → is_digit c ≡ false → digits_on limit v (c ∷ cs) ≡ unread
unfolding digits_on every
no_digit limit v c cs e = rw e

pub digits_low : (limit v c : ℕ) (cs : Text) → c < 48 → digits_on limit v (c ∷ cs) ≡ unread
digits_low limit v c cs h = no_digit limit v c cs (low-no-digit c h)

pub digits-high : (limit v c : ℕ) (cs : Text) → 57 < c → digits_on limit v (c ∷ cs) ≡ unread
digits-high limit v c cs h = no_digit limit v c cs (high-no-digit c h)

pub digits-next : (limit v c : ℕ) (cs : Text) → 48 ≤ c → c ≤ 57 → digits_on limit v (c ∷ cs) ≡ digits_on limit (v * 10 + (c - 48)) cs
unfolding digits_on every value_from
digits-next limit v c cs l h = rw (is_digit_lem c l h)

value_grows : (v : ℕ) (cs : Text) → v ≤ value_from v cs
unfolding value_from
value_grows v [] = omega arith
value_grows v (c ∷ cs) = omega (arith, value_grows (v * 10 + (c - 48)) cs)

pub digits-over : (limit v : ℕ) (cs : Text) → limit < v → digits_on limit v cs ≡ unread
unfolding digits_on
digits-over limit v cs h =
    let l : limit < value_from v cs = omega (arith, value_grows v cs) in
    rw (lt-leb (value_from v cs) limit l) (either (every is_digit cs))
  where
    either : (b : Bool) → cond (b && false) (reads (value_from v cs)) unread ≡ unread
    either true = refl
    either false = refl

-- ---- the sign of a coordinate

neg-odd : (d q k l : ℕ) → neg (odd d false q k l) ≡ odd d true q k l
unfolding neg odd
neg-odd d zero k l = refl
neg-odd d (suc q) k l = refl

neg-units : (f : Format) (q k : ℕ) → neg (units f false q k) ≡ units f true q k
unfolding units neg
neg-units f q k = go (ltb (q * 2 ^ k) (2 ^ (low f + suc (emax f))))
  where
    go : (b : Bool) → neg (cond b (odd (suc (prec f)) false q k (low f)) (inf false)) ≡ cond b (odd (suc (prec f)) true q k (low f)) (inf true)
    go true = neg-odd (suc (prec f)) q k (low f)
    go false = refl

neg-round : (f : Format) (n d : ℕ) → neg (round f false n d) ≡ round f true n d
unfolding round
neg-round f n d = neg-units f _ _

-- minus a whole number that is not 0, and minus 0
pub float-minus : (n : ℕ) → (n ≡ 0 → ⊥) → neg (of_int binary64 (pos n)) ≡ float_of (neg_ℤ (pos n))
unfolding of_int float_of
float-minus zero h = absurd (h refl)
float-minus (suc n) h = neg-round binary64 (suc n) 1

pub float_zero : (n : ℕ) → n ≡ 0 → of_int binary64 (pos n) ≡ float_of (neg_ℤ (pos n))
unfolding float_of
float_zero n e = rw e

pub signless : (minus : Bool) (n : ℕ) → (minus ≡ false) ⊎ ((minus ≡ true) × (n ≡ 0)) → of_int binary64 (pos n) ≡ float_of (cond minus (neg_ℤ (pos n)) (pos n))
unfolding float_of
signless minus n (inl e) = rw e
signless minus n (inr e) = rw (e.0, e.1)

-- ---- the digits from a place on

-- what is_empty tells
pub none-is : (n : ℕ) → true ≡ (n == 0) → n ≡ 0
none-is zero e = refl
none-is (suc n) e = let t : ◌≡◌ {A = Bool} true false = e ∙ eqb-suc-zero n in let z : ◌≡◌ {A = ℕ} 0 1 = cc in let b : ⊥ = omega arith in absurd b

pub some-is : (n : ℕ) → false ≡ (n == 0) → n ≡ 0 → ⊥
some-is zero e h = let z : ◌≡◌ {A = ℕ} 0 1 = cc in omega arith
some-is (suc n) e h = omega arith

pub digits-begun : (limit : ℕ) (field : Text) → (length field ≡ 0 → ⊥) → digits_up_to limit field ≡ digits_on limit 0 field
digits-begun limit [] h = absurd (h refl)
digits-begun limit (c ∷ cs) h = digits-begin limit c cs

pub here-none : (limit : ℕ) (field : Text) → length field ≡ 0 → digits_up_to limit field ≡ unread
here-none limit [] h = digits-none limit
here-none limit (c ∷ cs) h = let b : ⊥ = omega arith in absurd b

module _ (field : Text) (i limit v : ℕ) (lt : i < length field) where
  at-hand : drop i field ≡ get_or field i 0 ∷ drop (i + 1) field
  at-hand = rw (add-one i) (drop-cons field i 0 lt)

  pub here-low : get_or field i 0 < 48 → digits_on limit v (drop i field) ≡ unread
  here-low h = ap (digits_on limit v) at-hand ∙ digits_low limit v (get_or field i 0) (drop (i + 1) field) h

  pub here-high : 57 < get_or field i 0 → digits_on limit v (drop i field) ≡ unread
  here-high h = ap (digits_on limit v) at-hand ∙ digits-high limit v (get_or field i 0) (drop (i + 1) field) h

  pub here-next : 48 ≤ get_or field i 0 → get_or field i 0 ≤ 57 → digits_on limit v (drop i field) ≡ digits_on limit (v * 10 + (get_or field i 0 - 48)) (drop (i + 1) field)
  here-next l h = ap (digits_on limit v) at-hand ∙ digits-next limit v (get_or field i 0) (drop (i + 1) field) l h

  pub here-over : 48 ≤ get_or field i 0 → get_or field i 0 ≤ 57 → limit < v * 10 + (get_or field i 0 - 48) → digits_on limit v (drop i field) ≡ unread
  here-over l h o = here-next l h ∙ digits-over limit (v * 10 + (get_or field i 0 - 48)) (drop (i + 1) field) o

pub here_end : (field : Text) (i limit v : ℕ) → length field ≤ i → v ≤ limit → digits_on limit v (drop i field) ≡ reads v
here_end field i limit v h l = ap (digits_on limit v) (drop_of_length-le field {i = i} h) ∙ digits-end limit v l
