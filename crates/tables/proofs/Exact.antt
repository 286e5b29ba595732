-- The exact case of a sum: where the exact sum of two finite doubles is a double, `add binary64` is that double (`exact-sum`).
-- So whole numbers within ±1,000,000, which the script program reads, are shifted exactly (`whole_sum`, `whole-shift`). Assumes nothing.
use Prim.Native.Nat.{ℕ, zero, suc, ◌+◌, ◌-◌, ◌*◌, ◌/◌, ◌%◌, ◌^◌, ◌≤◌, ◌<◌}
use native.Mathlib.Nat.{mul_assoc, mul_comm, mul_right_comm, mul-one, zero-mul, add_comm, add-mul, mul-sub, eq_of_mul-eq-mul_right, mul-lt-mul_of_pos_right, lt_of_mul-lt-mul_right, mul-pos, lt_of_lt_of_le}
use native.Mathlib.Omega.{arith}
use native.Mathlib.Decide.{dec_lt}
use mathlib.Core.Path.{◌≡◌, refl, sym, ap, subst, ◌∙◌}
use mathlib.Core.Bool.{Bool, true, false, ◌&&◌, beq, cond}
use lib.IntN.{ℤ, pos, negsuc, nat_abs, ◌+ℤ◌}
use lib.Dec.{T, leb, ltb, eqb, ltb→lt, leb→le, le→leb, lt→ltb}
use lib.Pow.{pow-add, pow_pos, pow_mono, pow-lt, shl_lt}
use lib.Ieee.{Float, nan, inf, fin, Format, binary64, prec, emax, low, up, down, round, sum, add, of_int, in_float, fits, of_bits, to_bits}
use lib.Ieee.Digits.{back}
use lib.Ieee.Exact.{HasValue, round_exact}
use lib.Ieee.Back.{round_whole}
use lib.Ieee.Bits.{of_bits-to_bits}
use lib.Ieee.Fits.{and_l, and_r, down_pos, reach, round-fits}
use lib.Ieee.Nearest.{div_same}
use lib.Ieee.Scale.{round_same}
use borrow.Author.Tests.{lt-ltb, le-ltb, ltb-true, ltb-false}
use Rattle.rules.specs.declared.Move.TheVariants.{Shift}
use Rattle.rules.specs.Point.{position, moved}
use Rattle.tables.specs.Exact.{sum_sign, sum_size}

-- ---- the exact sum, whatever its fraction is written with

sub-mul : (m n k : ℕ) → (m - n) * k ≡ m * k - n * k
sub-mul m n k = mul_comm (m - n) k ∙ mul-sub k m n ∙ rw (mul_comm k m, mul_comm k n)

-- A / C is a / c, and B / C is b / c
module _ (A B C a b c : ℕ) (eA : A * c ≡ a * C) (eB : B * c ≡ b * C) (pC : 0 < C) (pc : 0 < c) where
  same-less : A < B → a < b
  same-less l =
      let h : A * c < B * c = mul-lt-mul_of_pos_right l pc in
      let k : a * C < b * C = rw (eA, eB) at h in
      lt_of_mul-lt-mul_right C k

  same-sums : (A + B) * c ≡ (a + b) * C
  same-sums = rw (add-mul A B c, add-mul a b C, eA, eB)

  same-differences : (A - B) * c ≡ (a - b) * C
  same-differences = rw (sub-mul A B c, sub-mul a b C, eA, eB)

same_test : (A B C a b c : ℕ) → A * c ≡ a * C → B * c ≡ b * C → 0 < C → 0 < c → ltb A B ≡ ltb a b
same_test A B C a b c eA eB pC pc = go (dec_lt A B)
  where
    go : Dec (A < B) → ltb A B ≡ ltb a b
    go (yes l) = lt-ltb A B l ∙ sym (lt-ltb a b (same-less A B C a b c eA eB pC pc l))
    go (no n) = le-ltb A B (omega arith) ∙ sym (le-ltb a b (not-less (dec_lt a b)))
      where
        not-less : Dec (a < b) → b ≤ a
        not-less (yes l) = let z : ⊥ = n (same-less a b c A B C (sym eA) (sym eB) pc pC l) in absurd z
        not-less (no m) = omega arith

same_sum : (f : Format) (s t : Bool) (A B C a b c : ℕ) → A * c ≡ a * C → B * c ≡ b * C → 0 < C → 0 < c → sum f s A t B C ≡ sum f s a t b c
unfolding sum
same_sum f s t A B C a b c eA eB pC pc =
    rw (
      same_test A B C a b c eA eB pC pc,
      same_test B A C b a c eB eA pC pc,
      round_same f s (A + B) C (a + b) c pC pc (same-sums A B C a b c eA eB pC pc),
      round_same f t (B - A) C (b - a) c pC pc (same-differences B A C b a c eB eA pC pc),
      round_same f (s && ltb b a) (A - B) C (a - b) c pC pc (same-differences A B C a b c eA eB pC pc),
    )

sum_is : (f : Format) (s t : Bool) (a b c : ℕ) → sum f s a t b c ≡ round f (sum_sign s a t b) (sum_size s a t b) c
unfolding sum sum_sign sum_size
sum_is f s t a b c = go (beq s t) (ltb a b)
  where
    go : (p q : Bool) → cond p (round f s (a + b) c) (cond q (round f t (b - a) c) (round f (s && ltb b a) (a - b) c))
        ≡ round f (cond p s (cond q t (s && ltb b a))) (cond p (a + b) (cond q (b - a) (a - b))) c
    go true q = refl
    go false true = refl
    go false false = refl

-- over the denominator of both
crossed : (m u n a c d : ℕ) → m * u * c ≡ a * n → m * u * d * c ≡ a * (n * d)
crossed m u n a c d h = mul_right_comm (m * u) d c ∙ ap (λ (x : ℕ). x * d) h ∙ mul_assoc a n d

-- a sum of two finite numbers is the exact sum, rounded once
pub rounded-once : (f : Format) (x y : Float) (s t : Bool) (a b c : ℕ) → 0 < c → HasValue x s a c → HasValue y t b c
    → add f x y ≡ round f (sum_sign s a t b) (sum_size s a t b) c
unfolding add
rounded-once f nan y s t a b c p v w = absurd v
rounded-once f (inf i) y s t a b c p v w = absurd v
rounded-once f (fin i m e) nan s t a b c p v w = absurd w
rounded-once f (fin i m e) (inf j) s t a b c p v w = absurd w
rounded-once f (fin i m e) (fin j n d) s t a b c p v w =
    let C = down e * down d in
    let eA : m * up e * down d * c ≡ a * C = crossed m (up e) (down e) a c (down d) v.1 in
    let eB : n * up d * down e * c ≡ b * C = crossed n (up d) (down d) b c (down e) w.1 ∙ ap (λ (x : ℕ). b * x) (mul_comm (down d) (down e)) in
    rw (v.0, w.0) (same_sum f s t (m * up e * down d) (n * up d * down e) C a b c eA eB (mul-pos (down_pos e) (down_pos d)) p ∙ sum_is f s t a b c)

-- ---- a number that the format holds is written in one way, and rounds to itself

pub value-unique : (f : Format) (x y : Float) (s : Bool) (a c : ℕ) → 0 < c → T (fits f x) → T (fits f y) → HasValue x s a c → HasValue y s a c → x ≡ y
unfolding to_bits
value-unique f nan y s a c p hx hy v w = absurd v
value-unique f (inf i) y s a c p hx hy v w = absurd v
value-unique f (fin i m e) nan s a c p hx hy v w = absurd w
value-unique f (fin i m e) (inf j) s a c p hx hy v w = absurd w
value-unique f (fin i m e) (fin j n d) s a c p hx hy v w =
    sym (of_bits-to_bits f (fin i m e) hx) ∙ ap (of_bits f) bits ∙ of_bits-to_bits f (fin j n d) hy
  where
    over : m * up e * down d ≡ n * up d * down e
    over = eq_of_mul-eq-mul_right c p (m * up e * down d) (n * up d * down e)
        (crossed m (up e) (down e) a c (down d) v.1
        ∙ ap (λ (x : ℕ). a * x) (mul_comm (down e) (down d))
        ∙ sym (crossed n (up d) (down d) a c (down e) w.1))

    units : m * up e * 2 ^ low f / down e ≡ n * up d * 2 ^ low f / down d
    units = div_same (m * up e * 2 ^ low f) (down e) (n * up d * 2 ^ low f) (down d) (down_pos e) (down_pos d)
        (mul_right_comm (m * up e) (2 ^ low f) (down d) ∙ ap (λ (x : ℕ). x * 2 ^ low f) over ∙ mul_right_comm (n * up d) (down e) (2 ^ low f))

    bits : to_bits f (fin i m e) ≡ to_bits f (fin j n d)
    bits = rw (v.0, w.0, units)

within_low : (p l : ℕ) → 2 ^ p ≤ 2 ^ l → p ≤ l
within_low p l h = go (dec_lt l p)
  where
    go : Dec (l < p) → p ≤ l
    go (yes k) = let z : 2 ^ l < 2 ^ p = pow-lt k in omega arith
    go (no n) = omega arith

-- what a number that fits says of itself
module _ (f : Format) (m : ℕ) (k : ℤ) (h : T (eqb (suc m % 2) 1 && ltb (suc m) (2 ^ prec f) && leb (down k) (2 ^ low f) && ltb (suc m * up k) (2 ^ suc (emax f) * down k))) where
  is-fine : T (eqb (suc m % 2) 1 && ltb (suc m) (2 ^ prec f) && leb (down k) (2 ^ low f))
  is-fine = and_l (eqb (suc m % 2) 1 && ltb (suc m) (2 ^ prec f) && leb (down k) (2 ^ low f)) (ltb (suc m * up k) (2 ^ suc (emax f) * down k)) h

  digits : suc m < 2 ^ prec f
  digits =
      ltb→lt (suc m) (2 ^ prec f)
      (and_r (eqb (suc m % 2) 1) (ltb (suc m) (2 ^ prec f)) (and_l (eqb (suc m % 2) 1 && ltb (suc m) (2 ^ prec f)) (leb (down k) (2 ^ low f)) is-fine))

  fineness : down k ≤ 2 ^ low f
  fineness = leb→le (down k) (2 ^ low f) (and_r (eqb (suc m % 2) 1 && ltb (suc m) (2 ^ prec f)) (leb (down k) (2 ^ low f)) is-fine)

  bound : suc m * up k < 2 ^ suc (emax f) * down k
  bound =
      ltb→lt (suc m * up k) (2 ^ suc (emax f) * down k)
      (and_r (eqb (suc m % 2) 1 && ltb (suc m) (2 ^ prec f) && leb (down k) (2 ^ low f)) (ltb (suc m * up k) (2 ^ suc (emax f) * down k)) h)

own_value : (f : Format) (s : Bool) (q : ℕ) (k : ℤ) → T (fits f (fin s q k)) → HasValue (round f s (q * up k) (down k)) s (q * up k) (down k)
unfolding fits
own_value f s zero k h =
    round_exact f s (zero * up k) (down k) 0 0 (down_pos k) (pow_pos (prec f)) (pow_pos (low f + suc (emax f)))
    (rw (zero-mul (up k)) (zero-mul (2 ^ low f) ∙ sym (zero-mul (down k))))
own_value f s (suc m) (pos p) h =
    let small : suc m < 2 ^ prec f = digits f m (pos p) h in
    let below : suc m * 2 ^ p < 2 ^ suc (emax f) = rw (mul-one (2 ^ suc (emax f))) at (bound f m (pos p) h) in
    let shift : suc m * 2 ^ (p + low f) ≡ suc m * 2 ^ p * 2 ^ low f = ap (λ (x : ℕ). suc m * x) (pow-add 2 p (low f)) ∙ sym (mul_assoc (suc m) (2 ^ p) (2 ^ low f)) in
    let room : suc m * 2 ^ p * 2 ^ low f < 2 ^ (suc (emax f) + low f) = shl_lt (suc (emax f)) (low f) below in
    round_exact f s (suc m * 2 ^ p) 1 (suc m) (p + low f) (omega arith) small
    (subst (λ (x : ℕ). x < 2 ^ (low f + suc (emax f))) (sym shift) (subst (λ (x : ℕ). suc m * 2 ^ p * 2 ^ low f < 2 ^ x) (add_comm (suc (emax f)) (low f)) room))
    (sym shift ∙ sym (mul-one (suc m * 2 ^ (p + low f))))
own_value f s (suc m) (negsuc p) h =
    let small : suc m < 2 ^ prec f = digits f m (negsuc p) h in
    let within : suc p ≤ low f = within_low (suc p) (low f) (fineness f m (negsuc p) h) in
    let reaches : prec f ≤ suc (emax f) = reach f in
    round_exact f s (suc m * 1) (2 ^ suc p) (suc m) (low f - suc p) (pow_pos (suc p)) small
    (lt_of_lt_of_le (shl_lt (prec f) (low f - suc p) small) (pow_mono (room (low f) (prec f) (suc (emax f)) (suc p) reaches)))
    (ap (λ (x : ℕ). x * 2 ^ low f) (mul-one (suc m)) ∙ ap (λ (x : ℕ). suc m * 2 ^ x) (sym (back (low f) (suc p) within)) ∙ ap (λ (x : ℕ). suc m * x) (pow-add 2 (low f - suc p) (suc p)) ∙ sym (mul_assoc (suc m) (2 ^ (low f - suc p)) (2 ^ suc p)))
  where
    room : (l p e k : ℕ) → p ≤ e → p + (l - k) ≤ l + e
    room l p e k h = omega arith

pub rounds-to : (f : Format) (z : Float) (s : Bool) (a c : ℕ) → 0 < c → T (fits f z) → HasValue z s a c → round f s a c ≡ z
rounds-to f nan s a c p h v = absurd v
rounds-to f (inf i) s a c p h v = absurd v
rounds-to f (fin i q k) s a c p h v =
    let is : round f i a c ≡ round f i (q * up k) (down k) = round_same f i a c (q * up k) (down k) p (down_pos k) (sym v.1) in
    rw (← v.0) (is ∙ value-unique f (round f i (q * up k) (down k)) (fin i q k) i (q * up k) (down k) (down_pos k) (round-fits f i (q * up k) (down k)) h (own_value f i q k h) (refl, refl))

-- ---- the law

-- x is ±a / c, y is ±b / c, and z, which the format holds, is exactly their sum: then z is what the addition gives
pub exact-sum : (x y z : Float) (s t : Bool) (a b c : ℕ) → 0 < c → HasValue x s a c → HasValue y t b c
    → T (fits binary64 z) → HasValue z (sum_sign s a t b) (sum_size s a t b) c → add binary64 x y ≡ z
exact-sum x y z s t a b c p v w h is =
    rounded-once binary64 x y s t a b c p v w ∙ rounds-to binary64 z (sum_sign s a t b) (sum_size s a t b) c p h is

-- ---- whole numbers

-- of_int gives a number's own value as long as it has no more than 53 binary digits
module _ (f : Format) where
  whole-and-whole : (s t : Bool) (x y : ℕ) → x ≤ 2 ^ prec f → y ≤ 2 ^ prec f
      → add f (round f s x 1) (round f t y 1) ≡ round f (sum_sign s x t y) (sum_size s x t y) 1
  whole-and-whole s t x y hx hy =
      rounded-once f (round f s x 1) (round f t y 1) s t x y 1 (omega arith) (round_whole f s x hx) (round_whole f t y hy)

  -- x less y, where y is not 0: by which of the two is larger
  differ : (x y : ℕ) (b : Bool) → ltb x (suc y) ≡ b
      → round f (cond b true (false && ltb (suc y) x)) (cond b (suc y - x) (x - suc y)) 1 ≡ of_int f (cond b (negsuc (suc y - suc x)) (pos (x - suc y)))
  unfolding of_int
  differ x y true e =
      let l : x < suc y = ltb-true x (suc y) e in
      let k : suc y - x ≡ suc (suc y - suc x) = omega arith in
      rw k
  differ x y false e = refl

  pub whole_sum : (a b : ℤ) → T (in_float f a) → T (in_float f b) → add f (of_int f a) (of_int f b) ≡ of_int f (a +ℤ b)
  unfolding of_int in_float sum_sign sum_size
  whole_sum (pos x) (pos y) ha hb = whole-and-whole false false x y (leb→le x (2 ^ prec f) ha) (leb→le y (2 ^ prec f) hb)
  whole_sum (pos x) (negsuc y) ha hb =
      whole-and-whole false true x (suc y) (leb→le x (2 ^ prec f) ha) (ltb→lt y (2 ^ prec f) hb) ∙ differ x y (ltb x (suc y)) refl
  whole_sum (negsuc x) (pos y) ha hb =
      whole-and-whole true false (suc x) y (ltb→lt x (2 ^ prec f) ha) (leb→le y (2 ^ prec f) hb) ∙ turned (ltb (suc x) y) (ltb y (suc x)) refl refl
    where
      turned : (p q : Bool) → ltb (suc x) y ≡ p → ltb y (suc x) ≡ q
          → round f (cond p false (true && q)) (cond p (y - suc x) (suc x - y)) 1 ≡ of_int f (cond q (negsuc (suc x - suc y)) (pos (y - suc x)))
      turned true true ep eq =
          let l : suc x < y = ltb-true (suc x) y ep in
          let k : y < suc x = ltb-true y (suc x) eq in
          let z : ⊥ = omega arith in
          absurd z
      turned true false ep eq = refl
      turned false true ep eq =
          let l : y < suc x = ltb-true y (suc x) eq in
          let k : suc x - y ≡ suc (suc x - suc y) = omega arith in
          rw k
      turned false false ep eq =
          let l : y ≤ suc x = ltb-false (suc x) y ep in
          let m : suc x ≤ y = ltb-false y (suc x) eq in
          let k : suc x - y ≡ y - suc x = omega arith in
          rw k
  whole_sum (negsuc x) (negsuc y) ha hb =
      let k : suc x + suc y ≡ suc (suc (x + y)) = omega arith in
      whole-and-whole true true (suc x) (suc y) (ltb→lt x (2 ^ prec f) ha) (ltb→lt y (2 ^ prec f) hb) ∙ rw k

-- a coordinate or an offset of the script program
abbrev pub Coordinate : ℤ → Type 0
Coordinate a = nat_abs a ≤ 1000000

coordinate-fits : (a : ℤ) → Coordinate a → T (in_float binary64 a)
unfolding in_float
coordinate-fits (pos n) h = le→leb n (2 ^ 53) (omega arith)
coordinate-fits (negsuc n) h = lt→ltb n (2 ^ 53) (omega arith)

pub coordinate-sum : (a b : ℤ) → Coordinate a → Coordinate b → add binary64 (of_int binary64 a) (of_int binary64 b) ≡ of_int binary64 (a +ℤ b)
coordinate-sum a b ha hb = whole_sum binary64 a b (coordinate-fits a ha) (coordinate-fits b hb)

-- a position of whole coordinates, shifted by whole offsets, is the position of the sums
module _ (x y z dx dy dz : ℤ) (hx : Coordinate x) (hy : Coordinate y) (hz : Coordinate z) (kx : Coordinate dx) (ky : Coordinate dy) (kz : Coordinate dz) where
  pub whole-shift : moved (position (of_int binary64 x) (of_int binary64 y) (of_int binary64 z)) (Shift (of_int binary64 dx) (of_int binary64 dy) (of_int binary64 dz))
      ≡ position (of_int binary64 (x +ℤ dx)) (of_int binary64 (y +ℤ dy)) (of_int binary64 (z +ℤ dz))
  unfolding moved
  whole-shift = rw (coordinate-sum x dx hx kx, coordinate-sum y dy hy ky, coordinate-sum z dz hz kz)
