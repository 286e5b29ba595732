-- The laws of a field's number and coordinate, and of the fields that are left, read one after the other. Assumes nothing.
use Prim.Native.Nat.{ℕ, zero, suc, ◌+◌, ◌-◌, ◌*◌, ◌≤◌, ◌<◌}
use native.Mathlib.Numerals.{add-one}
use native.Mathlib.Omega.{arith}
use native.Mathlib.Decide.{dec_le, ℕ_discrete}
use mathlib.Core.Path.{◌≡◌, refl, ap, sym, ◌∙◌}
use mathlib.Core.Bool.{Bool, true, false, cond}
use mathlib.Core.List.{List, [], ◌∷◌, ◌++◌, append_assoc, append-nil}
use lib.ListN.{length, get_or, take, drop, set, replicate, length-set, take-append-drop}
use lib.Seq.{slice, slice-cons, slice_empty, length-slice, take_all, take-suc-set, drop-set-lt, length-take-le, drop-drop}
use lib.Dec.{eqb, leb}
use lib.IntN.{ℤ, pos, neg_ℤ}
use borrow.Author.Tests.{le-leb, lt-leb, ne_eqb, eq-eqb}
use Rattle.std.specs.Prelude.{Option, Some, None}
use Rattle.std.specs.Option.{option_map}
use Rattle.rules.specs.Point.{position}
use Rattle.rules.specs.Script.{Text, Reading, unread, reads, Whole, no_whole, whole, whole_of, Numbers, no_numbers, numbers, no_point, point, number_in, coordinate_in, digits_up_to, float_of, one_more, numbers_in, point_of, point_in}
use Rattle.script.specs.declared.Numbers.{Numbers as ReadNumbers}
use Rattle.script.specs.Fields.{end_of, field_at, fields_from, next_place, place_after, digits_of, offset_of, letter_of, letter_at, number_at, coordinate_at, spot_of, padded, numbers_of}
use Rattle.script.proofs.Places.{end-within, end-from, fields-first, fields-none}

pub differ : (a b : ℕ) → a ≤ b → (a ≡ b → ⊥) → a < b
differ a b l n = go (dec_le (suc a) b)
  where
    go : Dec (suc a ≤ b) → a < b
    go (yes h) = h
    go (no m) = let e : a ≡ b = omega arith in absurd (n e)

-- ---- what a field says

pub letter-is : (f : Text) → length f ≡ 1 → Some (get_or f 0 0) ≡ letter_of f
unfolding letter_of
letter-is [] h = let b : ⊥ = omega arith in absurd b
letter-is (c ∷ []) h = refl
letter-is (c ∷ d ∷ f) h = let b : ⊥ = omega arith in absurd b

pub letter-not : (f : Text) → (length f ≡ 1 → ⊥) → None ≡ letter_of f
unfolding letter_of
letter-not [] h = refl
letter-not (c ∷ []) h = absurd (h refl)
letter-not (c ∷ d ∷ f) h = refl

-- digits with their sign, as a coordinate
abbrev pub signed : Bool → Option ℕ → Option lib.Ieee.Float
signed minus d = option_map (λ v. float_of (cond minus (neg_ℤ (pos v)) (pos v))) d

signed-whole : (m : Bool) (r : Reading) → signed m (digits_of r) ≡ offset_of (whole_of m r)
unfolding offset_of whole_of digits_of
signed-whole m unread = refl
signed-whole true (reads v) = refl
signed-whole false (reads v) = refl

pub coordinate-none : (f : Text) → length f ≡ 0 → None ≡ offset_of (coordinate_in f)
unfolding offset_of coordinate_in
coordinate-none [] h = refl
coordinate-none (c ∷ f) h = let b : ⊥ = omega arith in absurd b

pub coordinate-minus : (f : Text) → (length f ≡ 0 → ⊥) → get_or f 0 0 ≡ 45 → signed true (digits_of (digits_up_to 1000000 (take (length f - 1) (drop 1 f)))) ≡ offset_of (coordinate_in f)
unfolding coordinate_in
coordinate-minus [] h e = absurd (h refl)
coordinate-minus (c ∷ f) h e = rw (eq-eqb c 45 e, take_all (suc (length f) - 1) f (omega arith)) (signed-whole true (digits_up_to 1000000 f))

pub coordinate-plain : (f : Text) → (length f ≡ 0 → ⊥) → (get_or f 0 0 ≡ 45 → ⊥) → signed false (digits_of (digits_up_to 1000000 f)) ≡ offset_of (coordinate_in f)
unfolding coordinate_in
coordinate-plain [] h e = absurd (h refl)
coordinate-plain (c ∷ f) h e = rw (ne_eqb c 45 e) (signed-whole false (digits_up_to 1000000 (c ∷ f)))

-- ---- the field at a place

pub place-in : (text : Text) (at : ℕ) → at ≤ length text → next_place text at ≡ end_of text at + 1
unfolding next_place
place-in text at h = rw (le-leb at (length text) h)

pub place-past : (text : Text) (at : ℕ) → length text < at → next_place text at ≡ at
unfolding next_place
place-past text at h = rw (lt-leb at (length text) h)

module _ (text : Text) (at : ℕ) (h : length text < at) where
  pub letter-past : None ≡ letter_at text at
  unfolding letter_at
  letter-past = rw (lt-leb at (length text) h)

  pub number_past : None ≡ number_at text at
  unfolding number_at
  number_past = rw (lt-leb at (length text) h)

  pub coordinate-past : None ≡ coordinate_at text at
  unfolding coordinate_at
  coordinate-past = rw (lt-leb at (length text) h)

module _ (text : Text) (at : ℕ) (f : Text) (h : at ≤ length text) (e : f ≡ field_at text at) where
  pub letter-here : letter_of f ≡ letter_at text at
  unfolding letter_at
  letter-here = rw (le-leb at (length text) h, e)

  pub number-here : digits_of (number_in f) ≡ number_at text at
  unfolding number_at
  number-here = rw (le-leb at (length text) h, e)

  pub coordinate-here : offset_of (coordinate_in f) ≡ coordinate_at text at
  unfolding coordinate_at
  coordinate-here = rw (le-leb at (length text) h, e)

pub field-none : (text : Text) (at : ℕ) → at ≡ end_of text at → field_at text at ≡ []
unfolding field_at
field-none text at e = rw (← e) (slice_empty at text)

-- ---- the first field that is left, and the others

abbrev pub first_whole : List Text → Whole
first_whole [] = no_whole
first_whole (f ∷ fs) = coordinate_in f

abbrev pub first_number : List Text → Reading
first_number [] = unread
first_number (f ∷ fs) = number_in f

abbrev pub rest : List Text → List Text
rest [] = []
rest (f ∷ fs) = fs

rest_from : (text : Text) (at : ℕ) → fields_from text (end_of text at + 1) ≡ rest (fields_from text at)
rest_from text at = go (dec_le at (length text))
  where
    go : Dec (at ≤ length text) → fields_from text (end_of text at + 1) ≡ rest (fields_from text at)
    go (yes h) = sym (ap rest (fields-first text at h))
    go (no n) =
        let past : length text < end_of text at + 1 = omega (arith, end-from text at) in
        let here : length text < at = omega arith in
        fields-none text (end_of text at + 1) past ∙ sym (ap rest (fields-none text at here))

rest-next : (text : Text) (at : ℕ) → fields_from text (next_place text at) ≡ rest (fields_from text at)
rest-next text at = go (dec_le at (length text))
  where
    go : Dec (at ≤ length text) → fields_from text (next_place text at) ≡ rest (fields_from text at)
    go (yes h) = ap (fields_from text) (place-in text at h) ∙ rest_from text at
    go (no n) =
        let here : length text < at = omega arith in
        ap (fields_from text) (place-past text at here) ∙ fields-none text at here ∙ sym (ap rest (fields-none text at here))

coordinate-first : (text : Text) (at : ℕ) → coordinate_at text at ≡ offset_of (first_whole (fields_from text at))
unfolding coordinate_at offset_of
coordinate-first text at = go (dec_le at (length text))
  where
    go : Dec (at ≤ length text) → coordinate_at text at ≡ offset_of (first_whole (fields_from text at))
    go (yes h) = rw (le-leb at (length text) h, fields-first text at h)
    go (no n) =
        let here : length text < at = omega arith in
        rw (lt-leb at (length text) here, fields-none text at here)

number-first : (text : Text) (at : ℕ) → number_at text at ≡ digits_of (first_number (fields_from text at))
unfolding number_at digits_of
number-first text at = go (dec_le at (length text))
  where
    go : Dec (at ≤ length text) → number_at text at ≡ digits_of (first_number (fields_from text at))
    go (yes h) = rw (le-leb at (length text) h, fields-first text at h)
    go (no n) =
        let here : length text < at = omega arith in
        rw (lt-leb at (length text) here, fields-none text at here)

-- ---- coordinates

-- a coordinate that was read at a place, and the place behind it
pub record CoordinateIs (text : Text) (at : ℕ) (x : lib.Ieee.Float) (next : ℕ) : Type 0 where
  pub size : ℤ
  pub first : first_whole (fields_from text at) ≡ whole size
  pub is : x ≡ float_of size
  pub others : fields_from text next ≡ rest (fields_from text at)

offset-is : (w : Whole) (x : lib.Ieee.Float) → Some x ≡ offset_of w → (z : ℤ) × ((w ≡ whole z) × (x ≡ float_of z))
unfolding offset_of
offset-is no_whole x e = let z : ◌≡◌ {A = ℕ} 0 1 = cc in let b : ⊥ = omega arith in absurd b
offset-is (whole z) x e = (z, (refl, cc))

offset-not : (w : Whole) → None ≡ offset_of w → w ≡ no_whole
unfolding offset_of
offset-not no_whole e = refl
offset-not (whole z) e = let z : ◌≡◌ {A = ℕ} 0 1 = cc in let b : ⊥ = omega arith in absurd b

pub coordinate-is : (text : Text) (at : ℕ) (x : lib.Ieee.Float) (next : ℕ) → Some x ≡ coordinate_at text at → next ≡ next_place text at → CoordinateIs text at x next
coordinate-is text at x next e p =
    let o = offset-is (first_whole (fields_from text at)) x (e ∙ coordinate-first text at) in
    record { size = o.0; first = o.1.0; is = o.1.1; others = ap (fields_from text) p ∙ rest-next text at }

pub coordinate-is-not : (text : Text) (at : ℕ) → None ≡ coordinate_at text at → first_whole (fields_from text at) ≡ no_whole
coordinate-is-not text at e = offset-not (first_whole (fields_from text at)) (e ∙ coordinate-first text at)

either : (b : Bool) → cond b no_point no_point ≡ no_point
either true = refl
either false = refl

second_none : (w z : Whole) → point_of w no_whole z ≡ no_point
unfolding point_of
second_none no_whole z = refl
second_none (whole x) z = refl

third-none : (w u : Whole) → point_of w u no_whole ≡ no_point
unfolding point_of
third-none no_whole u = refl
third-none (whole x) no_whole = refl
third-none (whole x) (whole y) = refl

pub no-first : (fs : List Text) → first_whole fs ≡ no_whole → point_in fs ≡ no_point
unfolding point_in point_of
no-first [] e = refl
no-first (f ∷ fs) e = rw e (either (eqb (suc (length fs)) 3))

pub no_second : (fs : List Text) → first_whole (rest fs) ≡ no_whole → point_in fs ≡ no_point
unfolding point_in
no_second [] e = refl
no_second (f ∷ []) e = refl
no_second (f ∷ g ∷ fs) e = rw (e, second_none) (either (eqb (suc (suc (length fs))) 3))

pub no_third : (fs : List Text) → first_whole (rest (rest fs)) ≡ no_whole → point_in fs ≡ no_point
unfolding point_in
no_third [] e = refl
no_third (f ∷ []) e = refl
no_third (f ∷ g ∷ []) e = refl
no_third (f ∷ g ∷ h ∷ fs) e = rw (e, third-none) (either (eqb (suc (suc (suc (length fs)))) 3))

pub too_many : (fs : List Text) (g : Text) (gs : List Text) → rest (rest (rest fs)) ≡ g ∷ gs → point_in fs ≡ no_point
unfolding point_in
too_many [] g gs e = refl
too_many (a ∷ []) g gs e = refl
too_many (a ∷ b ∷ []) g gs e = refl
too_many (a ∷ b ∷ c ∷ []) g gs e = let z : ◌≡◌ {A = ℕ} 0 1 = cc in let n : ⊥ = omega arith in absurd n
too_many (a ∷ b ∷ c ∷ d ∷ fs) g gs e = rw (ne_eqb (suc (suc (suc (suc (length fs))))) 3 (λ q. let n : ⊥ = omega arith in absurd n))

pub three : (fs : List Text) (x y z : ℤ) → first_whole fs ≡ whole x → first_whole (rest fs) ≡ whole y → first_whole (rest (rest fs)) ≡ whole z → rest (rest (rest fs)) ≡ []
    → point_in fs ≡ point (position (float_of x) (float_of y) (float_of z))
unfolding point_in point_of
three [] x y z ex ey ez e = let z : ◌≡◌ {A = ℕ} 0 1 = cc in let n : ⊥ = omega arith in absurd n
three (a ∷ []) x y z ex ey ez e = let z : ◌≡◌ {A = ℕ} 0 1 = cc in let n : ⊥ = omega arith in absurd n
three (a ∷ b ∷ []) x y z ex ey ez e = let z : ◌≡◌ {A = ℕ} 0 1 = cc in let n : ⊥ = omega arith in absurd n
three (a ∷ b ∷ c ∷ []) x y z ex ey ez e = rw (ex, ey, ez)
three (a ∷ b ∷ c ∷ d ∷ fs) x y z ex ey ez e = let z : ◌≡◌ {A = ℕ} 0 1 = cc in let n : ⊥ = omega arith in absurd n

-- what three coordinates one after the other say
module _ (text : Text) (at : ℕ) where
  pub spot-first : None ≡ coordinate_at text at → None ≡ spot_of (point_in (fields_from text at))
  unfolding spot_of
  spot-first e = sym (ap spot_of (no-first (fields_from text at) (coordinate-is-not text at e)))

  pub spot-second : (x : lib.Ieee.Float) (second : ℕ) → CoordinateIs text at x second → None ≡ coordinate_at text second → None ≡ spot_of (point_in (fields_from text at))
  unfolding spot_of
  spot-second x second o e =
      sym (ap spot_of (no_second (fields_from text at) (ap first_whole (sym o.others) ∙ coordinate-is-not text second e)))

  pub spot-third : (x y : lib.Ieee.Float) (second third : ℕ) → CoordinateIs text at x second → CoordinateIs text second y third → None ≡ coordinate_at text third
      → None ≡ spot_of (point_in (fields_from text at))
  unfolding spot_of
  spot-third x y second third o p e =
      sym (ap spot_of (no_third (fields_from text at) (ap (λ (l : List Text). first_whole (rest l)) (sym o.others) ∙ ap first_whole (sym p.others) ∙ coordinate-is-not text third e)))

  module _ (x y z : lib.Ieee.Float) (second third last : ℕ) (o : CoordinateIs text at x second) (p : CoordinateIs text second y third) (q : CoordinateIs text third z last) where
    after-three : rest (rest (rest (fields_from text at))) ≡ fields_from text last
    after-three = sym (q.others ∙ ap rest p.others ∙ ap (λ (l : List Text). rest (rest l)) o.others)

    pub spot-more : last ≤ length text → None ≡ spot_of (point_in (fields_from text at))
    unfolding spot_of
    spot-more h = sym (ap spot_of (too_many (fields_from text at) (field_at text last) (fields_from text (end_of text last + 1)) (after-three ∙ fields-first text last h)))

    pub spot_is : length text < last → Some (position x y z) ≡ spot_of (point_in (fields_from text at))
    unfolding spot_of
    spot_is h =
        rw (o.is, p.is, q.is)
        (sym (ap spot_of (three (fields_from text at) o.size p.size q.size o.first (ap first_whole (sym o.others) ∙ p.first)
        (ap (λ (l : List Text). first_whole (rest l)) (sym o.others) ∙ ap first_whole (sym p.others) ∙ q.first) (after-three ∙ fields-none text last h))))

-- ---- numbers

pub record NumberIs (text : Text) (at v next : ℕ) : Type 0 where
  pub first : first_number (fields_from text at) ≡ reads v
  pub others : fields_from text next ≡ rest (fields_from text at)
  pub here : at ≤ length text
  pub far : at + 2 ≤ next
  pub near : next ≤ length text + 1
  pub place : next ≡ end_of text at + 1

digits_is : (r : Reading) (v : ℕ) → Some v ≡ digits_of r → r ≡ reads v
unfolding digits_of
digits_is unread v e = let z : ◌≡◌ {A = ℕ} 0 1 = cc in let b : ⊥ = omega arith in absurd b
digits_is (reads w) v e = cc

digits-not : (r : Reading) → None ≡ digits_of r → r ≡ unread
unfolding digits_of
digits-not unread e = refl
digits-not (reads w) e = let z : ◌≡◌ {A = ℕ} 0 1 = cc in let b : ⊥ = omega arith in absurd b

none_in : (v : ℕ) → number_in [] ≡ reads v → ⊥
unfolding number_in digits_up_to
none_in v e = let z : ◌≡◌ {A = ℕ} 0 1 = cc in omega arith

-- a field with a number in it has a byte
pub number-far : (text : Text) (at v : ℕ) → at ≤ length text → first_number (fields_from text at) ≡ reads v → at < end_of text at
number-far text at v h e = go (ℕ_discrete at (end_of text at))
  where
    go : Dec (at ≡ end_of text at) → at < end_of text at
    go (yes q) =
        let f : number_in [] ≡ reads v = ap number_in (sym (field-none text at q)) ∙ ap first_number (sym (fields-first text at h)) ∙ e in
        absurd (none_in v f)
    go (no n) = differ at (end_of text at) (end-from text at) n

pub number_is : (text : Text) (at v next : ℕ) → at ≤ length text → Some v ≡ number_at text at → next ≡ next_place text at → NumberIs text at v next
number_is text at v next h e p =
    let f = digits_is (first_number (fields_from text at)) v (e ∙ number-first text at) in
    let q : next ≡ end_of text at + 1 = p ∙ place-in text at h in
    let l : at < end_of text at = number-far text at v h f in
    let w : end_of text at ≤ length text = end-within text at h in
    record { first = f; others = ap (fields_from text) q ∙ rest_from text at; here = h; far = omega arith; near = omega arith; place = q }

pub number-is-not : (text : Text) (at : ℕ) → None ≡ number_at text at → first_number (fields_from text at) ≡ unread
number-is-not text at e = digits-not (first_number (fields_from text at)) (e ∙ number-first text at)

-- ---- all numbers that are left, after those in hand

unfoldable pub behind : List ℕ → Numbers → Numbers
behind vs no_numbers = no_numbers
behind vs (numbers ws) = numbers (vs ++ ws)

pub behind-none : (ns : Numbers) → ns ≡ behind [] ns
unfolding behind
behind-none no_numbers = refl
behind-none (numbers ws) = refl

behind-one : (vs : List ℕ) (v : ℕ) (ns : Numbers) → behind vs (one_more (reads v) ns) ≡ behind (vs ++ (v ∷ [])) ns
unfolding behind one_more
behind-one vs v no_numbers = refl
behind-one vs v (numbers ws) = ap numbers (sym (append_assoc vs (v ∷ []) ws))

module _ (k : ℕ) where
  first_reads : (fs : List Text) (v : ℕ) → first_number fs ≡ reads v → numbers_in (take (suc k) fs) ≡ one_more (reads v) (numbers_in (take k (rest fs)))
  unfolding numbers_in
  first_reads [] v e = let z : ◌≡◌ {A = ℕ} 0 1 = cc in let b : ⊥ = omega arith in absurd b
  first_reads (f ∷ fs) v e = rw e

  first-unread : (f : Text) (fs : List Text) → number_in f ≡ unread → numbers_in (take (suc k) (f ∷ fs)) ≡ no_numbers
  unfolding numbers_in one_more
  first-unread f fs e = rw e

  numbers-next : (text : Text) (at v next : ℕ) → NumberIs text at v next
      → numbers_in (take (suc k) (fields_from text at)) ≡ one_more (reads v) (numbers_in (take k (fields_from text next)))
  numbers-next text at v next n = rw n.others (first_reads (fields_from text at) v n.first)

  numbers-unread : (text : Text) (at : ℕ) → at ≤ length text → None ≡ number_at text at → numbers_in (take (suc k) (fields_from text at)) ≡ no_numbers
  numbers-unread text at h e =
      let f : number_in (field_at text at) ≡ unread = ap first_number (sym (fields-first text at h)) ∙ number-is-not text at e in
      ap (λ (l : List Text). numbers_in (take (suc k) l)) (fields-first text at h) ∙ first-unread (field_at text at) (fields_from text (end_of text at + 1)) f

  place-next : (text : Text) (at next : ℕ) → at ≤ length text → next ≡ end_of text at + 1 → place_after (suc k) text at ≡ place_after k text next
  unfolding place_after
  place-next text at next h e = rw (le-leb at (length text) h, e)

take_none : (k : ℕ) → take {A = Text} k [] ≡ []
take_none zero = refl
take_none (suc k) = refl

numbers-end : (k : ℕ) (text : Text) (at : ℕ) → length text < at → numbers_in (take k (fields_from text at)) ≡ numbers []
unfolding numbers_in
numbers-end k text at h = rw (fields-none text at h, take_none k)

place_end : (k : ℕ) (text : Text) (at : ℕ) → length text < at → place_after k text at ≡ at
unfolding place_after
place_end zero text at h = refl
place_end (suc k) text at h = rw (lt-leb at (length text) h)

-- the place after so many fields is where the others begin
pub place-others : (k : ℕ) (text : Text) (at : ℕ) → fields_from text (place_after k text at) ≡ drop k (fields_from text at)
unfolding place_after
place-others zero text at = refl
place-others (suc k) text at = go (dec_le at (length text)) (place-others k text (end_of text at + 1))
  where
    go : Dec (at ≤ length text) → fields_from text (place_after k text (end_of text at + 1)) ≡ drop k (fields_from text (end_of text at + 1))
        → fields_from text (cond (leb at (length text)) (place_after k text (end_of text at + 1)) at) ≡ drop (suc k) (fields_from text at)
    go (yes h) e = rw (le-leb at (length text) h, fields-first text at h) e
    go (no n) e = let l : length text < at = omega arith in rw (lt-leb at (length text) l, fields-none text at l)

-- ---- numbers in hand, and those that are left: at most so many all in all

drop-replicate : (n : ℕ) → drop {A = ℕ} 1 (replicate n 0) ≡ replicate (n - 1) 0
drop-replicate zero = refl
drop-replicate (suc n) = let e : suc n - 1 ≡ n = omega arith in rw e

pub record InHand (text : Text) (from most : ℕ) (values : List ℕ) (count at : ℕ) : Type 0 where
  pub full : length values ≡ 256
  pub zeros : drop count values ≡ replicate (256 - count) 0
  pub few : count ≤ most
  pub room : count ≤ 256
  pub far : from + 2 * count ≤ at
  pub all : numbers_in (take most (fields_from text from)) ≡ behind (take count values) (numbers_in (take (most - count) (fields_from text at)))
  pub place : place_after most text from ≡ place_after (most - count) text at

pub hand-begin : (text : Text) (from most : ℕ) → InHand text from most (replicate 256 0) 0 from
hand-begin text from most =
    let z : most - 0 ≡ most = omega arith in
    record { full = refl; zeros = refl; few = omega arith; room = omega arith; far = omega arith; all = rw z (behind-none (numbers_in (take most (fields_from text from)))); place = rw z }

module _ (text : Text) (from most : ℕ) (values : List ℕ) (count at : ℕ) (h : InHand text from most values count at) where
  pub hand-room : (v next : ℕ) → NumberIs text at v next → length text ≤ 512 → count < 256
  hand-room v next n s = omega (arith, h.far, n.far, n.near)

  pub hand-more : (v next : ℕ) → NumberIs text at v next → count < 256 → (count ≡ most → ⊥) → InHand text from most (set values count v) (count + 1) next
  hand-more v next n room other =
      let lt : count < most = differ count most h.few other in
      let k : most - count ≡ suc (most - (count + 1)) = omega arith in
      let i : count < length values = omega (arith, h.full) in
      let e : 256 - count - 1 ≡ 256 - (count + 1) = omega arith in
      record {
        full = length-set values count v ∙ h.full;
        zeros =
            drop-set-lt (count + 1) values count v (omega arith) ∙ sym (drop-drop 1 count values) ∙ ap (drop 1) h.zeros ∙ drop-replicate (256 - count) ∙ rw e;
        few = omega arith;
        room = omega arith;
        far = omega (arith, h.far, n.far);
        all =
            h.all ∙ ap (λ (m : ℕ). behind (take count values) (numbers_in (take m (fields_from text at)))) k
            ∙ ap (behind (take count values)) (numbers-next (most - (count + 1)) text at v next n)
            ∙ behind-one (take count values) v (numbers_in (take (most - (count + 1)) (fields_from text next)))
            ∙ rw (add-one count, take-suc-set values count v i);
        place = h.place ∙ ap (λ (m : ℕ). place_after m text at) k ∙ place-next (most - (count + 1)) text at next n.here n.place;
      }

  pub hand-unread : at ≤ length text → None ≡ number_at text at → (count ≡ most → ⊥) → None ≡ numbers_of (numbers_in (take most (fields_from text from)))
  unfolding numbers_of behind
  hand-unread l e other =
      let lt : count < most = differ count most h.few other in
      let k : most - count ≡ suc (most - (count + 1)) = omega arith in
      rw (h.all, k, numbers-unread (most - (count + 1)) text at l e)

  hand-done : numbers_in (take (most - count) (fields_from text at)) ≡ numbers []
      → ◌≡◌ {A = Option ReadNumbers} (Some (record { values = values; count = count })) (numbers_of (numbers_in (take most (fields_from text from))))
  unfolding numbers_of behind padded
  hand-done e =
      let n : length (take count values) ≡ count = length-take-le count values (omega (arith, h.full, h.room)) in
      rw (h.all, e, append-nil (take count values), n, ← h.zeros, take-append-drop count values)

  pub hand-full : count ≡ most → ◌≡◌ {A = Option ReadNumbers} (Some (record { values = values; count = count })) (numbers_of (numbers_in (take most (fields_from text from))))
  unfolding numbers_in
  hand-full e = let z : most - count ≡ 0 = omega arith in hand-done (rw z)

  pub hand_end : length text < at → ◌≡◌ {A = Option ReadNumbers} (Some (record { values = values; count = count })) (numbers_of (numbers_in (take most (fields_from text from))))
  hand_end l = hand-done (numbers-end (most - count) text at l)

  pub place-full : count ≡ most → at ≡ place_after most text from
  unfolding place_after
  place-full e = let z : most - count ≡ 0 = omega arith in sym (rw (h.place, z))

  pub place-past-end : length text < at → at ≡ place_after most text from
  place-past-end l = sym (h.place ∙ place_end (most - count) text at l)
