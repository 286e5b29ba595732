-- The laws of the places of a line: where a field ends, and that the fields from a place on are the field there and those after it.
-- Assumes nothing.
use Prim.Native.Nat.{ℕ, zero, suc, ◌+◌, ◌-◌, ◌≤◌, ◌<◌}
use native.Mathlib.Numerals.{add-one}
use native.Mathlib.Omega.{arith}
use native.Mathlib.Decide.{dec_le, dec_lt}
use mathlib.Core.Path.{◌≡◌, refl, ap, sym, ◌∙◌}
use mathlib.Core.Bool.{Bool, true, false, cond}
use mathlib.Core.List.{List, [], ◌∷◌}
use lib.ListN.{length, get_or, take, drop, length-drop, drop_of_length-le}
use lib.Seq.{drop-cons, drop-drop, take_all, length-take-le}
use lib.Dec.{eqb, leb}
use borrow.Author.Tests.{le-leb, lt-leb, le-ltb, lt-ltb}
use Rattle.std.specs.Prelude.{◌==◌, Option}
use Rattle.std.specs.Option.{unwrap_or}
use Rattle.std.specs.List.{position, position_or_len}
use Rattle.std.proofs.lemmas.List.Recursion.{is_position_or_len}
use Rattle.rules.specs.Script.{Text, space, parts_at, with_head}
use Rattle.script.specs.Fields.{word_length, end_of, field_at, fields_from}

-- ---- where a field ends

word-first : (cs : Text) → word_length cs ≡ position_or_len (λ b. b == 32) cs
unfolding word_length
word-first cs = is_position_or_len word_length (λ b. b == 32) refl (λ x xs. let e : suc (word_length xs) ≡ 1 + word_length xs = omega arith in rw e) cs

pub word-le : (cs : Text) → word_length cs ≤ length cs
unfolding word_length
word-le [] = omega arith
word-le (c ∷ cs) = go (eqb c space) (word-le cs)
  where
    go : (b : Bool) → word_length cs ≤ length cs → cond b 0 (suc (word_length cs)) ≤ suc (length cs)
    go true h = omega arith
    go false h = omega arith

pub end-within : (text : Text) (at : ℕ) → at ≤ length text → end_of text at ≤ length text
unfolding end_of
end-within text at h = omega (arith, word-le (drop at text), length-drop at text)

pub end-from : (text : Text) (at : ℕ) → at ≤ end_of text at
unfolding end_of
end-from text at = omega arith

-- as the code finds it
word-found : (cs : Text) → unwrap_or (position (λ b. b == 32) cs) (length cs) ≡ word_length cs
word-found cs = go (dec_lt (position_or_len (λ b. b == 32) cs) (length cs))
  where
    go : Dec (position_or_len (λ b. b == 32) cs < length cs) → unwrap_or (position (λ b. b == 32) cs) (length cs) ≡ word_length cs
    go (yes h) = rw (lt-ltb (position_or_len (λ b. b == 32) cs) (length cs) h) (sym (word-first cs))
    go (no n) =
        let l : length cs ≤ position_or_len (λ b. b == 32) cs = omega arith in
        rw (le-ltb (position_or_len (λ b. b == 32) cs) (length cs) l) (omega (arith, word-le cs, word-first cs))

-- ---- tests that agree

pub same-leb : (a b c d : ℕ) → (a ≤ b → c ≤ d) → (c ≤ d → a ≤ b) → leb a b ≡ leb c d
same-leb a b c d f g = go (dec_le a b)
  where
    go : Dec (a ≤ b) → leb a b ≡ leb c d
    go (yes h) = le-leb a b h ∙ sym (le-leb c d (f h))
    go (no n) = lt-leb a b (omega arith) ∙ sym (lt-leb c d (not-le (dec_le c d)))
      where
        not-le : Dec (c ≤ d) → d < c
        not-le (yes h) = absurd (n (g h))
        not-le (no m) = omega arith

-- ---- the first field, and those after it

fields-cons : (c : ℕ) (cs : Text) (n : ℕ) → fields_from (c ∷ cs) (suc n) ≡ fields_from cs n
unfolding fields_from
fields-cons c cs n = rw (same-leb (suc n) (suc (length cs)) n (length cs) (λ h. omega arith) (λ h. omega arith))

fields-zero : (cs : Text) → fields_from cs 0 ≡ parts_at space cs
unfolding fields_from
fields-zero cs = rw (le-leb 0 (length cs) (omega arith))

parts_first : (cs : Text) → parts_at space cs ≡ take (word_length cs) cs ∷ fields_from cs (suc (word_length cs))
unfolding word_length parts_at with_head fields_from
parts_first [] = refl
parts_first (c ∷ cs) = go (eqb c space) (parts_first cs)
  where
    go : (b : Bool) → parts_at space cs ≡ take (word_length cs) cs ∷ fields_from cs (suc (word_length cs))
        → cond b ([] ∷ parts_at space cs) (with_head c (parts_at space cs))
        ≡ take (cond b 0 (suc (word_length cs))) (c ∷ cs) ∷ fields_from (c ∷ cs) (suc (cond b 0 (suc (word_length cs))))
    go true e = ap (λ (l : List Text). [] ∷ l) (sym (fields-cons c cs 0 ∙ fields-zero cs))
    go false e = ap (with_head c) e ∙ ap (λ (l : List Text). (c ∷ take (word_length cs) cs) ∷ l) (sym (fields-cons c cs (suc (word_length cs))))

pub drop-take : (n w : ℕ) (l : Text) → take w (drop n l) ≡ drop n (take (n + w) l)
drop-take zero w l = ap (λ (k : ℕ). take k l) (zero-plus w)
  where
    zero-plus : (w : ℕ) → w ≡ zero + w
    zero-plus w = omega arith
drop-take (suc n) w [] = nothing w
  where
    nothing : (w : ℕ) → ◌≡◌ {A = Text} (take w []) (drop (suc n) (take (suc n + w) []))
    nothing w = taken w ∙ sym (ap (drop (suc n)) (taken (suc n + w)))
      where
        taken : (w : ℕ) → ◌≡◌ {A = Text} (take w []) []
        taken zero = refl
        taken (suc w) = refl
drop-take (suc n) w (x ∷ l) =
    let e : suc n + w ≡ suc (n + w) = omega arith in
    rw e (drop-take n w l)

fields-drop : (text : Text) (at w : ℕ) → fields_from (drop at text) (suc w) ≡ fields_from text (at + w + 1)
unfolding fields_from
fields-drop text at w =
    let e : at + suc w ≡ at + w + 1 = omega arith in
    rw (drop-drop (suc w) at text, e, length-drop at text, same-leb (suc w) (length text - at) (at + w + 1) (length text) (λ h. omega arith) (λ h. omega arith))

pub fields-here : (text : Text) (at : ℕ) → at ≤ length text → fields_from text at ≡ parts_at space (drop at text)
unfolding fields_from
fields-here text at h = rw (le-leb at (length text) h)

pub fields-first : (text : Text) (at : ℕ) → at ≤ length text → fields_from text at ≡ field_at text at ∷ fields_from text (end_of text at + 1)
unfolding field_at end_of
fields-first text at h =
    fields-here text at h ∙ parts_first (drop at text) ∙ rw (drop-take at (word_length (drop at text)) text, fields-drop text at (word_length (drop at text)))

pub fields-none : (text : Text) (at : ℕ) → length text < at → fields_from text at ≡ []
unfolding fields_from
fields-none text at h = rw (lt-leb at (length text) h)

-- ---- the field at a place, cut out of the line

module _ (text : Text) (at n : ℕ) (h : at ≤ length text) (o : Option ℕ)
    (f : o ≡ position (λ b. b == 32) (take (length text - at) (drop at text))) (e : n ≡ unwrap_or o (length (take (length text - at) (drop at text)))) where
  rest-all : take (length text - at) (drop at text) ≡ drop at text
  rest-all = take_all (length text - at) (drop at text) (omega (arith, length-drop at text))

  word-is : n ≡ word_length (drop at text)
  word-is = rw f at e ∙ word-found (take (length text - at) (drop at text)) ∙ ap word_length rest-all

  pub word-within : at + n ≤ length text
  word-within = omega (arith, word-is, word-le (drop at text), length-drop at text)

  pub word-end : at + (n + 1) ≡ end_of text at + 1
  unfolding end_of
  word-end = omega (arith, word-is)

  pub word-field : take n (take (length text - at) (drop at text)) ≡ field_at text at
  unfolding field_at end_of
  word-field = rw (rest-all, word-is) (drop-take at (word_length (drop at text)) text)

  pub word-long : n ≡ length (take n (take (length text - at) (drop at text)))
  word-long = sym (length-take-le n (take (length text - at) (drop at text)) (rw rest-all (omega (arith, word-is, word-le (drop at text)))))
