-- Texts in lent bytes, one after the other: a number of four bytes or of eight, and numbers in a row.
use Prim.Native.Nat.{ℕ, suc, ◌+◌, ◌*◌, ◌/◌, ◌%◌, ◌≤◌, ◌<◌}
use native.Mathlib.Numerals.{add-one}
use native.Mathlib.Omega.{arith}
use mathlib.Core.Path.{◌≡◌, refl, ap, sym, ◌∙◌}
use mathlib.Core.List.{List, [], ◌∷◌, ◌++◌, append_assoc}
use lib.ListN.{length, get_or, set, take, drop, length-set, drop_of_length-le}
use lib.Seq.{sets, sets-eq, drop-cons, drop-drop}
use borrow.Rule.Slice.PartMut.{put_mid}
use Rattle.rules.specs.Script.{Text}
use Rattle.file.specs.File.{cell_text, wrote}
use Rattle.file.proofs.Cells.{cell-length}
use Rattle.writes.specs.Writing.{put_text, words_text}

-- ---- one text after the other

pub put-none : (out : Text) (at : ℕ) → put_text out at [] ≡ out
unfolding put_text
put-none out at = refl

pub put-length : (out : Text) (at : ℕ) (t : Text) → length (put_text out at t) ≡ length out
unfolding put_text
put-length out at [] = refl
put-length out at (b ∷ t) = put-length (set out at b) (suc at) t ∙ length-set out at b

pub put-append : (out : Text) (at : ℕ) (t u : Text) → put_text out at (t ++ u) ≡ put_text (put_text out at t) (at + length t) u
unfolding put_text
put-append out at [] u = let e : at + 0 ≡ at = omega arith in rw e
put-append out at (b ∷ t) u = let e : at + suc (length t) ≡ suc at + length t = omega arith in rw e (put-append (set out at b) (suc at) t u)

-- what is left of a text, where its first part is put
pub put_on : (whole out out' : Text) (at at' : ℕ) (t u : Text) → whole ≡ put_text out at (t ++ u) → out' ≡ put_text out at t → at' ≡ at + length t
    → whole ≡ put_text out' at' u
put_on whole out out' at at' t u e f g = e ∙ put-append out at t u ∙ ap (λ (o : Text). put_text o (at + length t) u) (sym f) ∙ ap (λ (k : ℕ). put_text out' k u) (sym g)

pub put_then : (out out' out'' : Text) (at at' : ℕ) (t u : Text) → out' ≡ put_text out at t → at' ≡ at + length t → out'' ≡ put_text out' at' u
    → out'' ≡ put_text out at (t ++ u)
put_then out out' out'' at at' t u e g f =
    f ∙ ap (λ (k : ℕ). put_text out' k u) g ∙ ap (λ (o : Text). put_text o (at + length t) u) e ∙ sym (put-append out at t u)

-- over the first bytes
put-sets : (out : Text) (at : ℕ) (t : Text) → put_text out at t ≡ sets out at t
unfolding put_text
put-sets out at [] = refl
put-sets out at (b ∷ t) = put-sets (set out at b) (suc at) t

pub put_whole : (out t : Text) → length t ≤ length out → put_text out 0 t ≡ wrote out t
unfolding wrote
put_whole out t h =
    let fits : 0 + length t ≤ length out = omega arith in
    let none : 0 + length t ≡ length t = omega arith in
    put-sets out 0 t ∙ sets-eq t out 0 fits ∙ ap (λ (k : ℕ). t ++ drop k out) none

-- a part of the bytes, written over
pub put_part : (out t part : Text) (at k : ℕ) → at + length t ≤ length out → k ≡ length t → part ≡ t → put_mid at k out part ≡ put_text out at t
put_part out t part at k h e g =
    rw (e, g)
    (ap (λ (r : Text). take at out ++ (t ++ r)) (drop-drop (length t) at out)
    ∙ sym (put-sets out at t ∙ sets-eq t out at h ∙ append_assoc (take at out) t (drop (at + length t) out)))

-- ---- numbers, low byte first

pub four-bytes : (n : ℕ) → n % 256 ∷ n / 256 % 256 ∷ n / 65536 % 256 ∷ n / 16777216 % 256 ∷ [] ≡ cell_text 4 n
unfolding cell_text
four-bytes n =
    let third : n / 65536 ≡ n / 256 / 256 = omega arith in
    let fourth : n / 16777216 ≡ n / 256 / 256 / 256 = omega arith in
    rw (third, fourth)

pub eight-bytes : (n : ℕ)
    → n % 256
    ∷ n / 256 % 256
    ∷ n / 65536 % 256
    ∷ n / 16777216 % 256
    ∷ n / 4294967296 % 256
    ∷ n / 1099511627776 % 256
    ∷ n / 281474976710656 % 256
    ∷ n / 72057594037927936 % 256
    ∷ []
    ≡ cell_text 8 n
unfolding cell_text
eight-bytes n =
    let second : n / 65536 ≡ n / 256 / 256 = omega arith in
    let third : n / 16777216 ≡ n / 256 / 256 / 256 = omega arith in
    let fourth : n / 4294967296 ≡ n / 256 / 256 / 256 / 256 = omega arith in
    let fifth : n / 1099511627776 ≡ n / 256 / 256 / 256 / 256 / 256 = omega arith in
    let sixth : n / 281474976710656 ≡ n / 256 / 256 / 256 / 256 / 256 / 256 = omega arith in
    let seventh : n / 72057594037927936 ≡ n / 256 / 256 / 256 / 256 / 256 / 256 / 256 = omega arith in
    rw (second, third, fourth, fifth, sixth, seventh)

pub words-next : (whole out out' : Text) (at i : ℕ) (words : List ℕ) → i < length words
    → whole ≡ put_text out (at + 4 * i) (words_text (drop i words))
    → out' ≡ put_text out (at + 4 * i) (cell_text 4 (get_or words i 0))
    → whole ≡ put_text out' (at + 4 * (i + 1)) (words_text (drop (i + 1) words))
words-next whole out out' at i words h e f =
    put_on whole out out' (at + 4 * i) (at + 4 * (i + 1)) (cell_text 4 (get_or words i 0)) (words_text (drop (i + 1) words)) (e ∙ ap (put_text out (at + 4 * i)) next) f
    (omega (arith, cell-length 4 (get_or words i 0)))
  where
    next : words_text (drop i words) ≡ cell_text 4 (get_or words i 0) ++ words_text (drop (i + 1) words)
    next = ap words_text (drop-cons words i 0 h) ∙ (unfold words_text in rw (add-one i))

pub words-end : (whole out : Text) (at i : ℕ) (words : List ℕ) → length words ≤ i → whole ≡ put_text out at (words_text (drop i words)) → out ≡ whole
unfolding words_text
words-end whole out at i words h e = sym (e ∙ ap (λ (l : List ℕ). put_text out at (words_text l)) (drop_of_length-le words h) ∙ put-none out at)
