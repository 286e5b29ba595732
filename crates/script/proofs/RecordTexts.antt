-- The laws of the records' text: hexadecimal digits, names, and the parts of each line. Assumes nothing.
use Prim.Native.Nat.{ℕ, zero, suc, ◌-◌, ◌/◌, ◌%◌}
use native.Mathlib.Omega.{arith}
use mathlib.Core.Path.{◌≡◌, refl, ap, sym, ◌∙◌}
use mathlib.Core.Bool.{Bool, true, false, cond}
use mathlib.Core.List.{[], ◌∷◌, ◌++◌, append_assoc}
use lib.Dec.{eqb}
use lib.Ieee.{Float, nan, binary64, to_bits}
use borrow.Author.Tests.{ne_eqb}
use Rattle.rules.specs.declared.Position.{Position}
use Rattle.rules.specs.Script.{Text, bytes, spaced}
use Rattle.rules.specs.Dump.{name_words, hex_digit, hex_before, bits_word, vertex_line, arc_line, edge_line, face_line}
use Rattle.script.specs.declared.Name.{Name}
use Rattle.script.specs.declared.Name.TheVariants.{Absent, Key, Arc}
use Rattle.script.specs.Dumps.{keys_in, name_text, position_words, arcs_text, keys_text, vertex_text, arc_text, edge_text, face_text, counters_text}

-- ---- hexadecimal digits

hex-append : (p n : ℕ) (l : Text) → hex_before p n l ≡ hex_before p n [] ++ l
unfolding hex_before
hex-append zero n l = refl
hex-append (suc p) n l =
    hex-append p (n / 16) (hex_digit (n % 16) ∷ l)
    ∙ sym (append_assoc (hex_before p (n / 16) []) (hex_digit (n % 16) ∷ []) l)
    ∙ ap (λ (k : Text). k ++ l) (sym (hex-append p (n / 16) (hex_digit (n % 16) ∷ [])))

pub hex-none : (p n : ℕ) → p ≡ 0 → [] ≡ hex_before p n []
unfolding hex_before
hex-none p n e = rw e

pub hex-more : (p n : ℕ) → (p ≡ 0 → ⊥) → hex_before (p - 1) (n / 16) [] ++ (hex_digit (n % 16) ∷ []) ≡ hex_before p n []
unfolding hex_before
hex-more zero n h = absurd (h refl)
hex-more (suc p) n h = let e : suc p - 1 ≡ p = omega arith in rw e (sym (hex-append p (n / 16) (hex_digit (n % 16) ∷ [])))

pub bits-parts : (x : Float) → ((32 ∷ 48 ∷ []) ++ (120 ∷ [])) ++ hex_before 16 (to_bits binary64 x) [] ≡ bits_word x
unfolding bits_word bytes
bits-parts x = refl

pub position-parts : (p : Position) → (bits_word p.x ++ bits_word p.y) ++ bits_word p.z ≡ position_words p
unfolding position_words
position-parts p = append_assoc (bits_word p.x) (bits_word p.y) (bits_word p.z)

-- ---- names

same-three : (a b : Bool) (t : Text) → t ≡ cond a t (cond b t t)
same-three true b t = refl
same-three false true t = refl
same-three false false t = refl

pub name-key : (dashes k : ℕ) → spaced (k ∷ []) ≡ name_text dashes (Key k)
unfolding name_text name_words keys_in
name-key dashes k = same-three (eqb dashes 0) (eqb dashes 1) (spaced (k ∷ []))

pub name-arc : (dashes s d : ℕ) → spaced (s ∷ d ∷ []) ≡ name_text dashes (Arc s d)
unfolding name_text name_words keys_in
name-arc dashes s d = same-three (eqb dashes 0) (eqb dashes 1) (spaced (s ∷ d ∷ []))

pub name-none : (dashes : ℕ) → dashes ≡ 0 → [] ≡ name_text dashes Absent
unfolding name_text name_words keys_in bytes
name-none dashes e = rw e

pub name-one : (dashes : ℕ) → dashes ≡ 1 → 32 ∷ 45 ∷ [] ≡ name_text dashes Absent
unfolding name_text name_words keys_in bytes
name-one dashes e = rw e

pub name-two : (dashes : ℕ) → (dashes ≡ 0 → ⊥) → (dashes ≡ 1 → ⊥) → (32 ∷ 45 ∷ []) ++ (32 ∷ 45 ∷ []) ≡ name_text dashes Absent
unfolding name_text name_words keys_in bytes
name-two dashes n m = rw (ne_eqb dashes 0 n, ne_eqb dashes 1 m)

pub arcs-parts : (a b : Name) → name_text 2 a ++ name_text 2 b ≡ arcs_text a b
unfolding name_text arcs_text
arcs-parts a b = refl

pub keys-parts : (a b : Name) → name_text 1 a ++ name_text 1 b ≡ keys_text a b
unfolding name_text keys_text
keys-parts a b = refl

-- ---- lines

pub vertex-parts : (key : ℕ) (p : Position) (leading : Name)
    → ((((86 ∷ []) ++ spaced (key ∷ [])) ++ position_words p) ++ name_text 2 leading) ++ (10 ∷ []) ≡ vertex_text key p leading
unfolding vertex_text vertex_line position_words name_text bytes
vertex-parts key p leading = simp append_assoc

five : (n x y f e l : Text) → ((n ++ (x ++ y)) ++ (f ++ e)) ++ l ≡ (n ++ (x ++ (y ++ (f ++ e)))) ++ l
five n x y f e l = simp append_assoc

pub arc-parts : (name next previous face edge : Name)
    → ((((65 ∷ []) ++ name_text 0 name) ++ arcs_text next previous) ++ keys_text face edge) ++ (10 ∷ []) ≡ arc_text name next previous face edge
unfolding arc_text arc_line name_text arcs_text keys_text bytes
arc-parts name next previous face edge =
    ap (λ (t : Text). 65 ∷ t)
    (five (name_words "" (keys_in name)) (name_words " - -" (keys_in next)) (name_words " - -" (keys_in previous)) (name_words " -" (keys_in face)) (name_words " -" (keys_in edge)) (10 ∷ []))

pub edge-parts : (key : ℕ) (arc : Name) → (((69 ∷ []) ++ spaced (key ∷ [])) ++ name_text 2 arc) ++ (10 ∷ []) ≡ edge_text key arc
unfolding edge_text edge_line name_text bytes
edge-parts key arc = simp append_assoc

pub face-parts : (key : ℕ) (arc : Name) (mark : ℕ) → ((((70 ∷ []) ++ spaced (key ∷ [])) ++ name_text 2 arc) ++ spaced (mark ∷ [])) ++ (10 ∷ []) ≡ face_text key arc mark
unfolding face_text face_line name_text bytes
face-parts key arc mark = simp append_assoc

pub counters-parts : (v e f : ℕ) → ((67 ∷ []) ++ spaced (v ∷ e ∷ f ∷ [])) ++ (10 ∷ []) ≡ counters_text v e f
unfolding counters_text bytes
counters-parts v e f = refl
