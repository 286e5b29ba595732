-- A ring of three arcs, or of four, by its rows: the walk of RingLinked, whose list of sources is made up here.
use Prim.Native.Nat.{ℕ, ◌+◌, ◌<◌}
use native.Mathlib.Omega.{arith}
use mathlib.Core.Path.{◌≡◌, refl, ap, sym, ◌∙◌}
use mathlib.Core.Bool.{true, not, cond, ◌&&◌}
use mathlib.Core.List.{List}
use lib.ListN.{get_or, set, replicate}
use lib.Dec.{eqb, leb, eqb→eq}
use lib.Ieee.Fits.{and_l, and_r, and_i}
use Rattle.rules.specs.Table.{Table, cell, used, all_below}
use Rattle.proved.proofs.Rows.{T_true, true-T, same-T, differ}
use Rattle.sound.specs.Rings.{ring_row, apart, three_apart, three_rows, four_rows}
use Rattle.sound.proofs.HeldRuns.{and_first, and_second}
use Rattle.sound.proofs.RingLinked.{Going, Told, going_start, going_on, back-out}

-- ---- sources

abbrev none : List ℕ
none = replicate 64 0

abbrev two : ℕ → ℕ → List ℕ
two a b = set (set none 0 a) 1 b

module _ (a b c : ℕ) (h : three_apart a b c ≡ true) where
  ab : not (eqb a b) ≡ true
  ab = and_first (not (eqb a b)) _ h

  ac : not (eqb a c) ≡ true
  ac = and_first (not (eqb a c)) _ (and_second (not (eqb a b)) _ h)

  bc : not (eqb b c) ≡ true
  bc = and_second (not (eqb a c)) _ (and_second (not (eqb a b)) _ h)

  apart-three : apart (set (two a b) 2 c) 3 ≡ true
  unfolding apart all_below
  apart-three = rw (ab, ac, bc)

-- r stands before c
module _ (a b r c : ℕ) (h : three_apart a b c ≡ true) (ar : not (eqb a r) ≡ true) (br : not (eqb b r) ≡ true) (rc : not (eqb r c) ≡ true) where
  apart-four : apart (set (set (two a b) 2 r) 3 c) 4 ≡ true
  unfolding apart all_below
  apart-four = rw (ab a b c h, ac a b c h, bc a b c h, ar, br, rc)

-- ---- the rows: p of the first arc, q of its next, z of its previous, whose next is the first

module _ (arcs : Table) (first f : ℕ) (p q z : List ℕ) (ep : (c : ℕ) → get_or p c 0 ≡ cell arcs first c) (eq : (c : ℕ) → get_or q c 0 ≡ cell arcs (get_or p 2 0) c) (ez : (c : ℕ) → get_or z c 0 ≡ cell arcs (get_or p 3 0) c) (back : get_or z 2 0 ≡ first) where
  -- an arc with another source is not the first
  away : (x : ℕ) (row : List ℕ) → ((c : ℕ) → get_or row c 0 ≡ cell arcs x c) → not (eqb (get_or p 0 0) (get_or row 0 0)) ≡ true → x ≡ first → ⊥
  away x row er d e =
      differ (get_or p 0 0) (get_or row 0 0) (true-T d) (ep 0 ∙ ap (λ (y : ℕ). cell arcs y 0) (sym e) ∙ sym (er 0))

  module _ (hp : ring_row p f (get_or p 3 0) (get_or z 1 0) ≡ true) where
    first_passes : ring_row p f (cell arcs first 3) (cell arcs first 0) ≡ true
    unfolding ring_row
    first_passes =
        let t = true-T hp in
        T_true _ (and_i (used p) _ (and_l (used p) _ t) (and_i (eqb (get_or p 4 0) f) _ (and_l (eqb (get_or p 4 0) f) _ (and_r (used p) _ t)) (and_i (eqb (get_or p 3 0) (cell arcs first 3)) (eqb (get_or p 0 0) (cell arcs first 0)) (same-T _ _ (ep 3)) (same-T _ _ (ep 0)))))

    ends : get_or z 1 0 ≡ cell arcs first 0
    unfolding ring_row
    ends =
        let t = and_r (eqb (get_or p 4 0) f) _ (and_r (used p) _ (true-T hp)) in
        sym (eqb→eq (get_or p 0 0) (get_or z 1 0) (and_r (eqb (get_or p 3 0) (get_or p 3 0)) (eqb (get_or p 0 0) (get_or z 1 0)) t)) ∙ ep 0

    -- after two arcs
    going-two : ring_row q f first (get_or p 1 0) ≡ true → not (eqb (get_or p 0 0) (get_or q 0 0)) ≡ true → (get_or q 2 0 ≡ first → ⊥) → Going arcs first f (two (get_or p 0 0) (get_or q 0 0)) 2 (get_or q 2 0) (get_or p 2 0) (get_or q 1 0)
    going-two hq d n =
        let start = going_start arcs first f none (cell arcs first 3) (cell arcs first 0) refl refl refl in
        let one = going_on arcs first f none 0 first (cell arcs first 3) (cell arcs first 0) start p ep (omega arith) first_passes (away (get_or p 2 0) q eq d) in
        going_on arcs first f (set none 0 (get_or p 0 0)) 1 (get_or p 2 0) first (get_or p 1 0) one q eq (omega arith) hq n

    -- and with the last, z
    closes : (sources : List ℕ) (n x before end : ℕ) → Going arcs first f sources n x before end → n < 64 → x ≡ get_or p 3 0 → ring_row z f before end ≡ true → apart (set sources n (get_or z 0 0)) (n + 1) ≡ true → Told arcs first f (cond (leb 3 (n + 1)) (n + 1) 0)
    closes sources n x before end g few ex h d =
        let met = T_true (eqb x (cell arcs first 3) && eqb (get_or z 1 0) (cell arcs first 0)) (and_i (eqb x (cell arcs first 3)) (eqb (get_or z 1 0) (cell arcs first 0)) (same-T _ _ (ex ∙ ep 3)) (same-T _ _ ends)) in
        back-out arcs first f sources n x before end g z (λ c. ez c ∙ ap (λ (y : ℕ). cell arcs y c) (sym ex)) few h (cell arcs first 3) (cell arcs first 0) refl refl back met d

  pub three-told : get_or q 2 0 ≡ get_or p 3 0 → three_rows p q z f first ≡ true → Told arcs first f 3
  unfolding three_rows
  three-told ex h =
      let hp = and_first (ring_row p f (get_or p 3 0) (get_or z 1 0)) _ h in
      let h₁ = and_second (ring_row p f (get_or p 3 0) (get_or z 1 0)) _ h in
      let hq = and_first (ring_row q f first (get_or p 1 0)) _ h₁ in
      let h₂ = and_second (ring_row q f first (get_or p 1 0)) _ h₁ in
      let hz = and_first (ring_row z f (get_or p 2 0) (get_or q 1 0)) _ h₂ in
      let d = and_second (ring_row z f (get_or p 2 0) (get_or q 1 0)) _ h₂ in
      let n = away (get_or q 2 0) z (λ c. ez c ∙ ap (λ (y : ℕ). cell arcs y c) (sym ex)) (ac (get_or p 0 0) (get_or q 0 0) (get_or z 0 0) d) in
      closes hp (two (get_or p 0 0) (get_or q 0 0)) 2 (get_or q 2 0) (get_or p 2 0) (get_or q 1 0) (going-two hp hq (ab (get_or p 0 0) (get_or q 0 0) (get_or z 0 0) d) n) (omega arith) ex hz (apart-three (get_or p 0 0) (get_or q 0 0) (get_or z 0 0) d)

  -- r is the row between q and z
  pub four-told : (r : List ℕ) → ((c : ℕ) → get_or r c 0 ≡ cell arcs (get_or q 2 0) c) → get_or r 2 0 ≡ get_or p 3 0 → four_rows p q r z f first ≡ true → Told arcs first f 4
  unfolding four_rows
  four-told r er ex h =
      let hp = and_first (ring_row p f (get_or p 3 0) (get_or z 1 0)) _ h in
      let h₁ = and_second (ring_row p f (get_or p 3 0) (get_or z 1 0)) _ h in
      let hq = and_first (ring_row q f first (get_or p 1 0)) _ h₁ in
      let h₂ = and_second (ring_row q f first (get_or p 1 0)) _ h₁ in
      let hr = and_first (ring_row r f (get_or p 2 0) (get_or q 1 0)) _ h₂ in
      let h₃ = and_second (ring_row r f (get_or p 2 0) (get_or q 1 0)) _ h₂ in
      let hz = and_first (ring_row z f (get_or q 2 0) (get_or r 1 0)) _ h₃ in
      let h₄ = and_second (ring_row z f (get_or q 2 0) (get_or r 1 0)) _ h₃ in
      let d = and_first (three_apart (get_or p 0 0) (get_or q 0 0) (get_or z 0 0)) _ h₄ in
      let h₅ = and_second (three_apart (get_or p 0 0) (get_or q 0 0) (get_or z 0 0)) _ h₄ in
      let pr = and_first (not (eqb (get_or p 0 0) (get_or r 0 0))) _ h₅ in
      let h₆ = and_second (not (eqb (get_or p 0 0) (get_or r 0 0))) _ h₅ in
      let qr = and_first (not (eqb (get_or q 0 0) (get_or r 0 0))) _ h₆ in
      let rz = and_second (not (eqb (get_or q 0 0) (get_or r 0 0))) _ h₆ in
      let n = away (get_or r 2 0) z (λ c. ez c ∙ ap (λ (y : ℕ). cell arcs y c) (sym ex)) (ac (get_or p 0 0) (get_or q 0 0) (get_or z 0 0) d) in
      let g = going_on arcs first f (two (get_or p 0 0) (get_or q 0 0)) 2 (get_or q 2 0) (get_or p 2 0) (get_or q 1 0) (going-two hp hq (ab (get_or p 0 0) (get_or q 0 0) (get_or z 0 0) d) (away (get_or q 2 0) r er pr)) r er (omega arith) hr n in
      closes hp (set (two (get_or p 0 0) (get_or q 0 0)) 2 (get_or r 0 0)) 3 (get_or r 2 0) (get_or q 2 0) (get_or r 1 0) g (omega arith) ex hz (apart-four (get_or p 0 0) (get_or q 0 0) (get_or r 0 0) (get_or z 0 0) d pr qr rz)
