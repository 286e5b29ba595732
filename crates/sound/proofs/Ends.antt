-- What one row of the edges tells, from the rows of its two arcs.
use Prim.Native.Nat.{ℕ}
use mathlib.Core.Path.{◌≡◌, ap, sym, subst, ◌∙◌}
use mathlib.Core.Bool.{Bool, true, false, not, ◌&&◌}
use mathlib.Core.List.{List}
use lib.ListN.{length, get_or}
use lib.Dec.{T, eqb, leb, eqb→eq, le→leb}
use lib.Ieee.Fits.{and_l, and_r, and_i}
use borrow.Author.Tests.{eq-eqb, ne_eqb}
use Rattle.rules.specs.Table.{Table, cell, there}
use Rattle.rules.proofs.Sums.{same_test}
use Rattle.proved.proofs.Rows.{true-T, differ, differ-T, in_table, cell-none}
use Rattle.sound.specs.Tests.{both_row, ends_row, opposite_rows, two_vertices}
use Rattle.sound.proofs.RingSums.{no_test}

-- an arc that is there has a row in the table
pub there-within : (arcs : Table) (x : ℕ) → T (there arcs x) → T (leb 1 x && leb x (length arcs))
there-within arcs x t = let b = in_table arcs x t in and_i (leb 1 x) (leb x (length arcs)) (le→leb 1 x b.0) (le→leb x (length arcs) b.1)

-- a vertex that is there is not none
some-there : (vertices : Table) (a : ℕ) → T (there vertices a) → T (not (eqb a 0))
some-there vertices a t = differ-T a 0 (λ z. differ (cell vertices a 0) 0 t (ap (λ (y : ℕ). cell vertices y 0) z ∙ cell-none vertices 0))

module _ (vertices arcs : Table) (r : List ℕ) (e : ℕ) where
  abbrev x : ℕ
  x = get_or r 1 0

  abbrev y : ℕ
  y = get_or r 2 0

  abbrev swaps : Bool
  swaps = eqb (cell arcs x 5) e && (eqb (cell arcs y 5) e && (eqb (cell arcs x 0) (cell arcs y 1) && eqb (cell arcs x 1) (cell arcs y 0)))

  abbrev exist : Bool
  exist = not (eqb (cell arcs x 0) (cell arcs x 1)) && (there vertices (cell arcs x 0) && there vertices (cell arcs x 1))

  abbrev passes : Bool
  passes = both_row arcs r e && ends_row vertices arcs r

  pub unused-passes : get_or r 0 0 ≡ 0 → true ≡ (both_row arcs r e && ends_row vertices arcs r)
  unfolding both_row ends_row
  unused-passes z = rw (eq-eqb (get_or r 0 0) 0 z)

  module _ (u : get_or r 0 0 ≡ 0 → ⊥) where
    passes-is : passes ≡ ((there arcs x && (there arcs y && swaps)) && exist)
    unfolding both_row ends_row
    passes-is = rw (ne_eqb (get_or r 0 0) 0 u)

    open-it : T passes → T ((there arcs x && (there arcs y && swaps)) && exist)
    open-it t = subst T passes-is t

    both_of : T passes → T (there arcs x && (there arcs y && swaps))
    both_of t = and_l (there arcs x && (there arcs y && swaps)) exist (open-it t)

    pub first_out : (leb 1 (get_or r 1 0) && leb (get_or r 1 0) (length arcs)) ≡ false → false ≡ (both_row arcs r e && ends_row vertices arcs r)
    first_out q = no_test passes (λ t. subst T q (there-within arcs x (and_l (there arcs x) (there arcs y && swaps) (both_of t))))

    pub second-out : (leb 1 (get_or r 2 0) && leb (get_or r 2 0) (length arcs)) ≡ false → false ≡ (both_row arcs r e && ends_row vertices arcs r)
    second-out q = no_test passes (λ t. subst T q (there-within arcs y (and_l (there arcs y) swaps (and_r (there arcs x) (there arcs y && swaps) (both_of t)))))

    module _ (p q : List ℕ) (ep : (c : ℕ) → get_or p c 0 ≡ cell arcs (get_or r 1 0) c) (eq : (c : ℕ) → get_or q c 0 ≡ cell arcs (get_or r 2 0) c) where
      swaps-is : opposite_rows p q e ≡ swaps
      unfolding opposite_rows
      swaps-is = rw (ep 5, eq 5, ep 0, eq 1, ep 1, eq 0)

      pub swaps-out : opposite_rows p q e ≡ false → false ≡ (both_row arcs r e && ends_row vertices arcs r)
      swaps-out z = no_test passes (λ t. subst T (sym swaps-is ∙ z) (and_r (there arcs y) swaps (and_r (there arcs x) (there arcs y && swaps) (both_of t))))

      pub ends-tell : opposite_rows p q e ≡ true → two_vertices vertices (get_or p 0 0) (get_or p 1 0) ≡ (both_row arcs r e && ends_row vertices arcs r)
      unfolding two_vertices
      ends-tell z = rw (ep 0, ep 1) (same_test exist passes to (λ t. and_r (there arcs x && (there arcs y && swaps)) exist (open-it t)))
        where
          s : T swaps
          s = true-T (sym swaps-is ∙ z)

          turned : cell arcs x 1 ≡ cell arcs y 0
          turned = eqb→eq _ _ (and_r (eqb (cell arcs x 0) (cell arcs y 1)) (eqb (cell arcs x 1) (cell arcs y 0)) (and_r (eqb (cell arcs y 5) e) _ (and_r (eqb (cell arcs x 5) e) _ s)))

          to : T exist → T passes
          to t =
              let v = and_r (not (eqb (cell arcs x 0) (cell arcs x 1))) (there vertices (cell arcs x 0) && there vertices (cell arcs x 1)) t in
              let a = some-there vertices (cell arcs x 0) (and_l (there vertices (cell arcs x 0)) (there vertices (cell arcs x 1)) v) in
              let b = some-there vertices (cell arcs x 1) (and_r (there vertices (cell arcs x 0)) (there vertices (cell arcs x 1)) v) in
              let d : T (there arcs y) = subst (λ (n : ℕ). T (not (eqb n 0))) turned b in
              subst T (sym passes-is) (and_i (there arcs x && (there arcs y && swaps)) exist (and_i (there arcs x) (there arcs y && swaps) a (and_i (there arcs y) swaps d s)) t)
