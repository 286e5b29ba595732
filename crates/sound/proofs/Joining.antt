-- Each edge names two arcs that hold it. Where there are no more arcs than these, each arc is one of the two that its edge names.
use Prim.Native.Nat.{ℕ, ◌+◌, ◌-◌, ◌*◌, ◌≤◌, ◌<◌}
use native.Mathlib.Omega.{arith}
use mathlib.Core.Path.{◌≡◌, refl, ap, sym, subst, ◌∙◌}
use mathlib.Core.Bool.{Bool, true, false, ◌&&◌, ◌||◌}
use mathlib.Core.List.{[]}
use lib.ListN.{length, get_or}
use lib.Dec.{T, eqb, eqb→eq}
use lib.Ieee.Fits.{and_l, and_r, and_i}
use Rattle.rules.specs.Table.{there, used, sum_below, count}
use Rattle.rules.specs.Mesh.{Mesh, source, dest, edge, edge_arc, edge_other}
use Rattle.rules.specs.Sound.{edge_joins}
use Rattle.rules.proofs.Counts.{bit}
use Rattle.rules.proofs.Sums.{or_cases, or_l, or_r, sum-ext, sum-add, sum-zero, sum-hit, count-sum}
use Rattle.proved.specs.Facts.{IsArc, IsEdge, BothArcs}
use Rattle.proved.proofs.Rows.{T_true, T_false, true-T, same-T, there-row, link_row, in_table, used_all}
use Rattle.proved.proofs.Totals.{sum-le, sum-swap, sum-hit-le, sum-double, bit_le}
use Rattle.sound.proofs.Counting.{sum-tight}

-- two tests that are never both so
bit_or : (a b : Bool) → (T a → T b → ⊥) → bit (a || b) ≡ bit a + bit b
bit_or true true h = absurd (h tt tt)
bit_or true false h = refl
bit_or false true h = refl
bit_or false false h = refl

-- two links up to n
sum-two : (x y n : ℕ) → (1 ≤ x) × (x ≤ n) → (1 ≤ y) × (y ≤ n) → (x ≡ y → ⊥) → sum_below (λ k. bit (eqb (k + 1) x || eqb (k + 1) y)) n ≡ 2
sum-two x y n p q d =
    let split = sum-ext (λ k. bit (eqb (k + 1) x || eqb (k + 1) y)) (λ k. bit (eqb (k + 1) x) + bit (eqb (k + 1) y)) n (λ k l. bit_or (eqb (k + 1) x) (eqb (k + 1) y) (λ a b. d (sym (eqb→eq (k + 1) x a) ∙ eqb→eq (k + 1) y b))) in
    omega (arith, split, sum-add (λ k. bit (eqb (k + 1) x)) (λ k. bit (eqb (k + 1) y)) n, sum-hit x n p.0 p.1, sum-hit y n q.0 q.1)

module _ (m : Mesh) (both : (e : ℕ) → IsEdge m e → BothArcs m e) (ends : (e : ℕ) → IsEdge m e → source m (edge_arc m e) ≡ dest m (edge_arc m e) → ⊥) where
  -- the edge in the row i names the arc in the row k
  abbrev names : ℕ → ℕ → Bool
  names k i = there m.edges (i + 1) && (eqb (k + 1) (edge_arc m (i + 1)) || eqb (k + 1) (edge_other m (i + 1)))

  abbrev hit : ℕ → ℕ → ℕ
  hit k i = bit (there m.edges (i + 1) && (eqb (k + 1) (edge_arc m (i + 1)) || eqb (k + 1) (edge_other m (i + 1))))

  abbrev arc_bits : ℕ → ℕ
  arc_bits k = bit (used (get_or m.arcs k []))

  abbrev edge_bits : ℕ → ℕ
  edge_bits i = bit (used (get_or m.edges i []))

  abbrev row_sums : ℕ → ℕ
  row_sums k = sum_below (hit k) (length m.edges)

  -- column by column: two for each edge in use
  column : (i : ℕ) → sum_below (λ k. hit k i) (length m.arcs) ≡ 2 * bit (used (get_or m.edges i []))
  column i = rw (← there-row m.edges i) (go (there m.edges (i + 1)) refl)
    where
      x : ℕ
      x = edge_arc m (i + 1)

      y : ℕ
      y = edge_other m (i + 1)

      go : (b : Bool) → there m.edges (i + 1) ≡ b → sum_below (λ k. bit (b && (eqb (k + 1) (edge_arc m (i + 1)) || eqb (k + 1) (edge_other m (i + 1))))) (length m.arcs) ≡ 2 * bit b
      go false e = sum-zero (λ k. 0) (length m.arcs) (λ k l. refl)
      go true e =
          let u : IsEdge m (i + 1) = true-T e in
          let w = both (i + 1) u in
          sum-two (edge_arc m (i + 1)) (edge_other m (i + 1)) (length m.arcs) (in_table m.arcs _ w.first-exists) (in_table m.arcs _ w.second-exists) (λ q. ends (i + 1) u (w.leaves-where-ends ∙ ap (dest m) (sym q)))

  -- an arc that an edge names is there and holds it
  held : (k i : ℕ) → T (names k i) → IsArc m (k + 1) × (edge m (k + 1) ≡ i + 1)
  held k i t =
      let u = and_l (there m.edges (i + 1)) (eqb (k + 1) (edge_arc m (i + 1)) || eqb (k + 1) (edge_other m (i + 1))) t in
      let w = both (i + 1) u in
      or_cases (eqb (k + 1) (edge_arc m (i + 1))) (eqb (k + 1) (edge_other m (i + 1))) (and_r (there m.edges (i + 1)) (eqb (k + 1) (edge_arc m (i + 1)) || eqb (k + 1) (edge_other m (i + 1))) t)
      (λ a. let q = eqb→eq (k + 1) (edge_arc m (i + 1)) a in (subst (λ (z : ℕ). IsArc m z) (sym q) w.first-exists, ap (edge m) q ∙ w.first_holds))
      (λ b. let q = eqb→eq (k + 1) (edge_other m (i + 1)) b in (subst (λ (z : ℕ). IsArc m z) (sym q) w.second-exists, ap (edge m) q ∙ w.second_holds))

  -- the arc is one of the two that its edge names
  abbrev joins : ℕ → Bool
  joins x = there m.edges (edge m x) && (eqb (edge_arc m (edge m x)) x || eqb (edge_other m (edge m x)) x)

  joined : (k i : ℕ) → T (names k i) → T (joins (k + 1))
  joined k i t =
      let e = (held k i t).1 in
      let u = and_l (there m.edges (i + 1)) (eqb (k + 1) (edge_arc m (i + 1)) || eqb (k + 1) (edge_other m (i + 1))) t in
      let w = or_cases (eqb (k + 1) (edge_arc m (i + 1))) (eqb (k + 1) (edge_other m (i + 1))) (and_r (there m.edges (i + 1)) (eqb (k + 1) (edge_arc m (i + 1)) || eqb (k + 1) (edge_other m (i + 1))) t)
      (λ a. or_l (eqb (edge_arc m (i + 1)) (k + 1)) (eqb (edge_other m (i + 1)) (k + 1)) (same-T _ _ (sym (eqb→eq (k + 1) (edge_arc m (i + 1)) a))))
      (λ b. or_r (eqb (edge_arc m (i + 1)) (k + 1)) (eqb (edge_other m (i + 1)) (k + 1)) (same-T _ _ (sym (eqb→eq (k + 1) (edge_other m (i + 1)) b)))) in
      subst (λ (z : ℕ). T (there m.edges z && (eqb (edge_arc m z) (k + 1) || eqb (edge_other m z) (k + 1)))) (sym e) (and_i (there m.edges (i + 1)) (eqb (edge_arc m (i + 1)) (k + 1) || eqb (edge_other m (i + 1)) (k + 1)) u w)

  -- and row by row: an arc is named by its own edge alone
  hit-none : (k i : ℕ) → (T (names k i) → ⊥) → hit k i ≡ 0
  hit-none k i h = ap bit (T_false (names k i) (lib.Dec.not_T (names k i) h))

  row-le : (k : ℕ) → sum_below (hit k) (length m.edges) ≤ bit (used (get_or m.arcs k []))
  row-le k = go (used (get_or m.arcs k [])) refl
    where
      go : (b : Bool) → used (get_or m.arcs k []) ≡ b → sum_below (hit k) (length m.edges) ≤ bit b
      go true e =
          let once = sum-le (hit k) (λ i. bit (eqb (edge m (k + 1)) (i + 1))) (length m.edges) (λ i l. bit_le (names k i) (eqb (edge m (k + 1)) (i + 1)) (λ t. same-T _ _ (held k i t).1)) in
          omega (arith, once, sum-hit-le (edge m (k + 1)) (length m.edges))
      go false e =
          let none = sum-zero (hit k) (length m.edges) (λ i l. hit-none k i (λ t. subst T (there-row m.arcs k ∙ e) (held k i t).0)) in
          omega (arith, none)

  columns : sum_below row_sums (length m.arcs) ≡ 2 * count used m.edges
  columns =
      omega (
        arith,
        sum-swap hit (length m.arcs) (length m.edges),
        sum-ext (λ i. sum_below (λ k. hit k i) (length m.arcs)) (λ i. 2 * edge_bits i) (length m.edges) (λ i l. column i),
        sum-double edge_bits (length m.edges),
        count-sum used m.edges [],
      )

  pub at_least : 2 * count used m.edges ≤ count used m.arcs
  at_least = omega (arith, columns, sum-le row_sums arc_bits (length m.arcs) (λ k l. row-le k), count-sum used m.arcs [])

  pub joins-from : count used m.arcs ≡ 2 * count used m.edges → T (edge_joins m)
  unfolding edge_joins
  joins-from e = used_all joins m.arcs at
    where
      same : (k : ℕ) → k < length m.arcs → row_sums k ≡ arc_bits k
      same = sum-tight row_sums arc_bits (length m.arcs) (λ k l. row-le k) (omega (arith, columns, e, count-sum used m.arcs []))

      joins_at : (k : ℕ) → k < length m.arcs → IsArc m (k + 1) → T (joins (k + 1))
      joins_at k l u = go (joins (k + 1)) refl
        where
          go : (b : Bool) → joins (k + 1) ≡ b → T b
          go true q = tt
          go false q =
              let none = sum-zero (hit k) (length m.edges) (λ i p. hit-none k i (λ t. subst T q (joined k i t))) in
              let one : used (get_or m.arcs k []) ≡ true = T_true _ (subst T (there-row m.arcs k) u) in
              let z : ⊥ = omega (arith, none, same k l, ap bit one) in
              absurd z

      at : (x : ℕ) → IsArc m x → T (joins x)
      at x u =
          let b = in_table m.arcs x u in
          let k : ℕ = x - 1 in
          let z : k + 1 ≡ x = link_row x b.0 in
          subst (λ (y : ℕ). T (joins y)) z (joins_at k (omega arith) (subst (λ (y : ℕ). IsArc m y) (sym z) u))
