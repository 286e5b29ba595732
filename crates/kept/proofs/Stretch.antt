-- A stretch of a ring's vertices, place by place: it runs from place i to place j, on round the end where j is before i.
use Prim.Native.Nat.{ℕ, ◌+◌, ◌-◌, ◌≤◌, ◌<◌}
use native.Mathlib.Omega.{arith}
use native.Mathlib.Decide.{ℕ_discrete, dec_lt}
use mathlib.Core.Path.{◌≡◌, ap, sym, ◌∙◌}
use mathlib.Core.Bool.{cond}
use mathlib.Core.List.{List, ◌++◌}
use lib.ListN.{length, get_or, take, drop, length-append, length-take, length-drop, get_or-append}
use lib.Seq.{get_or-take, get_or-drop, get_or-append-add}
use lib.Dec.{ltb}
use borrow.Author.Tests.{lt-ltb, le-ltb}
use Rattle.rules.specs.Table.{after}
use Rattle.rules.specs.Edit.{stretch}
use Rattle.kept.proofs.Round.{after_on, after_last}

-- the place x of a ring of n, counted on round its end
abbrev pub wrap : ℕ → ℕ → ℕ
wrap n x = cond (ltb x n) x (x - n)

pub wrap-low : (n x : ℕ) → x < n → wrap n x ≡ x
wrap-low n x l = rw (lt-ltb x n l)

pub wrap-high : (n x : ℕ) → n ≤ x → wrap n x ≡ x - n
wrap-high n x l = rw (le-ltb x n l)

-- the place after it is the next one
pub wrap-next : (n x : ℕ) → x + 1 < n + n → wrap n (x + 1) ≡ after n (wrap n x)
wrap-next n x l = go (dec_lt x n) (ℕ_discrete (x + 1) n)
  where
    go : Dec (x < n) → Dec (x + 1 ≡ n) → wrap n (x + 1) ≡ after n (wrap n x)
    go (yes a) (yes e) =
        let z : x + 1 - n ≡ 0 = omega arith in
        wrap-high n (x + 1) (omega arith) ∙ z ∙ sym (ap (after n) (wrap-low n x a) ∙ after_last n x e)
    go (yes a) (no ne) = wrap-low n (x + 1) (omega arith) ∙ sym (ap (after n) (wrap-low n x a) ∙ after_on n x ne)
    go (no a) e =
        let z : x + 1 - n ≡ x - n + 1 = omega arith in
        wrap-high n (x + 1) (omega arith) ∙ z ∙ sym (ap (after n) (wrap-high n x (omega arith)) ∙ after_on n (x - n) (λ q. omega arith))

module _ (vs : List ℕ) (i j : ℕ) (a : i < length vs) (b : j < length vs) where
  -- where it goes on round the end
  module _ (l : j < i) where
    around : stretch vs i j ≡ drop i vs ++ take (j + 1) vs
    unfolding stretch
    around = rw (lt-ltb j i l)

    around-length : length (stretch vs i j) ≡ length vs - i + (j + 1)
    around-length = ap length around ∙ length-append (drop i vs) (take (j + 1) vs) ∙ omega (arith, length-drop i vs, length-take (j + 1) vs)

    around-at : (k : ℕ) → k < length (stretch vs i j) → get_or (stretch vs i j) k 0 ≡ get_or vs (wrap (length vs) (i + k)) 0
    around-at k q = ap (λ (r : List ℕ). get_or r k 0) around ∙ go (dec_lt k (length vs - i))
      where
        go : Dec (k < length vs - i) → get_or (drop i vs ++ take (j + 1) vs) k 0 ≡ get_or vs (wrap (length vs) (i + k)) 0
        go (yes c) =
            get_or-append (drop i vs) (take (j + 1) vs) 0 k (omega (arith, length-drop i vs))
            ∙ get_or-drop i vs k 0
            ∙ ap (λ (z : ℕ). get_or vs z 0) (sym (wrap-low (length vs) (i + k) (omega arith)))
        go (no c) =
            let r : ℕ = k - (length vs - i) in
            let e : k ≡ length (drop i vs) + r = omega (arith, length-drop i vs) in
            let z : i + k - length vs ≡ r = omega arith in
            ap (λ (z : ℕ). get_or (drop i vs ++ take (j + 1) vs) z 0) e
            ∙ get_or-append-add (drop i vs) (take (j + 1) vs) r 0
            ∙ get_or-take (j + 1) vs r 0 (omega (arith, around-length))
            ∙ ap (λ (z : ℕ). get_or vs z 0) (sym (wrap-high (length vs) (i + k) (omega arith) ∙ z))

  -- where it does not
  module _ (l : i ≤ j) where
    straight : stretch vs i j ≡ drop i (take (j + 1) vs)
    unfolding stretch
    straight = rw (le-ltb j i l)

    straight-length : length (stretch vs i j) ≡ j + 1 - i
    straight-length = ap length straight ∙ length-drop i (take (j + 1) vs) ∙ omega (arith, length-take (j + 1) vs)

    straight-at : (k : ℕ) → k < length (stretch vs i j) → get_or (stretch vs i j) k 0 ≡ get_or vs (wrap (length vs) (i + k)) 0
    straight-at k q =
        ap (λ (r : List ℕ). get_or r k 0) straight
        ∙ get_or-drop i (take (j + 1) vs) k 0
        ∙ get_or-take (j + 1) vs (i + k) 0 (omega (arith, straight-length))
        ∙ ap (λ (z : ℕ). get_or vs z 0) (sym (wrap-low (length vs) (i + k) (omega (arith, straight-length))))

  -- place k of it is place i + k of the ring
  pub stretch-at : (k : ℕ) → k < length (stretch vs i j) → get_or (stretch vs i j) k 0 ≡ get_or vs (wrap (length vs) (i + k)) 0
  stretch-at k q = go (dec_lt j i)
    where
      go : Dec (j < i) → get_or (stretch vs i j) k 0 ≡ get_or vs (wrap (length vs) (i + k)) 0
      go (yes l) = around-at l k q
      go (no l) = straight-at (omega arith) k q

  -- it ends at place j
  pub record Ends : Type 0 where
    pub some : 1 ≤ length (stretch vs i j)
    pub not-longer : length (stretch vs i j) ≤ length vs
    pub last : wrap (length vs) (i + (length (stretch vs i j) - 1)) ≡ j

  pub stretch-ends : Ends
  stretch-ends = go (dec_lt j i)
    where
      go : Dec (j < i) → Ends
      go (yes l) =
          let e = around-length l in
          let z : i + (length (stretch vs i j) - 1) - length vs ≡ j = omega arith in
          record { some = omega arith; not-longer = omega arith; last = wrap-high (length vs) (i + (length (stretch vs i j) - 1)) (omega arith) ∙ z }
      go (no l) =
          let e = straight-length (omega arith) in
          let z : i + (length (stretch vs i j) - 1) ≡ j = omega arith in
          record { some = omega arith; not-longer = omega arith; last = wrap-low (length vs) (i + (length (stretch vs i j) - 1)) (omega arith) ∙ z }
