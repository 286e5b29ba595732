-- The rings of all faces together have as many arcs as hold a face, exactly if no arc off its ring holds a face: where each ring is whole,
-- and the faces that arcs hold exist.
use Prim.Native.Nat.{ℕ, zero, suc, ◌+◌, ◌-◌, ◌≤◌, ◌<◌, zero-le}
use native.Mathlib.Nat.{not-suc-le-zero}
use native.Mathlib.Omega.{arith}
use native.Mathlib.Decide.{ℕ_discrete}
use mathlib.Core.Path.{◌≡◌, refl, ap, sym, subst, ◌∙◌}
use mathlib.Core.Bool.{Bool, true, false, not, cond, ◌&&◌, ◌||◌}
use mathlib.Core.List.{List, []}
use lib.ListN.{length, get_or}
use lib.Dec.{T, eqb, leb, eqb→eq, eqb_refl, leb→le}
use lib.Ieee.Fits.{and_l, and_r, and_i}
use borrow.Author.Tests.{le-leb, eqb-true, eqb-false}
use Rattle.rules.specs.Table.{each_used, there, used, has, sum_below}
use Rattle.rules.specs.Mesh.{Mesh, source, face}
use Rattle.rules.specs.Link.{ring}
use Rattle.rules.specs.Sound.{unless_none, face_exists, names_holder, comes_back, three_to_limit, sources_differ, ring_holds, holders_on_ring, runs_back, ring_sound, rings_sound}
use Rattle.rules.proofs.Scan.{every-passes}
use Rattle.rules.proofs.Counts.{bit}
use Rattle.rules.proofs.Sums.{or_cases, sum-ext, sum-zero, every-has, distinct-map, sum-list, count-sum}
use Rattle.proved.specs.Demand.{holds, holds_some, Holds, holders, all_holders}
use Rattle.proved.proofs.Rows.{T_true, T_false, true-T, differ-T, cell_row, there-row, link_row, so-if, in_table, used-at, used_all}
use Rattle.proved.proofs.Ring.{ring-parts, ring-whole, row-holds, holds_row, ring-counts}
use Rattle.proved.proofs.Totals.{sum-le, sum-swap, sum-hit-le, bit_le, count-by-face}
use Rattle.sound.specs.Rings.{ring_whole}

-- ---- one ring

pub record RingWhole (m : Mesh) (f : ℕ) : Type 0 where
  pub names-holder : T (names_holder m f)
  pub comes_back : T (comes_back m f)
  pub three-to-limit : T (three_to_limit m f)
  pub sources-differ : T (sources_differ m f)
  pub ring-holds : T (ring_holds m f)
  pub runs-back : T (runs_back m f)

pub whole_parts : (m : Mesh) (f : ℕ) → T (ring_whole m f) → RingWhole m f
unfolding ring_whole
whole_parts m f h =
    let h₁ = and_r (names_holder m f) _ h in
    let h₂ = and_r (comes_back m f) _ h₁ in
    let h₃ = and_r (three_to_limit m f) _ h₂ in
    let h₄ = and_r (sources_differ m f) _ h₃ in
    record {
      names-holder = and_l (names_holder m f) _ h;
      comes_back = and_l (comes_back m f) _ h₁;
      three-to-limit = and_l (three_to_limit m f) _ h₂;
      sources-differ = and_l (sources_differ m f) _ h₃;
      ring-holds = and_l (ring_holds m f) _ h₄;
      runs-back = and_r (ring_holds m f) _ h₄;
    }

-- a sound ring is whole
pub sound-whole : (m : Mesh) (f : ℕ) → T (ring_sound m f) → T (ring_whole m f)
unfolding ring_whole
sound-whole m f h =
    let s = ring-parts m f h in
    and_i (names_holder m f) _ s.names-holder
    (and_i (comes_back m f) _ s.comes_back
    (and_i (three_to_limit m f) _ s.three-to-limit
    (and_i (sources_differ m f) _ s.sources-differ (and_i (ring_holds m f) (runs_back m f) s.ring-holds s.runs-back))))

pub whole-three : (m : Mesh) (f : ℕ) → T (ring_whole m f) → 3 ≤ length (ring m f)
unfolding three_to_limit
whole-three m f h = leb→le 3 (length (ring m f)) (and_l (leb 3 (length (ring m f))) _ (whole_parts m f h).three-to-limit)

-- ---- sums

-- terms that are none above, and add up to as much, are the same
pub sum-tight : (f g : ℕ → ℕ) (n : ℕ) → ((k : ℕ) → k < n → f k ≤ g k) → sum_below f n ≡ sum_below g n → (k : ℕ) → k < n → f k ≡ g k
unfolding sum_below
sum-tight f g zero h e k l = absurd (not-suc-le-zero l)
sum-tight f g (suc n) h e k l = go (ℕ_discrete k n) (sum-tight f g n (λ j q. h j (omega arith)))
  where
    low : sum_below f n ≤ sum_below g n
    low = sum-le f g n (λ j q. h j (omega arith))

    last : f n ≤ g n
    last = h n (omega arith)

    go : Dec (k ≡ n) → (sum_below f n ≡ sum_below g n → (k : ℕ) → k < n → f k ≡ g k) → f k ≡ g k
    go (yes q) ih = let z : f n ≡ g n = omega (arith, low, last) in ap f q ∙ z ∙ sym (ap g q)
    go (no nq) ih = ih (omega (arith, low, last)) k (omega arith)

bit-back : (a b : Bool) → bit a ≡ bit b → T b → T a
bit-back true b e h = tt
bit-back false true e h = let z : ⊥ = omega (arith, e) in absurd z
bit-back false false e h = absurd h

-- ---- the arcs on a ring, and those that hold its face

module _ (m : Mesh) (f : ℕ) (w : RingWhole m f) where
  pub on-ring : (x : ℕ) → T (has (ring m f) x) → Holds m f x
  unfolding ring_holds
  on-ring x i =
      let h = every-has (λ y. there m.arcs y && eqb (face m y) f) (ring m f) w.ring-holds x i in
      record { exists = and_l (there m.arcs x) (eqb (face m x) f) h; its-face = eqb→eq (face m x) f (and_r (there m.arcs x) (eqb (face m x) f) h) }

  abbrev on_bits : ℕ → ℕ
  on_bits k = bit (has (ring m f) (k + 1))

  abbrev hold_bits : ℕ → ℕ
  hold_bits k = bit (holds f (get_or m.arcs k []))

  ring-sum : sum_below on_bits (length m.arcs) ≡ length (ring m f)
  unfolding sources_differ
  ring-sum = sum-list (ring m f) (length m.arcs) (distinct-map (source m) (ring m f) w.sources-differ) (λ x i. in_table m.arcs x (on-ring x i).exists)

  none_above : (k : ℕ) → k < length m.arcs → on_bits k ≤ hold_bits k
  none_above k l = bit_le (has (ring m f) (k + 1)) (holds f (get_or m.arcs k [])) (λ t. holds_row m f k (on-ring (k + 1) t))

  pub ring-le : length (ring m f) ≤ holders m f
  ring-le = omega (arith, ring-sum, sum-le on_bits hold_bits (length m.arcs) none_above, count-sum (holds f) m.arcs [])

  -- as many hold the face as are on the ring: then each that holds it is on the ring
  pub all-on-ring : length (ring m f) ≡ holders m f → T (holders_on_ring m f)
  unfolding holders_on_ring
  all-on-ring e =
      used_all (λ x. not (eqb (face m x) f) || has (ring m f) x) m.arcs (λ x u. so-if (eqb (face m x) f) (has (ring m f) x) (λ q. at x u (eqb→eq (face m x) f q)))
    where
      same : (k : ℕ) → k < length m.arcs → on_bits k ≡ hold_bits k
      same = sum-tight on_bits hold_bits (length m.arcs) none_above (ring-sum ∙ e ∙ count-sum (holds f) m.arcs [])

      at : (x : ℕ) → T (there m.arcs x) → face m x ≡ f → T (has (ring m f) x)
      at x u q =
          let b = in_table m.arcs x u in
          let k : ℕ = x - 1 in
          let z : k + 1 ≡ x = omega arith in
          subst (λ (y : ℕ). T (has (ring m f) y)) z (bit-back (has (ring m f) (k + 1)) (holds f (get_or m.arcs k [])) (same k (omega arith)) (holds_row m f k (record { exists = subst (λ (y : ℕ). T (there m.arcs y)) (sym z) u; its-face = ap (face m) z ∙ q })))

  pub sound-from : T (holders_on_ring m f) → T (ring_sound m f)
  sound-from h =
      ring-whole m f (record { names-holder = w.names-holder; comes_back = w.comes_back; three-to-limit = w.three-to-limit; sources-differ = w.sources-differ; ring-holds = w.ring-holds; holders-on-ring = h; runs-back = w.runs-back })

-- ---- over all faces

-- arcs on the rings of the faces in use
abbrev pub on_rings : Mesh → ℕ → ℕ
on_rings m i = cond (there m.faces (i + 1)) (length (ring m (i + 1))) 0

module _ (m : Mesh) (s : T (face_exists m)) where
  -- an arc's face, unless none, is a used row
  face-there : (f x : ℕ) → Holds m f x → (f ≡ 0 → ⊥) → T (there m.faces f)
  unfolding face_exists
  face-there f x h ne =
      let t = used-at (λ y. unless_none (face m y) (there m.faces (face m y))) m.arcs s x h.exists in
      subst (λ (z : ℕ). T (there m.faces z)) h.its-face (or_cases (eqb (face m x) 0) (there m.faces (face m x)) t (λ z. absurd (ne (sym h.its-face ∙ eqb→eq (face m x) 0 z))) (λ z. z))

  face-low : (k : ℕ) → k < length m.arcs → T (not (used (get_or m.arcs k [])) || leb (get_or (get_or m.arcs k []) 4 0) (length m.faces))
  face-low k l = so-if (used r) (leb f (length m.faces)) (λ u. go (eqb f 0) refl u)
    where
      r : List ℕ
      r = get_or m.arcs k []

      f : ℕ
      f = get_or r 4 0

      go : (b : Bool) → eqb f 0 ≡ b → T (used r) → T (leb f (length m.faces))
      go true e u = true-T (le-leb f (length m.faces) (omega (arith, eqb-true f 0 e)))
      go false e u =
          let h = row-holds m f k (and_i (used r) (eqb f f) u (eqb_refl f)) in
          true-T (le-leb f (length m.faces) (in_table m.faces f (face-there f (k + 1) h (λ z. eqb-false f 0 e z))).1)

  by-face : sum_below (λ i. holders m (i + 1)) (length m.faces) ≡ all_holders m
  by-face =
      count-by-face (length m.faces) m.arcs (true-T (every-passes (λ r. not (used r) || leb (get_or r 4 0) (length m.faces)) m.arcs [] (λ k l. T_true _ (face-low k l))))

  -- no arc holds an unused row
  unheld : (i : ℕ) → there m.faces (i + 1) ≡ false → holders m (i + 1) ≡ 0
  unheld i u =
      count-sum (holds (i + 1)) m.arcs []
      ∙ sum-zero (λ k. bit (holds (i + 1) (get_or m.arcs k []))) (length m.arcs) (λ k l. ap bit (T_false (holds (i + 1) (get_or m.arcs k [])) (lib.Dec.not_T (holds (i + 1) (get_or m.arcs k [])) (clash k))))
    where
      clash : (k : ℕ) → T (holds (i + 1) (get_or m.arcs k [])) → ⊥
      clash k t = subst T u (face-there (i + 1) (k + 1) (row-holds m (i + 1) k t) (λ e. omega arith))

  -- sound rings together have as many arcs as hold a face
  pub counts-add : T (rings_sound m) → sum_below (on_rings m) (length m.faces) ≡ all_holders m
  unfolding rings_sound
  counts-add h = sum-ext (on_rings m) (λ i. holders m (i + 1)) (length m.faces) (λ i l. go i (there m.faces (i + 1)) refl) ∙ by-face
    where
      go : (i : ℕ) (b : Bool) → there m.faces (i + 1) ≡ b → cond b (length (ring m (i + 1))) 0 ≡ holders m (i + 1)
      go i true e = sym (ring-counts m (i + 1) (ring-parts m (i + 1) (used-at (ring_sound m) m.faces h (i + 1) (true-T e))))
      go i false e = sym (unheld i e)

  -- and whole rings that have as many are sound
  pub counts-show : T (each_used (ring_whole m) m.faces) → sum_below (on_rings m) (length m.faces) ≡ all_holders m → T (rings_sound m)
  unfolding rings_sound
  counts-show h e = used_all (ring_sound m) m.faces (λ f u. at f u)
    where
      whole-at : (f : ℕ) → T (there m.faces f) → RingWhole m f
      whole-at f u = whole_parts m f (used-at (ring_whole m) m.faces h f u)

      below : (i : ℕ) → i < length m.faces → on_rings m i ≤ holders m (i + 1)
      below i l = go (there m.faces (i + 1)) refl
        where
          go : (b : Bool) → there m.faces (i + 1) ≡ b → cond b (length (ring m (i + 1))) 0 ≤ holders m (i + 1)
          go true q = ring-le m (i + 1) (whole-at (i + 1) (true-T q))
          go false q = zero-le

      same : (i : ℕ) → i < length m.faces → on_rings m i ≡ holders m (i + 1)
      same = sum-tight (on_rings m) (λ i. holders m (i + 1)) (length m.faces) below (e ∙ sym by-face)

      at : (f : ℕ) → T (there m.faces f) → T (ring_sound m f)
      at f u =
          let b = in_table m.faces f u in
          let i : ℕ = f - 1 in
          let z : i + 1 ≡ f = omega arith in
          let u' : there m.faces (i + 1) ≡ true = T_true _ (subst (λ (y : ℕ). T (there m.faces y)) (sym z) u) in
          let n : length (ring m (i + 1)) ≡ holders m (i + 1) = rw u' at (same i (omega arith)) in
          let w = whole-at f u in
          sound-from m f w (all-on-ring m f w (subst (λ (y : ℕ). length (ring m y) ≡ holders m y) z n))

-- ---- the sum tells that the faces exist: an arc that held another would be counted at no ring

module _ (m : Mesh) where
  -- the row k holds the face in the row i, which is in use
  abbrev hit : ℕ → ℕ → ℕ
  hit k i = bit (there m.faces (i + 1) && holds (i + 1) (get_or m.arcs k []))

  hit-none : (k i : ℕ) → (T (there m.faces (i + 1)) → T (holds (i + 1) (get_or m.arcs k [])) → ⊥) → hit k i ≡ 0
  hit-none k i h =
      let u = there m.faces (i + 1) in
      let t = holds (i + 1) (get_or m.arcs k []) in
      ap bit (T_false (u && t) (lib.Dec.not_T (u && t) (λ b. h (and_l u t b) (and_r u t b))))

  -- column by column
  column : (i : ℕ) → cond (there m.faces (i + 1)) (holders m (i + 1)) 0 ≡ sum_below (λ k. hit k i) (length m.arcs)
  column i = go (there m.faces (i + 1))
    where
      go : (b : Bool) → cond b (holders m (i + 1)) 0 ≡ sum_below (λ k. bit (b && holds (i + 1) (get_or m.arcs k []))) (length m.arcs)
      go true = count-sum (holds (i + 1)) m.arcs []
      go false = sym (sum-zero (λ k. bit (false && holds (i + 1) (get_or m.arcs k []))) (length m.arcs) (λ k l. refl))

  -- and row by row
  module _ (k : ℕ) where
    abbrev row : List ℕ
    row = get_or m.arcs k []

    abbrev its : ℕ
    its = get_or (get_or m.arcs k []) 4 0

    at-face : (i : ℕ) → T (holds (i + 1) row) → its ≡ i + 1
    at-face i t = eqb→eq its (i + 1) (and_r (used row) (eqb its (i + 1)) t)

    row-le : sum_below (hit k) (length m.faces) ≤ bit (holds_some row)
    row-le = go (holds_some row) refl
      where
        go : (b : Bool) → holds_some row ≡ b → sum_below (hit k) (length m.faces) ≤ bit b
        go true e =
            let once = sum-le (hit k) (λ i. bit (eqb its (i + 1))) (length m.faces) (λ i l. bit_le (there m.faces (i + 1) && holds (i + 1) row) (eqb its (i + 1)) (λ t. and_r (used row) (eqb its (i + 1)) (and_r (there m.faces (i + 1)) (holds (i + 1) row) t))) in
            omega (arith, once, sum-hit-le its (length m.faces))
        go false e =
            let none = sum-zero (hit k) (length m.faces) (λ i l. hit-none k i (λ u t. subst T e (and_i (used row) (not (eqb its 0)) (and_l (used row) (eqb its (i + 1)) t) (differ-T its 0 (λ z. let q = at-face i t in omega arith))))) in
            omega (arith, none)

    row-none : there m.faces its ≡ false → sum_below (hit k) (length m.faces) ≡ 0
    row-none e =
        sum-zero (hit k) (length m.faces) (λ i l. hit-none k i (λ u t. subst T e (subst (λ (z : ℕ). T (there m.faces z)) (sym (at-face i t)) u)))

  abbrev row_sums : ℕ → ℕ
  row_sums k = sum_below (hit k) (length m.faces)

  abbrev row_bits : ℕ → ℕ
  row_bits k = bit (holds_some (get_or m.arcs k []))

  pub faces-from : T (each_used (ring_whole m) m.faces) → sum_below (on_rings m) (length m.faces) ≡ all_holders m → T (face_exists m)
  unfolding face_exists
  faces-from h e = used_all (λ x. unless_none (face m x) (there m.faces (face m x))) m.arcs at
    where
      below : (i : ℕ) → i < length m.faces → on_rings m i ≤ sum_below (λ k. hit k i) (length m.arcs)
      below i l = go (there m.faces (i + 1)) refl (column i)
        where
          go : (b : Bool) → there m.faces (i + 1) ≡ b → cond b (holders m (i + 1)) 0 ≡ sum_below (λ k. hit k i) (length m.arcs) → cond b (length (ring m (i + 1))) 0 ≤ sum_below (λ k. hit k i) (length m.arcs)
          go true q c = omega (arith, c, ring-le m (i + 1) (whole_parts m (i + 1) (used-at (ring_whole m) m.faces h (i + 1) (true-T q))))
          go false q c = zero-le

      same : (k : ℕ) → k < length m.arcs → row_sums k ≡ row_bits k
      same =
          sum-tight row_sums row_bits (length m.arcs) (λ k l. row-le k) (omega (arith, e, sum-le (on_rings m) (λ i. sum_below (λ k. hit k i) (length m.arcs)) (length m.faces) below, sum-swap hit (length m.arcs) (length m.faces), sum-le row_sums row_bits (length m.arcs) (λ k l. row-le k), count-sum holds_some m.arcs []))

      there-at : (k : ℕ) → k < length m.arcs → T (used (get_or m.arcs k [])) → T (unless_none (get_or (get_or m.arcs k []) 4 0) (there m.faces (get_or (get_or m.arcs k []) 4 0)))
      there-at k l u = go (eqb (its k) 0) refl (there m.faces (its k)) refl
        where
          go : (a : Bool) → eqb (its k) 0 ≡ a → (b : Bool) → there m.faces (its k) ≡ b → T (a || b)
          go true p b q = tt
          go false p true q = tt
          go false p false q =
              let s : holds_some (row k) ≡ true = rw (T_true (used (row k)) u, p) in
              let z : ⊥ = omega (arith, row-none k q, same k l, ap bit s) in
              absurd z

      at : (x : ℕ) → T (there m.arcs x) → T (unless_none (face m x) (there m.faces (face m x)))
      at x u =
          let b = in_table m.arcs x u in
          let k : ℕ = x - 1 in
          let z : k + 1 ≡ x = link_row x b.0 in
          let c : get_or (get_or m.arcs k []) 4 0 ≡ face m x = sym (cell_row m.arcs k 4) ∙ ap (face m) z in
          let w : T (used (get_or m.arcs k [])) = subst T (there-row m.arcs k) (subst (λ (y : ℕ). T (there m.arcs y)) (sym z) u) in
          subst (λ (y : ℕ). T (unless_none y (there m.faces y))) c (there-at k (omega arith) w)
