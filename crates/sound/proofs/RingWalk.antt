-- A walk along a ring: what is known of the arcs passed. A whole ring is a walk that comes back, and a walk that comes back is the ring.
use Prim.Native.Nat.{ℕ, ◌+◌, ◌≤◌, ◌<◌}
use native.Mathlib.Numerals.{add-one}
use native.Mathlib.Omega.{arith}
use native.Mathlib.Decide.{ℕ_discrete, dec_lt}
use mathlib.Core.Path.{◌≡◌, ap, sym, subst, ◌∙◌}
use mathlib.Core.Bool.{Bool, cond, ◌&&◌}
use lib.ListN.{length, get_or}
use lib.Dec.{T, eqb, leb, le→leb}
use lib.Ieee.Fits.{and_l, and_r, and_i}
use borrow.Author.Tests.{le-leb, lt-leb}
use Rattle.rules.specs.Table.{Table, cell, there, every, times}
use Rattle.rules.specs.Mesh.{Mesh, ring_limit, source, next, previous, face, face_arc}
use Rattle.rules.specs.Link.{ring, ring_ended}
use Rattle.rules.specs.Sound.{names_holder, comes_back, three_to_limit, sources_differ, ring_holds, runs_back}
use Rattle.rules.proofs.Scan.{every-passes}
use Rattle.rules.proofs.Sums.{every-has}
use Rattle.proved.proofs.Rows.{T_true, T_false, true-T, in_table}
use Rattle.proved.proofs.Around.{times_none, times_more, walk_at, walk-back, place-has, one_place, places-differ, walk-closes}
use Rattle.sound.specs.Rings.{ring_arc, ring_whole, ring_length}
use Rattle.sound.proofs.RingRows.{ring-few}
use Rattle.sound.proofs.Counting.{whole_parts, whole-three}

-- ---- the arcs passed

module _ (arcs : Table) (first f : ℕ) where
  -- the arc k steps on
  abbrev pub on : ℕ → ℕ
  on k = times (λ y. cell arcs y 2) k first

  -- the first n pass, and no two of them have one source
  pub record Walked (n : ℕ) : Type 0 where
    pub passes : (k : ℕ) → k < n → T (ring_arc arcs f (on k))
    pub apart : (j k : ℕ) → j < n → k < n → cell arcs (on j) 0 ≡ cell arcs (on k) 0 → j ≡ k

  -- and no step up to the nth is back at the first
  abbrev pub Away : ℕ → Type 0
  Away n = (k : ℕ) → 1 ≤ k → k ≤ n → on k ≡ first → ⊥

  pub on_none : on 0 ≡ first
  on_none = times_none (λ y. cell arcs y 2) first

  pub on-more : (n : ℕ) → on (n + 1) ≡ cell arcs (on n) 2
  on-more n = rw (add-one n) (times_more (λ y. cell arcs y 2) n first)

  pub away-none : Away 0
  away-none k a b e = omega arith

  pub away-more : (n : ℕ) → Away n → (on (n + 1) ≡ first → ⊥) → Away (n + 1)
  away-more n h z k a b e = go (ℕ_discrete k (n + 1))
    where
      go : Dec (k ≡ n + 1) → ⊥
      go (yes q) = z (ap on (sym q) ∙ e)
      go (no q) = h k a (omega arith) e

-- ---- and the ring

module _ (m : Mesh) (f : ℕ) where
  abbrev a : Table
  a = m.arcs

  abbrev o : ℕ
  o = face_arc m f

  pub place-on : (k : ℕ) → k < length (ring m f) → get_or (ring m f) k 0 ≡ on a o f k
  unfolding ring
  place-on k l = walk_at (next m) o ring_limit o k l

  -- a whole ring is such a walk, and comes back
  pub whole-walked : T (ring_whole m f) → Walked a o f (length (ring m f))
  unfolding ring_arc ring_holds runs_back sources_differ
  whole-walked h =
      let w = whole_parts m f h in
      record {
        passes = λ k l. subst (λ (x : ℕ). T (ring_arc a f x)) (place-on k l) (and_i (there a (get_or (ring m f) k 0) && eqb (face m (get_or (ring m f) k 0)) f) (eqb (previous m (next m (get_or (ring m f) k 0))) (get_or (ring m f) k 0)) (every-has (λ x. there a x && eqb (face m x) f) (ring m f) w.ring-holds _ (place-has (ring m f) k l)) (every-has (λ x. eqb (previous m (next m x)) x) (ring m f) w.runs-back _ (place-has (ring m f) k l)));
        apart = λ j k p q e. one_place (source m) (ring m f) w.sources-differ j k p q (ap (source m) (place-on j p) ∙ e ∙ sym (ap (source m) (place-on k q)));
      }

  whole_back : T (ring_whole m f) → on a o f (length (ring m f)) ≡ o
  unfolding ring ring_ended comes_back
  whole_back h = walk-back (next m) o ring_limit o (whole_parts m f h).comes_back

  -- it is longer than a walk that is not back yet
  pub longer : T (ring_whole m f) → (n : ℕ) → Away a o f n → n < length (ring m f)
  longer h n z = go (dec_lt n (length (ring m f)))
    where
      go : Dec (n < length (ring m f)) → n < length (ring m f)
      go (yes l) = l
      go (no l) = absurd (z (length (ring m f)) (omega (arith, whole-three m f h)) (omega arith) (whole_back h))

  none-long : (T (ring_whole m f) → ⊥) → 0 ≡ ring_length m f
  unfolding ring_length
  none-long h = rw (T_false (ring_whole m f) (lib.Dec.not_T (ring_whole m f) h))

  -- a walk that comes back is the ring
  module _ (n : ℕ) (w : Walked a o f (n + 1)) (z : Away a o f n) (e : on a o f (n + 1) ≡ o) (few : n < 64) where
    holds : (k : ℕ) → k < n + 1 → T (there a (on a o f k) && eqb (face m (on a o f k)) f)
    unfolding ring_arc
    holds k l = and_l (there a (on a o f k) && eqb (face m (on a o f k)) f) _ (w.passes k l)

    back : (k : ℕ) → k < n + 1 → T (eqb (previous m (next m (on a o f k))) (on a o f k))
    unfolding ring_arc
    back k l = and_r (there a (on a o f k) && eqb (face m (on a o f k)) f) _ (w.passes k l)

    closes : T (comes_back m f) × (length (ring m f) ≡ n + 1)
    unfolding comes_back ring ring_ended
    closes =
        walk-closes (next m) o (n + 1) ring_limit o (omega arith) (omega arith)
        (record { some-on = λ k l. (in_table a (on a o f k) (and_l (there a (on a o f k)) _ (holds k l))).0; back_at = e; none_before = λ k p q. z k p (omega arith) })

    pub every-on : (p : ℕ → Bool) → ((k : ℕ) → k < n + 1 → T (p (on a o f k))) → T (every p (ring m f))
    every-on p h = true-T (every-passes p (ring m f) 0 (λ k l. T_true _ (subst (λ (x : ℕ). T (p x)) (sym (place-on k l)) (h k (rw closes.1 at l)))))

    whole : 3 ≤ n + 1 → T (ring_whole m f)
    unfolding ring_whole names_holder three_to_limit sources_differ ring_holds runs_back
    whole t =
        and_i (names_holder m f) _ (subst (λ (x : ℕ). T (there a x && eqb (face m x) f)) (on_none a o f) (holds 0 (omega arith)))
        (and_i (comes_back m f) _ closes.0
        (and_i (three_to_limit m f) _ (and_i (leb 3 (length (ring m f))) (leb (length (ring m f)) ring_limit) (le→leb 3 (length (ring m f)) (rw closes.1 t)) (le→leb (length (ring m f)) ring_limit (ring-few m f)))
        (and_i (sources_differ m f) _ (places-differ (source m) (ring m f) (λ j k p q r. w.apart j k (rw closes.1 at p) (rw closes.1 at q) (sym (ap (source m) (place-on j p)) ∙ r ∙ ap (source m) (place-on k q))))
        (and_i (ring_holds m f) (runs_back m f) (every-on (λ x. there a x && eqb (face m x) f) holds) (every-on (λ x. eqb (previous m (next m x)) x) back)))))

    pub length-is : cond (leb 3 (n + 1)) (n + 1) 0 ≡ ring_length m f
    unfolding ring_length
    length-is = go (dec_lt n 2)
      where
        go : Dec (n < 2) → cond (leb 3 (n + 1)) (n + 1) 0 ≡ cond (ring_whole m f) (length (ring m f)) 0
        go (yes l) = rw (lt-leb 3 (n + 1) (omega arith)) (none-long (λ h. let q = whole-three m f h in omega (arith, closes.1)))
        go (no l) = rw (le-leb 3 (n + 1) (omega arith), T_true (ring_whole m f) (whole (omega arith)), closes.1)

-- ---- on the table that the code reads

module _ (m : Mesh) (f : ℕ) (arcs : Table) (first : ℕ) (ea : m.arcs ≡ arcs) (ef : face_arc m f ≡ first) (n : ℕ) where
  as_read : (P : Table → ℕ → Type 0) → P m.arcs (face_arc m f) → P arcs first
  as_read P p = subst (λ (t : Table). P t first) ea (subst (λ (x : ℕ). P m.arcs x) ef p)

  -- 64 arcs, and not back
  pub end-fails : Away arcs first f n → 64 ≤ n → 0 ≡ ring_length m f
  end-fails = as_read (λ t x. Away t x f n → 64 ≤ n → 0 ≡ ring_length m f) (λ z l. none-long m f (λ h. let b = longer m f h n z in omega (arith, ring-few m f)))
