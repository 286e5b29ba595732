-- What soundness says of one ring: next from the arc that a face's record names comes back after as many arcs as hold that face,
-- not before, meets each once, previous runs it backwards, and the arity reported is that number.
use Prim.Native.Nat.{ℕ, zero, suc, ◌+◌, ◌-◌, ◌≤◌, ◌<◌}
use native.Mathlib.Nat.{not-suc-le-zero}
use native.Mathlib.Omega.{arith}
use mathlib.Core.Path.{◌≡◌, ap, sym, subst, ◌∙◌}
use mathlib.Core.Bool.{Bool, not, ◌&&◌, ◌||◌}
use mathlib.Core.List.{[]}
use lib.ListN.{length, get_or}
use lib.Dec.{T, eqb, leb, eqb→eq, leb→le, le→leb}
use lib.Ieee.Fits.{and_l, and_r, and_i}
use borrow.Author.Tests.{ne_eqb}
use Rattle.rules.specs.Answer.{Arity}
use Rattle.rules.specs.Table.{there, used, has, distinct, every}
use Rattle.rules.specs.Mesh.{Mesh, ring_limit, source, next, previous, face, face_arc, key_at, find_face}
use Rattle.rules.specs.Link.{ring, ring_ended}
use Rattle.rules.specs.Sound.{Sound, sound, names_holder, comes_back, three_to_limit, sources_differ, ring_holds, holders_on_ring, runs_back, ring_sound, rings_sound}
use Rattle.rules.specs.Call.{face_arity}
use Rattle.rules.proofs.Counts.{bit}
use Rattle.rules.proofs.Sums.{same_test, sum-ext, every-has, distinct-map, sum-list, count-sum}
use Rattle.rules.proofs.Scan.{every-passes}
use Rattle.proved.specs.Facts.{RingFacts}
use Rattle.proved.specs.Demand.{holds, Holds, holders, onward, backward, RingOf}
use Rattle.proved.proofs.Rows.{T_true, true-T, same-T, if-so, so-if, cell_row, there-row, in_table, used-at, used_all}
use Rattle.proved.proofs.Keys.{find-key}
use Rattle.proved.proofs.Around.{times_none, times_more, walk_at, walk-back, not-before, has-place, place-has, one_place, places-differ, walk-closes}
use Rattle.proved.proofs.SoundParts.{parts, sizes, keys-distinct}

-- ---- a sound ring, by name

pub record RingSound (m : Mesh) (f : ℕ) : Type 0 where
  pub names-holder : T (names_holder m f)
  pub comes_back : T (comes_back m f)
  pub three-to-limit : T (three_to_limit m f)
  pub sources-differ : T (sources_differ m f)
  pub ring-holds : T (ring_holds m f)
  pub holders-on-ring : T (holders_on_ring m f)
  pub runs-back : T (runs_back m f)

pub ring-parts : (m : Mesh) (f : ℕ) → T (ring_sound m f) → RingSound m f
unfolding ring_sound
ring-parts m f h =
    let h₁ = and_r (names_holder m f) _ h in
    let h₂ = and_r (comes_back m f) _ h₁ in
    let h₃ = and_r (three_to_limit m f) _ h₂ in
    let h₄ = and_r (sources_differ m f) _ h₃ in
    let h₅ = and_r (ring_holds m f) _ h₄ in
    record {
      names-holder = and_l (names_holder m f) _ h;
      comes_back = and_l (comes_back m f) _ h₁;
      three-to-limit = and_l (three_to_limit m f) _ h₂;
      sources-differ = and_l (sources_differ m f) _ h₃;
      ring-holds = and_l (ring_holds m f) _ h₄;
      holders-on-ring = and_l (holders_on_ring m f) _ h₅;
      runs-back = and_r (holders_on_ring m f) _ h₅;
    }

pub ring-whole : (m : Mesh) (f : ℕ) → RingSound m f → T (ring_sound m f)
unfolding ring_sound
ring-whole m f s =
    and_i (names_holder m f) _ s.names-holder
    (and_i (comes_back m f) _ s.comes_back
    (and_i (three_to_limit m f) _ s.three-to-limit
    (and_i (sources_differ m f) _ s.sources-differ
    (and_i (ring_holds m f) _ s.ring-holds (and_i (holders_on_ring m f) (runs_back m f) s.holders-on-ring s.runs-back)))))

pub ring-at : (m : Mesh) → Sound m → (f : ℕ) → T (there m.faces f) → RingSound m f
unfolding rings_sound
ring-at m s f h = ring-parts m f (used-at (ring_sound m) m.faces s.rings-sound f h)

-- ---- an arc that holds a face, by its row

pub row-holds : (m : Mesh) (f k : ℕ) → T (holds f (get_or m.arcs k [])) → Holds m f (k + 1)
row-holds m f k h =
    let r = get_or m.arcs k [] in
    record {
      exists = subst T (sym (there-row m.arcs k)) (and_l (used r) (eqb (get_or r 4 0) f) h);
      its-face = cell_row m.arcs k 4 ∙ eqb→eq (get_or r 4 0) f (and_r (used r) (eqb (get_or r 4 0) f) h);
    }

pub holds_row : (m : Mesh) (f k : ℕ) → Holds m f (k + 1) → T (holds f (get_or m.arcs k []))
holds_row m f k h =
    let r = get_or m.arcs k [] in
    and_i (used r) (eqb (get_or r 4 0) f) (subst T (there-row m.arcs k) h.exists) (same-T (get_or r 4 0) f (sym (cell_row m.arcs k 4) ∙ h.its-face))

-- ---- one ring

module _ (m : Mesh) (f : ℕ) (s : RingSound m f) where
  -- the arcs on the ring are those that hold the face
  on-ring : (x : ℕ) → T (has (ring m f) x) → Holds m f x
  unfolding ring_holds
  on-ring x i =
      let h = every-has (λ y. there m.arcs y && eqb (face m y) f) (ring m f) s.ring-holds x i in
      record { exists = and_l (there m.arcs x) (eqb (face m x) f) h; its-face = eqb→eq (face m x) f (and_r (there m.arcs x) (eqb (face m x) f) h) }

  holder-on : (x : ℕ) → Holds m f x → T (has (ring m f) x)
  unfolding holders_on_ring
  holder-on x h =
      if-so (eqb (face m x) f) (has (ring m f) x) (used-at (λ y. not (eqb (face m y) f) || has (ring m f) y) m.arcs s.holders-on-ring x h.exists) (same-T (face m x) f h.its-face)

  arcs-differ : T (distinct (ring m f))
  unfolding sources_differ
  arcs-differ = distinct-map (source m) (ring m f) s.sources-differ

  -- so there are as many as the ring is long
  pub ring-counts : holders m f ≡ length (ring m f)
  ring-counts =
      let n = length m.arcs in
      let l = ring m f in
      let same = sum-ext (λ k. bit (holds f (get_or m.arcs k []))) (λ k. bit (has l (k + 1))) n
      (λ k q. ap bit (same_test (holds f (get_or m.arcs k [])) (has l (k + 1))
      (λ t. holder-on (k + 1) (row-holds m f k t)) (λ t. holds_row m f k (on-ring (k + 1) t)))) in
      count-sum (holds f) m.arcs [] ∙ same ∙ sum-list l n arcs-differ (λ x i. in_table m.arcs x (on-ring x i).exists)

  -- place k of the ring is k steps on
  step-at : (k : ℕ) → k < holders m f → get_or (ring m f) k 0 ≡ onward m f k
  unfolding ring
  step-at k l = walk_at (next m) (face_arc m f) ring_limit (face_arc m f) k (rw ring-counts at l)

  step-on : (k : ℕ) → k < holders m f → T (has (ring m f) (onward m f k))
  step-on k l = subst (λ (x : ℕ). T (has (ring m f) x)) (step-at k l) (place-has (ring m f) k (rw ring-counts at l))

  returns : onward m f (holders m f) ≡ face_arc m f
  unfolding ring ring_ended comes_back
  returns = rw ring-counts (walk-back (next m) (face_arc m f) ring_limit (face_arc m f) s.comes_back)

  none_before : (k : ℕ) → 1 ≤ k → k < holders m f → onward m f k ≡ face_arc m f → ⊥
  unfolding ring
  none_before zero a l e = not-suc-le-zero a
  none_before (suc k) a l e = not-before (next m) (face_arc m f) ring_limit (face_arc m f) k (rw ring-counts at l) e

  three : 3 ≤ holders m f
  unfolding three_to_limit
  three = rw ring-counts (leb→le 3 (length (ring m f)) (and_l (leb 3 (length (ring m f))) (leb (length (ring m f)) ring_limit) s.three-to-limit))

  limit : holders m f ≤ 64
  unfolding three_to_limit
  limit = rw ring-counts (leb→le (length (ring m f)) ring_limit (and_r (leb 3 (length (ring m f))) (leb (length (ring m f)) ring_limit) s.three-to-limit))

  met : (x : ℕ) → Holds m f x → (k : ℕ) × (k < holders m f) × (onward m f k ≡ x)
  met x h = go (has-place (ring m f) x (holder-on x h))
    where
      go : (k : ℕ) × (k < length (ring m f)) × (get_or (ring m f) k 0 ≡ x) → (k : ℕ) × (k < holders m f) × (onward m f k ≡ x)
      go w = let l : w.0 < holders m f = rw ring-counts w.1 in (w.0, l, sym (step-at w.0 l) ∙ w.2)

  sources : (j k : ℕ) → j < holders m f → k < holders m f → source m (onward m f j) ≡ source m (onward m f k) → j ≡ k
  unfolding sources_differ
  sources j k a b e =
      one_place (source m) (ring m f) s.sources-differ j k (rw ring-counts at a) (rw ring-counts at b) (ap (source m) (step-at j a) ∙ e ∙ sym (ap (source m) (step-at k b)))

  -- previous of next is the arc itself
  back_one : (k : ℕ) → k < holders m f → previous m (next m (onward m f k)) ≡ onward m f k
  unfolding runs_back
  back_one k l =
      let x = onward m f k in
      eqb→eq (previous m (next m x)) x (every-has (λ y. eqb (previous m (next m y)) y) (ring m f) s.runs-back x (step-on k l))

  pub ring-facts : RingFacts m f
  ring-facts =
      record {
        returns = returns;
        not-before = none_before;
        at-least-3 = three;
        at-most-64 = limit;
        sources-differ = sources;
        each_holds = λ k l. on-ring (onward m f k) (step-on k l);
        each-met = met;
        runs-back = back_one;
      }

-- previous runs the ring backwards
pub back : (m : Mesh) (f : ℕ) → RingFacts m f → (k : ℕ) → k ≤ holders m f → backward m f k ≡ onward m f (holders m f - k)
back m f s zero l = let z : holders m f - 0 ≡ holders m f = omega arith in times_none (previous m) (face_arc m f) ∙ sym (rw z s.returns)
back m f s (suc k) l =
    let j : ℕ = holders m f - suc k in
    let z : holders m f - k ≡ suc j = omega arith in
    times_more (previous m) k (face_arc m f)
    ∙ ap (previous m) (back m f s k (omega arith) ∙ ap (onward m f) z ∙ times_more (next m) j (face_arc m f))
    ∙ s.runs-back j (omega arith)

-- ---- and the other way: a ring of which these facts hold passes the tests

module _ (m : Mesh) (f : ℕ) (s : RingFacts m f) where
  ring-closes : T (comes_back m f) × (length (ring m f) ≡ holders m f)
  unfolding comes_back ring ring_ended
  ring-closes =
      walk-closes (next m) (face_arc m f) (holders m f) ring_limit (face_arc m f) (omega (arith, s.at-least-3)) s.at-most-64
      (record { some-on = λ k l. (in_table m.arcs (onward m f k) (s.each_holds k l).exists).0; back_at = s.returns; none_before = s.not-before })

  place_at : (k : ℕ) → k < length (ring m f) → get_or (ring m f) k 0 ≡ onward m f k
  unfolding ring
  place_at k l = walk_at (next m) (face_arc m f) ring_limit (face_arc m f) k l

  place-low : (k : ℕ) → k < length (ring m f) → k < holders m f
  place-low k l = rw ring-closes.1 at l

  -- a test that each step passes, every arc of the ring passes
  ring-every : (p : ℕ → Bool) → ((k : ℕ) → k < holders m f → T (p (onward m f k))) → T (every p (ring m f))
  ring-every p h = true-T (every-passes p (ring m f) 0 (λ k l. T_true _ (subst (λ (x : ℕ). T (p x)) (sym (place_at k l)) (h k (place-low k l)))))

  met-on : (x : ℕ) → Holds m f x → T (has (ring m f) x)
  met-on x h = go (s.each-met x h)
    where
      go : (k : ℕ) × (k < holders m f) × (onward m f k ≡ x) → T (has (ring m f) x)
      go w = let l : w.0 < length (ring m f) = rw ring-closes.1 w.1 in subst (λ (y : ℕ). T (has (ring m f) y)) (place_at w.0 l ∙ w.2) (place-has (ring m f) w.0 l)

  pub ring-from : RingSound m f
  unfolding names_holder three_to_limit sources_differ ring_holds holders_on_ring runs_back
  ring-from =
      let none : onward m f 0 ≡ face_arc m f = times_none (next m) (face_arc m f) in
      let first = s.each_holds 0 (omega (arith, s.at-least-3)) in
      record {
        names-holder = and_i (there m.arcs (face_arc m f)) (eqb (face m (face_arc m f)) f) (subst (λ (x : ℕ). T (there m.arcs x)) none first.exists) (same-T (face m (face_arc m f)) f (sym (ap (face m) none) ∙ first.its-face));
        comes_back = ring-closes.0;
        three-to-limit = and_i (leb 3 (length (ring m f))) (leb (length (ring m f)) ring_limit) (le→leb 3 (length (ring m f)) (rw ring-closes.1 s.at-least-3)) (le→leb (length (ring m f)) ring_limit (rw ring-closes.1 s.at-most-64));
        sources-differ = places-differ (source m) (ring m f) (λ j k a b e. s.sources-differ j k (place-low j a) (place-low k b) (sym (ap (source m) (place_at j a)) ∙ e ∙ ap (source m) (place_at k b)));
        ring-holds = ring-every (λ x. there m.arcs x && eqb (face m x) f) (λ k l. and_i (there m.arcs (onward m f k)) (eqb (face m (onward m f k)) f) (s.each_holds k l).exists (same-T (face m (onward m f k)) f (s.each_holds k l).its-face));
        holders-on-ring = used_all (λ x. not (eqb (face m x) f) || has (ring m f) x) m.arcs (λ x u. so-if (eqb (face m x) f) (has (ring m f) x) (λ e. met-on x (record { exists = u; its-face = eqb→eq (face m x) f e })));
        runs-back = ring-every (λ x. eqb (previous m (next m x)) x) (λ k l. same-T _ _ (s.runs-back k l));
      }

-- ---- the arity

pub face-found : (m : Mesh) → Sound m → (f : ℕ) → T (there m.faces f) → find_face m (key_at m.faces f) ≡ f
face-found m s f h = find-key m.faces (omega (arith, (sizes m s.within-limits).face-rows)) (keys-distinct m s.keys-differ).2 f h

pub arity-reported : (m : Mesh) → T (sound m) → (f : ℕ) → T (there m.faces f) → face_arity m (key_at m.faces f) ≡ Arity (length (ring m f))
unfolding face_arity
arity-reported m t f h =
    let b = in_table m.faces f h in
    rw (T_true (sound m) t, face-found m (parts m t) f h, ne_eqb f 0 (λ e. omega arith))

-- ---- all of it

pub ring_of : (m : Mesh) → T (sound m) → (f : ℕ) → T (there m.faces f) → RingOf m f
ring_of m t f h =
    let r = ring-at m (parts m t) f h in
    let s = ring-facts m f r in
    record {
      comes_back = s.returns;
      not-before = s.not-before;
      at-least-3 = s.at-least-3;
      at-most-64 = s.at-most-64;
      meets-holders = s.each_holds;
      meets-each = s.each-met;
      meets-once = λ j k a b e. s.sources-differ j k a b (ap (source m) e);
      backwards = back m f s;
      reported = arity-reported m t f h ∙ ap Arity (sym (ring-counts m f r));
    }
