-- A ring whose arcs are kept is the same ring: as many arcs hold the face, in the same order, and it is the same list. So it is where they keep
-- their rows.
use Prim.Native.Nat.{ℕ, zero, suc, ◌+◌, ◌-◌, ◌≤◌, ◌<◌}
use native.Mathlib.Omega.{arith}
use native.Mathlib.Decide.{ℕ_discrete}
use mathlib.Core.Path.{◌≡◌, refl, ap, sym, subst, ◌∙◌}
use mathlib.Core.Bool.{not}
use mathlib.Core.List.{[]}
use lib.ListN.{length, get_or}
use lib.Dec.{T, eqb}
use Rattle.rules.specs.Table.{sum_below}
use Rattle.rules.specs.Mesh.{Mesh, ring_limit, source, next, previous, face_arc}
use Rattle.rules.specs.Link.{walk, ring}
use Rattle.rules.proofs.Counts.{bit}
use Rattle.rules.proofs.Sums.{same_test, sum-ext, count-sum}
use Rattle.proved.specs.Demand.{holds, Holds, holders, onward}
use Rattle.proved.specs.Facts.{RingFacts}
use Rattle.proved.proofs.Ring.{row-holds, holds_row}
use Rattle.proved.proofs.Around.{times_none, times_more}
use Rattle.kept.specs.Frame.{RingStays}

-- where the same arcs hold a face, as many do
pub holders-same : (m n : Mesh) (f : ℕ) → length n.arcs ≡ length m.arcs → ((x : ℕ) → Holds m f x → Holds n f x) → ((x : ℕ) → Holds n f x → Holds m f x) → holders n f ≡ holders m f
holders-same m n f e to from =
    count-sum (holds f) n.arcs []
    ∙ ap (sum_below (λ k. bit (holds f (get_or n.arcs k [])))) e
    ∙ sum-ext (λ k. bit (holds f (get_or n.arcs k []))) (λ k. bit (holds f (get_or m.arcs k []))) (length m.arcs)
    (λ k l. ap bit (same_test (holds f (get_or n.arcs k [])) (holds f (get_or m.arcs k []))
    (λ t. holds_row m f k (from (k + 1) (row-holds n f k t))) (λ t. holds_row n f k (to (k + 1) (row-holds m f k t)))))
    ∙ sym (count-sum (holds f) m.arcs [])

-- ---- what follows an arc of a ring, and what precedes it, is on the ring

module _ (m : Mesh) (f : ℕ) (r : RingFacts m f) where
  step-holds : (k : ℕ) → k < holders m f → Holds m f (next m (onward m f k))
  step-holds k l = subst (Holds m f) (times_more (next m) k (face_arc m f)) (go (ℕ_discrete (suc k) (holders m f)))
    where
      go : Dec (suc k ≡ holders m f) → Holds m f (onward m f (suc k))
      go (yes e) =
          let q : onward m f (suc k) ≡ onward m f 0 = ap (onward m f) e ∙ r.returns ∙ sym (times_none (next m) (face_arc m f)) in
          subst (Holds m f) (sym q) (r.each_holds 0 (omega (arith, r.at-least-3)))
      go (no ne) = r.each_holds (suc k) (omega arith)

  pub next-holds : (x : ℕ) → Holds m f x → Holds m f (next m x)
  next-holds x h = let w = r.each-met x h in subst (λ (z : ℕ). Holds m f (next m z)) w.2 (step-holds w.0 w.1)

  pub previous-holds : (x : ℕ) → Holds m f x → Holds m f (previous m x)
  previous-holds x h = go (r.each-met x h)
    where
      -- the arc after the one k steps on has that one before it
      from : (k : ℕ) → k < holders m f → onward m f (suc k) ≡ x → Holds m f (previous m x)
      from k l e =
          subst (Holds m f) (sym (r.runs-back k l) ∙ ap (previous m) (sym (times_more (next m) k (face_arc m f)) ∙ e)) (r.each_holds k l)

      at : (k : ℕ) → k < holders m f → onward m f k ≡ x → Holds m f (previous m x)
      at zero l e =
          let k : ℕ = holders m f - 1 in
          let z : suc k ≡ holders m f = omega arith in
          from k (omega arith) (ap (onward m f) z ∙ r.returns ∙ sym (times_none (next m) (face_arc m f)) ∙ e)
      at (suc k) l e = from k (omega arith) e

      go : (k : ℕ) × (k < holders m f) × (onward m f k ≡ x) → Holds m f (previous m x)
      go w = at w.0 w.1 w.2

-- ---- the same ring as a list

-- a face's record names an arc that holds it
pub first_holds : (m : Mesh) (f : ℕ) → RingFacts m f → Holds m f (face_arc m f)
first_holds m f r = subst (Holds m f) (times_none (next m) (face_arc m f)) (r.each_holds 0 (omega (arith, r.at-least-3)))

-- a walk by another step is the same where the two agree on all that it comes to
walk_same : (P : ℕ → Type 0) (step other : ℕ → ℕ) (first : ℕ) → ((x : ℕ) → P x → other x ≡ step x) → ((x : ℕ) → P x → P (step x))
    → (n x : ℕ) → P x → walk other first n x ≡ walk step first n x
unfolding walk
walk_same P step other first same on zero x p = refl
walk_same P step other first same on (suc n) zero p = refl
walk_same P step other first same on (suc n) (suc x) p =
    rw (same (suc x) p, walk_same P step other first same on n (step (suc x)) (on (suc x) p))

pub ring-same : (m n : Mesh) (f : ℕ) → RingFacts m f → face_arc n f ≡ face_arc m f → ((x : ℕ) → Holds m f x → next n x ≡ next m x)
    → ring n f ≡ ring m f
unfolding ring
ring-same m n f r first same =
    let x = face_arc m f in
    rw first (walk_same (Holds m f) (next m) (next n) x same (next-holds m f r) ring_limit x (first_holds m f r))

-- ---- a ring that is kept, by what its facts read

-- the ring of the face f is the same in n as in m: its record names the same arc, and the arcs that hold it are the same, with their sources, and
-- with what follows and precedes them
pub record RingKept (m n : Mesh) (f : ℕ) : Type 0 where
  pub first : face_arc n f ≡ face_arc m f
  pub rows : length n.arcs ≡ length m.arcs
  pub still-hold : (x : ℕ) → Holds m f x → Holds n f x
  pub no_more : (x : ℕ) → Holds n f x → Holds m f x
  pub sources : (x : ℕ) → Holds m f x → source n x ≡ source m x
  pub nexts : (x : ℕ) → Holds m f x → next n x ≡ next m x
  pub previouses : (x : ℕ) → Holds m f x → previous n x ≡ previous m x

module _ (m n : Mesh) (f : ℕ) (s : RingKept m n f) (r : RingFacts m f) where
  as_many : holders n f ≡ holders m f
  as_many = holders-same m n f s.rows s.still-hold s.no_more

  onward-same : (k : ℕ) → k ≤ holders m f → onward n f k ≡ onward m f k
  onward-same zero l = times_none (next n) (face_arc n f) ∙ s.first ∙ sym (times_none (next m) (face_arc m f))
  onward-same (suc k) l =
      times_more (next n) k (face_arc n f)
      ∙ ap (next n) (onward-same k (omega arith))
      ∙ s.nexts (onward m f k) (r.each_holds k l)
      ∙ sym (times_more (next m) k (face_arc m f))

  low : (k : ℕ) → k < holders n f → k < holders m f
  low k l = rw as_many at l

  pub ring-kept : RingFacts n f
  ring-kept =
      record {
        returns = ap (onward n f) as_many ∙ onward-same (holders m f) (omega arith) ∙ r.returns ∙ sym s.first;
        not-before = λ k a l e. r.not-before k a (low k l) (sym (onward-same k (omega (arith, low k l))) ∙ e ∙ s.first);
        at-least-3 = rw as_many r.at-least-3;
        at-most-64 = rw as_many r.at-most-64;
        sources-differ = λ j k a b e. r.sources-differ j k (low j a) (low k b) (sym (from j (low j a)) ∙ e ∙ from k (low k b));
        each_holds = λ k l. subst (Holds n f) (sym (onward-same k (omega (arith, low k l)))) (s.still-hold (onward m f k) (r.each_holds k (low k l)));
        each-met = λ x h. met x (r.each-met x (s.no_more x h));
        runs-back = λ k l. back k (low k l);
      }
    where
      -- the source of the arc k steps on, and the arc after it
      from : (k : ℕ) → k < holders m f → source n (onward n f k) ≡ source m (onward m f k)
      from k l = ap (source n) (onward-same k (omega arith)) ∙ s.sources (onward m f k) (r.each_holds k l)

      after : (k : ℕ) → k < holders m f → next n (onward n f k) ≡ next m (onward m f k)
      after k l = ap (next n) (onward-same k (omega arith)) ∙ s.nexts (onward m f k) (r.each_holds k l)

      met : (x : ℕ) → (k : ℕ) × (k < holders m f) × (onward m f k ≡ x) → (k : ℕ) × (k < holders n f) × (onward n f k ≡ x)
      met x w = (w.0, rw as_many w.1, onward-same w.0 (omega (arith, w.1)) ∙ w.2)

      back : (k : ℕ) → k < holders m f → previous n (next n (onward n f k)) ≡ onward n f k
      back k l =
          ap (previous n) (after k l) ∙ s.previouses (next m (onward m f k)) (step-holds m f r k l) ∙ r.runs-back k l ∙ sym (onward-same k (omega arith))

-- ---- a ring that stays is kept

stays-kept : (m n : Mesh) (f : ℕ) → RingStays m n f → RingKept m n f
stays-kept m n f s =
    record {
      first = s.first;
      rows = s.rows;
      still-hold = λ x h. record { exists = subst (λ (z : ℕ). T (not (eqb z 0))) (sym (s.keeps x 0 h)) h.exists; its-face = s.keeps x 4 h ∙ h.its-face };
      no_more = s.no_more;
      sources = λ x h. s.keeps x 0 h;
      nexts = λ x h. s.keeps x 2 h;
      previouses = λ x h. s.keeps x 3 h;
    }

pub ring-stays : (m n : Mesh) (f : ℕ) → RingStays m n f → RingFacts m f → RingFacts n f
ring-stays m n f s = ring-kept m n f (stays-kept m n f s)

-- ---- rings that stay, one edit after another

pub stays-none : (m : Mesh) (f : ℕ) → RingStays m m f
stays-none m f = record { first = refl; rows = refl; keeps = λ x c h. refl; no_more = λ x h. h }

pub stays-onto : {m a n : Mesh} {f : ℕ} → RingStays m a f → RingStays a n f → RingStays m n f
stays-onto {m} {a} {n} {f} p q =
    record {
      first = q.first ∙ p.first;
      rows = q.rows ∙ p.rows;
      keeps = λ x c h. q.keeps x c (record { exists = subst (λ (z : ℕ). T (not (eqb z 0))) (sym (p.keeps x 0 h)) h.exists; its-face = p.keeps x 4 h ∙ h.its-face }) ∙ p.keeps x c h;
      no_more = λ x h. p.no_more x (q.no_more x h);
    }
