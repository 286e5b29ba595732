-- The tests of rings near an edit tell whether its result is sound: each test is a fact about rings (kept), and these facts make the result
-- sound; and in a sound mesh every test passes.
use Prim.Native.Nat.{ℕ, zero, suc, ◌+◌, ◌-◌, ◌≤◌, ◌<◌, zero-le, suc-le-suc}
use native.Mathlib.Nat.{le_of_suc-le-suc, not-suc-le-zero}
use native.Mathlib.Omega.{arith}
use native.Mathlib.Decide.{ℕ_discrete, dec_le}
use mathlib.Core.Path.{◌≡◌, refl, sym, subst, ◌∙◌}
use mathlib.Core.Bool.{Bool, true, false, ◌&&◌, ◌||◌}
use mathlib.Core.List.{List}
use mathlib.Core.Logic.{◌⊎◌}
use lib.ListN.{length, get_or}
use lib.Dec.{T, eqb, leb, eqb→eq, leb→le, le→leb}
use lib.Ieee.Fits.{and_l, and_r, and_i}
use Rattle.rules.specs.Table.{cell, there, every, has, times}
use Rattle.rules.specs.Mesh.{Mesh, source, dest, next, previous, face, face_arc, key_at, face_kind, next_key}
use Rattle.rules.specs.Sound.{sound}
use Rattle.rules.proofs.Scan.{every-passes}
use Rattle.rules.proofs.Sums.{or_else, or_cases, or_l, or_r, same_test, all-at, every-has}
use Rattle.proved.specs.Demand.{Holds, onward}
use Rattle.proved.specs.Facts.{IsArc, IsFace, SoundFacts}
use Rattle.proved.proofs.Rows.{T_true, true-T, differ, differ-T, same-T, if-so, so-if, all_from, link_row, cell_row, in_table}
use Rattle.proved.proofs.Around.{times-shift}
use Rattle.proved.proofs.Clauses.{facts, sound-from}
use Rattle.kept.specs.Frame.{AllButRings}
use Rattle.kept.specs.Local.{Local, FacesSince, OnItsRing, RingAt, RingWalked}
use Rattle.kept.proofs.ResultSound.{result-sound, sound-ring-at, sound-returns, sound-onward}
use Rattle.pairs.specs.Near.{is_marked}
use Rattle.nearby.specs.Rings.{ring_at, held_at, walked_from, new_ring, new_rings, rings_hold}
use Rattle.nearby.proofs.RingTests.{new_at}

-- ---- an arc

module _ (n : Mesh) where
  -- the test of an arc's ring is the fact
  ring-told : (x : ℕ) → T (ring_at n.arcs x) → RingAt n x
  unfolding ring_at
  ring-told x t u some =
      let follows = eqb (face n (next n x)) (face n x) in
      let precedes = eqb (face n (previous n x)) (face n x) in
      let w = or_else (eqb (face n x) 0) (follows && precedes) (if-so (there n.arcs x) (eqb (face n x) 0 || (follows && precedes)) t u) (differ-T (face n x) 0 some) in
      record { follows = eqb→eq _ _ (and_l follows precedes w); precedes = eqb→eq _ _ (and_r follows precedes w) }

  -- and the other way round
  ring-tells : (x : ℕ) → RingAt n x → T (ring_at n.arcs x)
  unfolding ring_at
  ring-tells x r = so-if (there n.arcs x) (eqb (face n x) 0 || (follows && precedes)) (λ u. go u (ℕ_discrete (face n x) 0))
    where
      follows : Bool
      follows = eqb (face n (next n x)) (face n x)

      precedes : Bool
      precedes = eqb (face n (previous n x)) (face n x)

      go : IsArc n x → Dec (face n x ≡ 0) → T (eqb (face n x) 0 || (follows && precedes))
      go u (yes z) = or_l (eqb (face n x) 0) (follows && precedes) (same-T (face n x) 0 z)
      go u (no nz) = let o = r u nz in or_r (eqb (face n x) 0) (follows && precedes) (and_i follows precedes (same-T _ _ o.follows) (same-T _ _ o.precedes))

  -- so is the test that it is on the ring of g
  held-told : (g x : ℕ) → (g ≡ 0 → ⊥) → T (held_at n.arcs g x) → Holds n g x × OnItsRing n x
  unfolding held_at
  held-told g x some t =
      let w = and_r (there n.arcs x) (eqb (face n x) g && ring_at n.arcs x) t in
      let u = and_l (there n.arcs x) (eqb (face n x) g && ring_at n.arcs x) t in
      let f = eqb→eq (face n x) g (and_l (eqb (face n x) g) (ring_at n.arcs x) w) in
      (record { exists = u; its-face = f }, ring-told x (and_r (eqb (face n x) g) (ring_at n.arcs x) w) u (λ z. some (sym f ∙ z)))

  -- and the other way round
  held_tells : (g x : ℕ) → Holds n g x → RingAt n x → T (held_at n.arcs g x)
  unfolding held_at
  held_tells g x h r =
      and_i (there n.arcs x) (eqb (face n x) g && ring_at n.arcs x) h.exists
      (and_i (eqb (face n x) g) (ring_at n.arcs x) (same-T (face n x) g h.its-face) (ring-tells x r))

  -- ---- a walk

  module _ (g first : ℕ) where
    -- so many steps from x lead to the first, over arcs of the ring of g
    record Leads (x k : ℕ) : Type 0 where
      pub some : 1 ≤ k
      pub back : times (next n) k x ≡ first
      pub each : (j : ℕ) → j < k → T (held_at n.arcs g (times (next n) j x))

    -- one step does
    leads_one : (x : ℕ) → T (held_at n.arcs g x) → next n x ≡ first → Leads x 1
    unfolding times
    leads_one x h e = record { some = suc-le-suc zero-le; back = e; each = one }
      where
        one : (j : ℕ) → j < 1 → T (held_at n.arcs g (times (next n) j x))
        one zero l = h
        one (suc j) l = absurd (not-suc-le-zero (le_of_suc-le-suc l))

    -- or one step more than from the next
    leads-more : (x k : ℕ) → T (held_at n.arcs g x) → Leads (next n x) k → Leads x (suc k)
    unfolding times
    leads-more x k h w = record { some = suc-le-suc zero-le; back = sym (times-shift (next n) k x) ∙ w.back; each = more }
      where
        more : (j : ℕ) → j < suc k → T (held_at n.arcs g (times (next n) j x))
        more zero l = h
        more (suc j) l = subst (λ (y : ℕ). T (held_at n.arcs g y)) (times-shift (next n) j x) (w.each j (le_of_suc-le-suc l))

    -- and from the next one step fewer
    leads-rest : (x k : ℕ) → Leads x (suc (suc k)) → Leads (next n x) (suc k)
    unfolding times
    leads-rest x k w =
        record {
          some = suc-le-suc zero-le;
          back = times-shift (next n) (suc k) x ∙ w.back;
          each = λ j q. subst (λ (y : ℕ). T (held_at n.arcs g y)) (sym (times-shift (next n) j x)) (w.each (suc j) (suc-le-suc q));
        }

    -- a walk that passes the test leads back
    walk-told : (fuel x : ℕ) → T (walked_from n.arcs g first fuel x) → (k : ℕ) × Leads x k
    unfolding walked_from
    walk-told zero x t = absurd t
    walk-told (suc fuel) x t =
        or_cases here later (and_r held (here || later) t) (λ e. (1, leads_one x h (eqb→eq _ _ e))) (λ r. let w = walk-told fuel (next n x) r in (suc w.0, leads-more x w.0 h w.1))
      where
        held : Bool
        held = held_at n.arcs g x

        here : Bool
        here = eqb (next n x) first

        later : Bool
        later = walked_from n.arcs g first fuel (next n x)

        h : T held
        h = and_l held (here || later) t

    -- and one that leads back passes it
    walk-tells : (fuel k x : ℕ) → k ≤ fuel → Leads x k → T (walked_from n.arcs g first fuel x)
    unfolding walked_from times
    walk-tells zero k x l w = absurd (let z = w.some in omega arith)
    walk-tells (suc fuel) zero x l w = absurd (not-suc-le-zero w.some)
    walk-tells (suc fuel) (suc zero) x l w =
        and_i (held_at n.arcs g x) (eqb (next n x) first || walked_from n.arcs g first fuel (next n x)) (w.each 0 (suc-le-suc zero-le))
        (or_l (eqb (next n x) first) (walked_from n.arcs g first fuel (next n x)) (same-T _ _ w.back))
    walk-tells (suc fuel) (suc (suc k)) x l w =
        and_i (held_at n.arcs g x) (eqb (next n x) first || walked_from n.arcs g first fuel (next n x)) (w.each 0 (suc-le-suc zero-le))
        (or_r (eqb (next n x) first) (walked_from n.arcs g first fuel (next n x)) (walk-tells fuel (suc k) (next n x) (le_of_suc-le-suc l) (leads-rest x k w)))

  -- ---- a new face

  -- its test, by the face's link
  abbrev ring_of : ℕ → ℕ → Bool
  ring_of from g = leb (cell n.faces g 0) from || walked_from n.arcs g (face_arc n g) 64 (face_arc n g)

  -- it is that of its row
  row-test : (from k : ℕ) → new_at n.arcs n.faces from k ≡ ring_of from (k + 1)
  unfolding new_ring
  row-test from k = rw (cell_row n.faces k 0, cell_row n.faces k 1)

  -- where all rows pass, the ring of a face whose key is above the counter is walked
  rings-told : (from : ℕ) → T (new_rings n.arcs n.faces from) → (g : ℕ) → IsFace n g → from ≤ key_at n.faces g → RingWalked n g
  unfolding new_rings
  rings-told from t g u above =
      let i = in_table n.faces g u in
      let row : T (ring_of from (g - 1 + 1)) = subst T (row-test from (g - 1)) (all-at (new_at n.arcs n.faces from) (length n.faces) t (g - 1) (omega arith)) in
      let at : T (ring_of from g) = subst (λ (h : ℕ). T (ring_of from h)) (link_row g i.0) row in
      or_cases (leb (cell n.faces g 0) from) (walked_from n.arcs g (face_arc n g) 64 (face_arc n g)) at
      (λ l. absurd (differ (cell n.faces g 0) 0 u (omega (arith, leb→le (cell n.faces g 0) from l))))
      (λ w. walked (λ z. omega arith) (walk-told g (face_arc n g) 64 (face_arc n g) w))
    where
      walked : (g ≡ 0 → ⊥) → (k : ℕ) × Leads g (face_arc n g) (face_arc n g) k → RingWalked n g
      walked some w = record { size = w.0; some = w.1.some; returns = w.1.back; each = λ k l. held-told g (onward n g k) some (w.1.each k l) }

  -- in a sound mesh they pass, whatever the counter
  rings-tells : (from : ℕ) → SoundFacts n → T (new_rings n.arcs n.faces from)
  unfolding new_rings
  rings-tells from s = all_from (new_at n.arcs n.faces from) (length n.faces) (λ k l. subst T (sym (row-test from k)) (passes (k + 1) (dec_le (cell n.faces (k + 1) 0) from)))
    where
      passes : (g : ℕ) → Dec (cell n.faces g 0 ≤ from) → T (ring_of from g)
      passes g (yes l) = or_l (leb (cell n.faces g 0) from) (walked_from n.arcs g (face_arc n g) 64 (face_arc n g)) (le→leb _ _ l)
      passes g (no nl) =
          let u : IsFace n g = differ-T (cell n.faces g 0) 0 (λ z. nl (omega arith)) in
          let b = sound-returns n s g u in
          or_r (leb (cell n.faces g 0) from) (walked_from n.arcs g (face_arc n g) 64 (face_arc n g))
          (walk-tells g (face_arc n g) 64 b.0 (face_arc n g) b.2 (record { some = b.1; back = b.3; each = λ j l. held_tells g (onward n g j) (sound-onward n s g u j) (sound-ring-at n s (onward n g j)) }))

-- ---- all of it

-- a vertex has a mark or not
marked-or-not : (b : Bool) → Dec (b ≡ true)
marked-or-not true = yes refl
marked-or-not false = no (λ e. subst T (sym e) tt)

-- where every arc near the edit is listed, the tests tell whether the result is sound
pub rings-tell : (m n : Mesh) (seen : List Bool) (list : List ℕ) → SoundFacts m → AllButRings n → Local (λ v. is_marked seen v ≡ true) m n → FacesSince m n → ((x : ℕ) → IsArc m x → (is_marked seen (source m x) ≡ true) ⊎ (is_marked seen (dest m x) ≡ true) → has list x ≡ true) → rings_hold n.arcs n.faces list (next_key m face_kind) ≡ sound n
unfolding rings_hold
rings-tell m n seen list sm base local since listed = same_test (all_listed && new) (sound n) so back
  where
    all_listed : Bool
    all_listed = every (ring_at n.arcs) list

    new : Bool
    new = new_rings n.arcs n.faces (next_key m face_kind)

    so : T (all_listed && new) → T (sound n)
    so t =
        let rings : (x : ℕ) → IsArc m x → (is_marked seen (source m x) ≡ true) ⊎ (is_marked seen (dest m x) ≡ true) → RingAt n x = λ x u w. ring-told n x (every-has (ring_at n.arcs) list (and_l all_listed new t) x (true-T (listed x u w))) in
        sound-from n (result-sound m n (λ v. is_marked seen v ≡ true) (λ v. marked-or-not (is_marked seen v)) sm base local since rings (rings-told n (next_key m face_kind) (and_r all_listed new t)))

    back : T (sound n) → T (all_listed && new)
    back t =
        let s = facts n t in
        and_i all_listed new (true-T (every-passes (ring_at n.arcs) list 0 (λ k l. T_true _ (ring-tells n (get_or list k 0) (sound-ring-at n s (get_or list k 0)))))) (rings-tells n (next_key m face_kind) s)
