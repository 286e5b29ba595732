-- Whether the result of an edit is sound is told by the rows near it: the rings of faces that were there by the arcs with an end near, and those of
-- faces that have come by one walk each. And a sound mesh passes these.
use Prim.Native.Nat.{ℕ, zero, suc, ◌≤◌, ◌<◌}
use native.Mathlib.Omega.{arith}
use native.Mathlib.Decide.{dec_le}
use mathlib.Core.Path.{◌≡◌, refl, ap, sym, subst, ◌∙◌}
use mathlib.Core.Logic.{◌⊎◌, inl, inr}
use Rattle.rules.specs.Mesh.{Mesh, source, dest, next, previous, face, face_arc, key_at, face_kind, next_key}
use Rattle.proved.specs.Demand.{Holds, holders, onward}
use Rattle.proved.specs.Facts.{IsArc, IsFace, RingFacts, SoundFacts}
use Rattle.proved.proofs.Rows.{cell-none, in_table}
use Rattle.proved.proofs.Around.{times_none, times_more}
use Rattle.kept.specs.Frame.{AllButRings}
use Rattle.kept.specs.Reaches.{Spared}
use Rattle.kept.specs.Local.{Local, Came, FacesSince, OnItsRing, RingAt, RingWalked}
use Rattle.kept.proofs.Base.{with-rings}
use Rattle.kept.proofs.Rings.{RingKept, ring-kept, next-holds, previous-holds}

-- of two ways, the one that is left
unless : {A B : Type 0} → A ⊎ (B → ⊥) → B → A
unless (inl a) b = a
unless (inr f) b = absurd (f b)

-- ---- an arc that holds the face g and is on its ring

module _ (n : Mesh) (base : AllButRings n) (g : ℕ) (is-face : IsFace n g) where
  -- a face is not none
  some : g ≡ 0 → ⊥
  some e = let w = in_table n.faces g is-face in omega arith

  -- an arc of that face is not none
  arc-some : (y : ℕ) → face n y ≡ g → y ≡ 0 → ⊥
  arc-some y e z = some (sym e ∙ ap (face n) z ∙ cell-none n.arcs 4)

  -- what follows it and what precedes it holds the face
  follows-holds : (x : ℕ) → Holds n g x → OnItsRing n x → Holds n g (next n x)
  follows-holds x h o =
      let e : face n (next n x) ≡ g = o.follows ∙ h.its-face in
      record { exists = (base.next-leaves x h.exists (arc-some (next n x) e)).0; its-face = e }

  precedes-holds : (x : ℕ) → Holds n g x → OnItsRing n x → Holds n g (previous n x)
  precedes-holds x h o =
      let e : face n (previous n x) ≡ g = o.precedes ∙ h.its-face in
      record { exists = (base.previous-arrives x h.exists (arc-some (previous n x) e)).0; its-face = e }

-- ---- the result of an edit

module _ (m n : Mesh) (near : ℕ → Type 0) (dec : (v : ℕ) → Dec (near v)) (sm : SoundFacts m) (base : AllButRings n) (local : Local near m n) (since : FacesSince m n) where
  -- ---- a face that was there

  module _ (at-rings : (x : ℕ) → IsArc m x → near (source m x) ⊎ near (dest m x) → RingAt n x) (g : ℕ) (is-face : IsFace n g) (s : Spared m n g) where
    -- an arc of it near the edit is on its ring
    near_on : (x : ℕ) → Holds m g x → near (source m x) ⊎ near (dest m x) → OnItsRing n x
    near_on x h w =
        let k = s.still-hold x h in
        at-rings x h.exists w k.exists (λ e. some n base g is-face (sym k.its-face ∙ e))

    -- so next and previous of its arcs stay, near and away
    next-there : (x : ℕ) → Holds m g x → next n x ≡ next m x
    next-there x h = go (dec (source m x)) (dec (dest m x))
      where
        by : near (source m x) ⊎ near (dest m x) → next n x ≡ next m x
        by w = unless (s.next-or x h) (follows-holds n base g is-face x (s.still-hold x h) (near_on x h w))

        go : Dec (near (source m x)) → Dec (near (dest m x)) → next n x ≡ next m x
        go (yes a) d = by (inl a)
        go (no a) (yes b) = by (inr b)
        go (no a) (no b) = local.away x 2 h.exists a b

    previous-there : (x : ℕ) → Holds m g x → previous n x ≡ previous m x
    previous-there x h = go (dec (source m x)) (dec (dest m x))
      where
        by : near (source m x) ⊎ near (dest m x) → previous n x ≡ previous m x
        by w = unless (s.previous-or x h) (precedes-holds n base g is-face x (s.still-hold x h) (near_on x h w))

        go : Dec (near (source m x)) → Dec (near (dest m x)) → previous n x ≡ previous m x
        go (yes a) d = by (inl a)
        go (no a) (yes b) = by (inr b)
        go (no a) (no b) = local.away x 3 h.exists a b

    -- and its ring is kept
    there-kept : RingKept m n g
    there-kept =
        record {
          first = s.record-stays 1;
          rows = local.keeps.arc-rows;
          still-hold = s.still-hold;
          no_more = s.no_more;
          sources = λ x h. local.keeps.sources x h.exists;
          nexts = next-there;
          previouses = previous-there;
        }

  -- ---- a face that has come

  module _ (g : ℕ) (is-face : IsFace n g) (c : Came m n g) (w : RingWalked n g) where
    -- the walk goes as it went in the mesh on the way
    as-went : (k : ℕ) → k ≤ w.size → onward n g k ≡ onward c.mid g k
    as-went zero l = times_none (next n) (face_arc n g) ∙ c.gains.record-stays 1 ∙ sym (times_none (next c.mid) (face_arc c.mid g))
    as-went (suc k) l =
        let x = onward n g k in
        let h = w.each k l in
        times_more (next n) k (face_arc n g)
        ∙ unless (c.gains.next-or x h.0) (follows-holds n base g is-face x h.0 h.1)
        ∙ ap (next c.mid) (as-went k (omega arith))
        ∙ sym (times_more (next c.mid) k (face_arc c.mid g))

    -- so it does not return before the whole ring is met
    whole : holders c.mid g ≤ w.size
    whole = go (dec_le (holders c.mid g) w.size)
      where
        go : Dec (holders c.mid g ≤ w.size) → holders c.mid g ≤ w.size
        go (yes l) = l
        go (no d) = absurd (c.ring.not-before w.size w.some (omega arith) (sym (as-went w.size (omega arith)) ∙ w.returns ∙ c.gains.record-stays 1))

    -- and each arc that held the face holds it and is on its ring
    walked_on : (x : ℕ) → Holds c.mid g x → Holds n g x × OnItsRing n x
    walked_on x h =
        let k = c.ring.each-met x h in
        let l : k.0 < w.size = omega (arith, k.1, whole) in
        subst (λ (z : ℕ). Holds n g z × OnItsRing n z) (as-went k.0 (omega arith) ∙ k.2) (w.each k.0 l)

    -- so its ring is kept
    came-kept : RingKept c.mid n g
    came-kept =
        record {
          first = c.gains.record-stays 1;
          rows = c.keeps.arc-rows;
          still-hold = λ x h. (walked_on x h).0;
          no_more = c.gains.no_more;
          sources = λ x h. c.keeps.sources x h.exists;
          nexts = λ x h. let o = walked_on x h in unless (c.gains.next-or x o.0) (follows-holds n base g is-face x o.0 o.1);
          previouses = λ x h. let o = walked_on x h in unless (c.gains.previous-or x o.0) (precedes-holds n base g is-face x o.0 o.1);
        }

  -- ---- all faces

  -- where the arcs near the edit are on their rings, and the rings of the faces that have come are walked, the result is sound
  pub result-sound : ((x : ℕ) → IsArc m x → near (source m x) ⊎ near (dest m x) → RingAt n x) → ((g : ℕ) → IsFace n g → next_key m face_kind ≤ key_at n.faces g → RingWalked n g) → SoundFacts n
  result-sound at-rings walked = with-rings n base (λ g u. go g u (since g u))
    where
      go : (g : ℕ) → IsFace n g → (IsFace m g × Spared m n g) ⊎ Came m n g → RingFacts n g
      go g u (inl w) = ring-kept m n g (there-kept at-rings g u w.1) (sm.rings g w.0)
      go g u (inr c) = ring-kept c.mid n g (came-kept g u c (walked g u c.counted)) c.ring

-- ---- a sound mesh

module _ (n : Mesh) (s : SoundFacts n) where
  -- its arcs are on their rings
  pub sound-ring-at : (x : ℕ) → RingAt n x
  sound-ring-at x u some-face =
      let r = s.rings (face n x) (s.face-exists x u some-face) in
      let h : Holds n (face n x) x = record { exists = u; its-face = refl } in
      record { follows = (next-holds n (face n x) r x h).its-face; precedes = (previous-holds n (face n x) r x h).its-face }

  -- next from a face's arc returns after at most 64 arcs
  pub sound-returns : (g : ℕ) → IsFace n g → (k : ℕ) × (1 ≤ k) × (k ≤ 64) × (onward n g k ≡ face_arc n g)
  sound-returns g u = let r = s.rings g u in (holders n g, omega (arith, r.at-least-3), r.at-most-64, r.returns)

  -- and each arc on the way holds the face, however far
  pub sound-onward : (g : ℕ) → IsFace n g → (k : ℕ) → Holds n g (onward n g k)
  sound-onward g u zero = (s.rings g u).each_holds 0 (omega (arith, (s.rings g u).at-least-3))
  sound-onward g u (suc k) =
      subst (Holds n g) (sym (times_more (next n) k (face_arc n g))) (next-holds n g (s.rings g u) (onward n g k) (sound-onward g u k))
