-- A face bridge: its walls stand like a ladder between the two rings, whose rungs run from the sources of the first ring's arcs to the
-- destinations of the second's, reversed. So n edges and n - 2 faces suffice, and n face keys.
use Prim.Native.Nat.{ℕ, zero, suc, ◌+◌, ◌-◌, ◌≤◌, ◌<◌, zero-le}
use native.Mathlib.Omega.{arith}
use native.Mathlib.Decide.{ℕ_discrete}
use mathlib.Core.Path.{◌≡◌, refl, ap, sym, subst, ◌∙◌}
use mathlib.Core.Bool.{not, cond}
use mathlib.Core.List.{List, ◌++◌, reverse}
use lib.ListN.{length, get_or}
use lib.Dec.{T, eqb}
use borrow.Author.Tests.{ne_eqb, eq-eqb}
use Rattle.rules.specs.Answer.{Key, Done, Refused}
use Rattle.rules.specs.declared.Refusal.TheVariants.{TopologyNotFound, ArityNonUniform}
use Rattle.rules.specs.Table.{after, has}
use Rattle.rules.specs.Mesh.{Mesh, source, dest}
use Rattle.rules.specs.Link.{ring, ring_vertices}
use Rattle.rules.specs.Step.{step, accepted, checked}
use Rattle.rules.specs.Insert.{insert_work}
use Rattle.rules.specs.Edit.{remove, corners, arc_bridge_checks, arc_bridge_work, arc_bridge, bridge_checks, bridge_work}
use Rattle.rules.specs.Call.{Need, needs}
use Rattle.rules.proofs.Ends.{from_end}
use Rattle.proved.specs.Demand.{Holds}
use Rattle.proved.specs.Facts.{SoundFacts, IsVertex, IsArc, IsFace}
use Rattle.proved.proofs.Ring.{ring-counts, ring-from}
use Rattle.kept.specs.Frame.{ThreeCounters, Met}
use Rattle.kept.specs.Perimeter.{corner, following}
use Rattle.kept.specs.Reaches.{KeepsEnds}
use Rattle.makers.specs.Makers.{Makers, ruled, LikeRules, insert_work_by, arc_bridge_work_by, arc_bridge_by, bridge_work_by}
use Rattle.kept.specs.Suffices.{Tally}
use Rattle.kept.specs.Local.{Local, FacesSince}
use Rattle.kept.proofs.Base.{but-rings}
use Rattle.kept.proofs.Round.{after_on, after_last, after-low}
use Rattle.kept.proofs.Find.{Between}
use Rattle.kept.proofs.Remove.{ring-place-holds, remove-kept, remove-spares, remove-ends, remove-face}
use Rattle.kept.proofs.Passed.{Passed}
use Rattle.kept.proofs.Halves.{ring-follows}
use Rattle.kept.proofs.Keeps.{keeps-onto, keeps-between}
use Rattle.makers.proofs.Ruled.{ruled-like}
use Rattle.kept.proofs.Tallies.{tally-onto, left-met, tally-remove}
use Rattle.kept.proofs.Along.{Along, along-same, along-start, along-so, along-answering, along-loop}
use Rattle.kept.proofs.Local.{has_first, has-second, local-onto, ends-on-ring, remove-local, since-onto, remove-since, Reaching}
use Rattle.kept.proofs.Ladder.{Ladder, Climbed, Stopped, climbed-none, climb, climbed-left, climbed-since}
use Rattle.kept.proofs.ArcBridge.{bridge-passed}
use Rattle.kept.proofs.WithinNeed.{Made, OnTop, climbed-within, climbed-all}

-- counted from the end, the place after one comes before it
from-end-after : (n k : ℕ) → k < n → after n (n - 1 - after n k) ≡ n - 1 - k
from-end-after n k l = go (ℕ_discrete (k + 1) n)
  where
    go : Dec (k + 1 ≡ n) → after n (n - 1 - after n k) ≡ n - 1 - k
    go (yes e) = let z = after_last n k e in after_last n (n - 1 - after n k) (omega arith) ∙ omega arith
    go (no ne) = let z = after_on n k ne in after_on n (n - 1 - after n k) (λ q. omega arith) ∙ omega arith

-- what a bridge at arity n needs
abbrev pub bridge_need : ℕ → Need
bridge_need n = needs 0 n (n - 2) n

module _ (m : Mesh) (s : SoundFacts m) (three : ThreeCounters m) (f g : ℕ) (u : IsFace m f) (v : IsFace m g) (ne : g ≡ f → ⊥) (even : length (ring m f) ≡ length (ring m g)) (w : Met m (bridge_need (length (ring m f)))) where
  abbrev n : ℕ
  n = length (ring m f)

  at_least : 3 ≤ n
  at_least = omega (arith, ring-counts m f (ring-from m f (s.rings f u)), (s.rings f u).at-least-3)

  -- ---- the start: both faces removed

  abbrev m₁ : Mesh
  m₁ = remove m f

  s₁ : SoundFacts m₁
  s₁ = remove-kept m s f u

  v₁ : IsFace m₁ g
  v₁ = remove-face m s f u g ne v

  abbrev m₂ : Mesh
  m₂ = remove m₁ g

  t₂ : Tally m m₂ 0 0 0 2
  t₂ = tally-onto (tally-remove m s f u) (tally-remove m₁ s₁ g v₁) (omega arith) (omega arith) (omega arith) (omega arith)

  k₂ : KeepsEnds m m₂
  k₂ = keeps-onto (remove-ends m s f u) (remove-ends m₁ s₁ g v₁)

  -- ---- the pairs of arcs

  abbrev forth : ℕ → ℕ
  forth i = get_or (ring m f) i 0

  abbrev back : ℕ → ℕ
  back i = get_or (reverse (ring m g)) i 0

  forth-holds : (i : ℕ) → i < n → Holds m f (forth i)
  forth-holds i l = ring-place-holds m f (s.rings f u) i l

  forth-arc : (i : ℕ) → i < n → IsArc m (forth i)
  forth-arc i l = (forth-holds i l).exists

  back_at : (i : ℕ) → i < n → back i ≡ get_or (ring m g) (n - 1 - i) 0
  back_at i l = from_end (ring m g) i (omega arith) ∙ ap (λ (z : ℕ). get_or (ring m g) (z - 1 - i) 0) (sym even)

  back-holds : (i : ℕ) → i < n → Holds m g (back i)
  back-holds i l = rw (back_at i l) (ring-place-holds m g (s.rings g v) (n - 1 - i) (omega arith))

  back-arc : (i : ℕ) → i < n → IsArc m (back i)
  back-arc i l = (back-holds i l).exists

  -- the arcs of the second ring follow one another the other way
  back_follows : (k : ℕ) → k < n → source m (back k) ≡ dest m (back (after n k))
  back_follows k l =
      let j : ℕ = n - 1 - after n k in
      let q = after-low n k l in
      let e : after (length (ring m g)) j ≡ n - 1 - k = ap (λ (z : ℕ). after z j) (sym even) ∙ from-end-after n k l in
      ap (source m) (back_at k l ∙ ap (λ (z : ℕ). get_or (ring m g) z 0) (sym e))
      ∙ ring-follows m s g v j (omega arith)
      ∙ ap (dest m) (sym (back_at (after n k) q))

  abbrev part : ℕ → List ℕ
  part k = corners m (forth k) (back k)

  part-vertex : (k : ℕ) → k < n → (i : ℕ) → i < length (part k) → IsVertex m₂ (corner (part k) i)
  unfolding corners
  part-vertex k l zero b = k₂.vertices (source m (forth k)) (s.ends-exist (forth k) (forth-arc k l)).0
  part-vertex k l (suc zero) b = k₂.vertices (dest m (forth k)) (s.ends-exist (forth k) (forth-arc k l)).1
  part-vertex k l (suc (suc zero)) b = k₂.vertices (source m (back k)) (s.ends-exist (back k) (back-arc k l)).0
  part-vertex k l (suc (suc (suc zero))) b = k₂.vertices (dest m (back k)) (s.ends-exist (back k) (back-arc k l)).1
  part-vertex k l (suc (suc (suc (suc i)))) b = let z : ⊥ = omega arith in absurd z

  -- the two arcs are there
  part-rim : (k : ℕ) → k < n → (i : ℕ) → i < length (part k) → (i ≡ 1 → ⊥) → (i ≡ 3 → ⊥) → (x : ℕ) × Between m₂.arcs (corner (part k) i) (following (part k) i) x
  unfolding corners
  part-rim k l zero b o q = (forth k, keeps-between k₂ (record { exists = forth-arc k l; leaves = refl; arrives = refl }))
  part-rim k l (suc zero) b o q = absurd (o refl)
  part-rim k l (suc (suc zero)) b o q = (back k, keeps-between k₂ (record { exists = back-arc k l; leaves = refl; arrives = refl }))
  part-rim k l (suc (suc (suc zero))) b o q = absurd (q refl)
  part-rim k l (suc (suc (suc (suc i)))) b o q = let z : ⊥ = omega arith in absurd z

  room : Met m₂ (needs 0 n n n)
  room = left-met t₂ w (omega arith) (omega arith) (omega (arith, at_least)) (omega arith)

  abbrev ladder : Ladder m₂
  unfolding corners
  ladder =
      record {
        n = n;
        from = λ i. source m (forth i);
        to = λ i. dest m (back i);
        per = part;
        out = 1;
        back = 3;
        base = but-rings m₂ (remove-kept m₁ s₁ g v₁);
        counters = omega (arith, k₂.counter-rows);
        room = room;
        at-least-3 = at_least;
        at-most-64 = λ k l. omega arith;
        vertices = part-vertex;
        out-on = λ k l. omega arith;
        out-from = λ k l. sym (ring-follows m s f u k l);
        out-to = back_follows;
        back_on = λ k l. omega arith;
        back_from = λ k l. refl;
        back_to = λ k l. refl;
        rim = part-rim;
      }

  module _ (by : Makers) (like : LikeRules by) where
    -- in mid-edit the corners of a pair are still the same
    same-corners : (k : ℕ) → k < n → (a : Mesh) → KeepsEnds m a → corners a (forth k) (back k) ≡ part k
    unfolding corners
    same-corners k l a q =
        let x = forth-arc k l in
        let y = back-arc k l in
        rw (q.sources (forth k) x, q.dests (forth k) x, q.sources (back k) y, q.dests (back k) y)

    pair-along : (k : ℕ) (a : Mesh) → k < n → Climbed ladder k a → Along (Climbed ladder (suc k)) (Stopped ladder) (arc_bridge a (forth k) (back k)) (arc_bridge_by by a (forth k) (back k))
    unfolding arc_bridge arc_bridge_by arc_bridge_work arc_bridge_work_by corners
    pair-along k a l q =
        let c = arc_bridge_checks a (forth k) (back k) in
        let e = same-corners k l a (keeps-onto k₂ q.keeps) in
        along-same (ap (λ (per : List ℕ). checked a c (insert_work a per 0)) e) (ap (λ (per : List ℕ). checked a c (insert_work_by by a per 0)) e)
        (climb ladder k l a q by like c 0 (λ h. subst (λ (per : List ℕ). Passed a per per) e (bridge-passed a (forth k) (back k) h).insert-passed))

    -- pair after pair
    bridge-along : Along (Climbed ladder n) (Stopped ladder) (bridge_work m f g) (bridge_work_by by m f g)
    unfolding bridge_work bridge_work_by corners
    bridge-along =
        along-answering (Key 0) _ _
        (along-loop (Climbed ladder) (λ i a. arc_bridge a (forth i) (back i)) (λ i a. arc_bridge_by by a (forth i) (back i)) n (step m₂ Done) (step m₂ Done)
        (along-start m₂ m₂ Done (climbed-none ladder) (0, zero-le, climbed-none ladder) refl) pair-along)

    -- the need of a bridge suffices
    pub bridge-made : Made m (bridge_need (length (ring m f))) 2 (bridge_work m f g) (bridge_work_by by m f g)
    unfolding corners
    bridge-made =
        let o : OnTop (bridge_need n) 0 0 0 2 n = record { vertices = refl; edges = omega arith; faces = omega (arith, at_least); keys = omega arith } in
        along-so bridge-along (climbed-all ladder (bridge_need n) t₂ o) (climbed-within ladder (bridge_need n) t₂ o)

  -- ---- how far it reaches

  -- the vertices of both rings
  abbrev near : ℕ → Type 0
  near v = T (has (ring_vertices m f ++ ring_vertices m g) v)

  -- the ends of the arcs of both rings
  forth-near : (x : ℕ) → Holds m f x → near (source m x) × near (dest m x)
  forth-near x h =
      let b = ends-on-ring m s f u x h in
      (has_first (ring_vertices m f) (ring_vertices m g) (source m x) b.0, has_first (ring_vertices m f) (ring_vertices m g) (dest m x) b.1)

  back-near : (x : ℕ) → Holds m g x → near (source m x) × near (dest m x)
  back-near x h =
      let b = ends-on-ring m s g v x h in
      (has-second (ring_vertices m f) (ring_vertices m g) (source m x) b.0, has-second (ring_vertices m f) (ring_vertices m g) (dest m x) b.1)

  -- so are the corners
  part-near : (k : ℕ) → k < n → (i : ℕ) → i < length (part k) → IsVertex m (corner (part k) i) → near (corner (part k) i)
  unfolding corners
  part-near k l zero b q = (forth-near (forth k) (forth-holds k l)).0
  part-near k l (suc zero) b q = (forth-near (forth k) (forth-holds k l)).1
  part-near k l (suc (suc zero)) b q = (back-near (back k) (back-holds k l)).0
  part-near k l (suc (suc (suc zero))) b q = (back-near (back k) (back-holds k l)).1
  part-near k l (suc (suc (suc (suc i)))) b q = let z : ⊥ = omega arith in absurd z

  -- the second removal: what holds the face then held it before, with the same ends
  second-near : (x : ℕ) → Holds m₁ g x → near (dest m₁ x)
  second-near x h =
      let was = (remove-spares m s f u g ne v).no_more x h in
      subst near (sym ((remove-ends m s f u).dests x was.exists)) (back-near x was).1

  -- a bridge works among the vertices of both rings
  pub bridge-reaching : Reaching near m (bridge_work m f g) (bridge_work_by ruled m f g)
  unfolding corners
  bridge-reaching =
      let t = but-rings m s in
      let start : Local near m m₂ = local-onto t (remove-local m s f u (λ x h. (forth-near x h).1)) (remove-local m₁ s₁ g v₁ second-near) (λ v q h. h) (λ v q h. h) in
      let since : FacesSince m m₂ = since-onto (remove-since m s f u) (omega (arith, (tally-remove m s f u).face-keys)) (remove-ends m₁ s₁ g v₁) (remove-since m₁ s₁ g v₁) in
      along-so (bridge-along ruled ruled-like) (climbed-since ladder since (omega (arith, t₂.face-keys))) (climbed-left ladder t start part-near)

-- ---- the checks

-- those of a bridge that pass: two faces that differ, of one arity
pub record FacesPassed (m : Mesh) (f g : ℕ) : Type 0 where
  pub first-known : f ≡ 0 → ⊥
  pub second-known : g ≡ 0 → ⊥
  pub even : length (ring m f) ≡ length (ring m g)
  pub two : g ≡ f → ⊥

pub faces-passed : (m : Mesh) (f g : ℕ) → T (accepted (bridge_checks m f g)) → FacesPassed m f g
unfolding bridge_checks accepted
faces-passed m f g h = go (ℕ_discrete f 0) (ℕ_discrete g 0) (ℕ_discrete (length (ring m f)) (length (ring m g))) (ℕ_discrete f g) h
  where
    go : Dec (f ≡ 0) → Dec (g ≡ 0) → Dec (length (ring m f) ≡ length (ring m g)) → Dec (f ≡ g) → T (accepted (cond (eqb f 0) (Refused TopologyNotFound) (cond (eqb g 0) (Refused TopologyNotFound) (cond (not (eqb (length (ring m f)) (length (ring m g)))) (Refused ArityNonUniform) (cond (eqb f g) (Refused TopologyNotFound) Done))))) → FacesPassed m f g
    go (yes e) a b c q = absurd (rw (eq-eqb f 0 e) at q)
    go (no x) (yes e) b c q = absurd (rw (ne_eqb f 0 x, eq-eqb g 0 e) at q)
    go (no x) (no y) (no z) c q = absurd (rw (ne_eqb f 0 x, ne_eqb g 0 y, ne_eqb (length (ring m f)) (length (ring m g)) z) at q)
    go (no x) (no y) (yes z) (yes e) q = absurd (rw (ne_eqb f 0 x, ne_eqb g 0 y, eq-eqb (length (ring m f)) (length (ring m g)) z, eq-eqb f g e) at q)
    go (no x) (no y) (yes z) (no d) q = record { first-known = x; second-known = y; even = z; two = λ e. d (sym e) }
