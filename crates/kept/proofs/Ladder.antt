-- Faces put in round a ring, one beside the other, as poke, bridge and extrude do: face k stands between rung k and the rung after it, and every
-- other pair of it has its arc from the start. So the first face makes at most two edges, each later one at most one and the last none: n
-- edges and n faces in all. If there are rows and keys for so many, every insert finds its own.
use Prim.Native.Nat.{ℕ, zero, suc, ◌+◌, ◌≤◌, ◌<◌, min, zero-le}
use native.Mathlib.Omega.{arith}
use native.Mathlib.Decide.{ℕ_discrete}
use mathlib.Core.Path.{◌≡◌, refl, ap, sym, subst, ◌∙◌}
use mathlib.Core.Bool.{not}
use mathlib.Core.List.{List}
use lib.ListN.{length}
use lib.Dec.{T, eqb}
use Rattle.rules.specs.Answer.{Answer}
use Rattle.rules.specs.Table.{after, has}
use Rattle.rules.specs.Mesh.{Mesh, opposite, face_kind, next_key}
use Rattle.rules.specs.Step.{accepted, checked}
use Rattle.rules.specs.Insert.{insert_work}
use Rattle.rules.specs.Call.{needs, insert_need, pairs_without}
use Rattle.proved.specs.Facts.{IsVertex, IsFace}
use Rattle.proved.proofs.Rows.{in_table}
use Rattle.proved.proofs.Around.{has-place}
use Rattle.kept.specs.Frame.{AllButRings, ThreeCounters, Met}
use Rattle.kept.specs.Perimeter.{Perimeter, corner, following}
use Rattle.kept.specs.Reaches.{KeepsEnds, Spared}
use Rattle.makers.specs.Makers.{Makers, LikeRules, insert_work_by}
use Rattle.kept.specs.Suffices.{Tally}
use Rattle.kept.specs.Local.{Local, FacesSince}
use Rattle.kept.proofs.Round.{after_on, after_last}
use Rattle.kept.proofs.Find.{Between}
use Rattle.kept.proofs.Opposite.{opposite-is}
use Rattle.kept.proofs.Spared.{spared-onto, spared-none}
use Rattle.kept.proofs.EdgesIn.{need_at}
use Rattle.kept.proofs.Pairs.{at_most_one, has-arc, two-needed}
use Rattle.kept.proofs.Passed.{Passed, places-apart}
use Rattle.kept.proofs.Reaches.{not_on}
use Rattle.kept.proofs.Keeps.{keeps-none, keeps-onto, keeps-between}
use Rattle.kept.proofs.Tallies.{tally-none, tally-onto, left-met}
use Rattle.kept.proofs.Along.{Along, along-checked}
use Rattle.kept.proofs.Put.{Put, along-insert}
use Rattle.kept.proofs.Local.{local-none, local-onto, since_none, since-onto, Left, put-since}

-- ---- the ladder

-- n faces are to be put into m: rung i joins `from i` and `to i`; face k goes out along the rung after its own and comes back along its own,
-- and every other pair of it has its arc in m. There are rows and keys for n edges and n faces
pub record Ladder (m : Mesh) : Type 0 where
  pub n : ℕ
  pub from : ℕ → ℕ
  pub to : ℕ → ℕ
  pub per : ℕ → List ℕ
  pub out : ℕ
  pub back : ℕ
  pub base : AllButRings m
  pub counters : ThreeCounters m
  pub room : Met m (needs 0 n n n)
  pub at-least-3 : 3 ≤ n
  pub at-most-64 : (k : ℕ) → k < n → length (per k) ≤ 64
  pub vertices : (k : ℕ) → k < n → (i : ℕ) → i < length (per k) → IsVertex m (corner (per k) i)
  pub out-on : (k : ℕ) → k < n → out < length (per k)
  pub out-from : (k : ℕ) → k < n → corner (per k) out ≡ from (after n k)
  pub out-to : (k : ℕ) → k < n → following (per k) out ≡ to (after n k)
  pub back_on : (k : ℕ) → k < n → back < length (per k)
  pub back_from : (k : ℕ) → k < n → following (per k) back ≡ from k
  pub back_to : (k : ℕ) → k < n → corner (per k) back ≡ to k
  pub rim : (k : ℕ) → k < n → (i : ℕ) → i < length (per k) → (i ≡ out → ⊥) → (i ≡ back → ⊥) → (x : ℕ) × Between m.arcs (corner (per k) i) (following (per k) i) x

-- how many edges the first k faces make at most
pub used_up : ℕ → ℕ → ℕ
used_up n zero = 0
used_up n (suc k) = min (k + 2) n

pub used-up : (n k : ℕ) → used_up n k ≤ n
unfolding used_up
used-up n zero = zero-le
used-up n (suc k) = omega arith

module _ {m : Mesh} (ladder : Ladder m) where
  abbrev n : ℕ
  n = ladder.n

  abbrev per : ℕ → List ℕ
  per = ladder.per

  abbrev out : ℕ
  out = ladder.out

  abbrev back : ℕ
  back = ladder.back

  abbrev Rung : Mesh → ℕ → Type 0
  Rung a k = (x : ℕ) × Between a.arcs (ladder.from k) (ladder.to k) x

  -- the vertices of its faces
  abbrev pub OnLadder : ℕ → Type 0
  OnLadder v = (k : ℕ) × (k < n) × T (has (per k) v)

  -- after the first k faces
  pub record Climbed (k : ℕ) (a : Mesh) : Type 0 where
    pub base : AllButRings a
    pub keeps : KeepsEnds m a
    pub rungs : (i : ℕ) → 1 ≤ k → i ≤ k → i < n → Rung a i
    pub edges : ℕ
    pub edges_few : edges ≤ used_up n k
    pub tally : Tally m a 0 edges k 0
    pub spared : (g : ℕ) → IsFace m g → Spared m a g
    pub local : Local OnLadder m a
    pub since : FacesSince m a

  -- wherever it stops, some of them are in
  abbrev pub Stopped : Mesh → Type 0
  Stopped a = (k : ℕ) × (k ≤ n) × Climbed k a

  pub climbed-none : Climbed 0 m
  climbed-none =
      record {
        base = ladder.base;
        keeps = keeps-none m;
        rungs = λ i x y z. let f : ⊥ = omega arith in absurd f;
        edges = 0;
        edges_few = zero-le;
        tally = tally-none m;
        spared = λ g u. spared-none m g;
        local = local-none m;
        since = since_none m;
      }

  module _ (k : ℕ) (l : k < n) (a : Mesh) (w : Climbed k a) where
    small : length a.arcs ≤ 16384
    small = omega (arith, w.base.sizes.arc-rows, w.base.sizes.edge-rows)

    rim-none : (i : ℕ) → i < length (per k) → (i ≡ out → ⊥) → (i ≡ back → ⊥) → need_at a (per k) i ≡ 0
    rim-none i q o b =
        let x = ladder.rim k l i q o b in
        has-arc a (per k) i small x.0 (keeps-between w.keeps x.1)

    -- nor does a rung that is there, either way
    out_none : Rung a (after n k) → need_at a (per k) out ≡ 0
    out_none r = has-arc a (per k) out small r.0 (record { exists = r.1.exists; leaves = r.1.leaves ∙ sym (ladder.out-from k l); arrives = r.1.arrives ∙ sym (ladder.out-to k l) })

    back_none : Rung a k → need_at a (per k) back ≡ 0
    back_none r =
        let o = opposite-is a w.base r.0 r.1.exists in
        has-arc a (per k) back small (opposite a r.0) (record { exists = o.exists; leaves = o.leaves ∙ r.1.arrives ∙ sym (ladder.back_to k l); arrives = o.arrives ∙ r.1.leaves ∙ sym (ladder.back_from k l) })

    two-pairs : pairs_without a (per k) ≤ need_at a (per k) out + need_at a (per k) back
    two-pairs = two-needed a (per k) out back rim-none

    takes : pairs_without a (per k) + used_up n k ≤ used_up n (suc k)
    unfolding used_up
    takes = go k refl (ℕ_discrete (k + 1) n)
      where
        go : (i : ℕ) → k ≡ i → Dec (k + 1 ≡ n) → pairs_without a (per k) + used_up n i ≤ min (i + 2) n
        go zero e d = omega (arith, two-pairs, at_most_one a (per k) out, at_most_one a (per k) back, ladder.at-least-3)
        go (suc i) e (no d) = omega (arith, two-pairs, at_most_one a (per k) out, back_none (w.rungs k (omega arith) (omega arith) l))
        go (suc i) e (yes d) =
            let z = after_last n k d in
            omega (arith, two-pairs, out_none (w.rungs (after n k) (omega arith) (omega arith) (omega arith)), back_none (w.rungs k (omega arith) (omega arith) l))

    -- so the need of this insert is met
    needed : Met a (insert_need a (per k))
    unfolding insert_need
    needed =
        let few = w.edges_few in
        let most = used-up n (suc k) in
        left-met w.tally ladder.room (omega arith) (omega (arith, takes)) (omega arith) (omega arith)

    counters : ThreeCounters a
    counters = omega (arith, ladder.counters, w.keeps.counter-rows)

    module _ (q : Passed a (per k) (per k)) where
      perimeter : Perimeter a (per k)
      perimeter =
          record {
            at-least-3 = q.at-least-3;
            at-most-64 = ladder.at-most-64 k l;
            vertices = λ i b. w.keeps.vertices (corner (per k) i) (ladder.vertices k l i b);
            differ = places-apart (per k) q.keys-differ;
          }

      climb-one : (r : Mesh) → Put a r (per k) → Climbed (suc k) r
      climb-one r p =
          record {
            base = p.base;
            keeps = keeps-onto w.keeps p.keeps;
            rungs = λ i x y z. rung i y z (ℕ_discrete i k) (ℕ_discrete i (suc k));
            edges = w.edges + pairs_without a (per k);
            edges_few = omega (arith, takes, w.edges_few);
            tally = tally-onto w.tally p.tally (omega arith) refl (omega arith) (omega arith);
            spared = λ g u. spared-onto (w.spared g u) (p.spares g (subst (λ (z : ℕ). T (not (eqb z 0))) (sym ((w.spared g u).record-stays 0)) u) (not_on a (per k) q.no-conflict g (λ z. let b = in_table m.faces g u in omega arith)));
            local = local-onto ladder.base w.local p.local (λ v u h. h) (λ v u h. (k, l, h));
            since = put-since w.since (omega (arith, w.tally.face-keys)) q.no-hair q.no-conflict p;
          }
        where
          rung : (i : ℕ) → i ≤ suc k → i < n → Dec (i ≡ k) → Dec (i ≡ suc k) → Rung r i
          rung i y z (yes e) d =
              -- it comes back along its own rung
              let b = p.joined back (ladder.back_on k l) in
              let o = opposite-is r p.base b.0 b.1.exists in
              (opposite r b.0, record { exists = o.exists; leaves = o.leaves ∙ b.1.arrives ∙ ladder.back_from k l ∙ ap ladder.from (sym e); arrives = o.arrives ∙ b.1.leaves ∙ ladder.back_to k l ∙ ap ladder.to (sym e) })
          rung i y z (no e) (yes d) =
              let b = p.joined out (ladder.out-on k l) in
              let g : after n k ≡ i = after_on n k (λ x. omega arith) ∙ omega arith in
              (b.0, record { exists = b.1.exists; leaves = b.1.leaves ∙ ladder.out-from k l ∙ ap ladder.from g; arrives = b.1.arrives ∙ ladder.out-to k l ∙ ap ladder.to g })
          rung i y z (no e) (no d) =
              let b = w.rungs i (omega arith) (omega arith) z in
              (b.0, keeps-between p.keeps b.1)

    -- an insert of face k behind checks that let nothing worse pass than the insert's own
    pub climb : (by : Makers) → LikeRules by → (c : Answer) (mark : ℕ) → (T (accepted c) → Passed a (per k) (per k)) → Along (Climbed (suc k)) Stopped (checked a c (insert_work a (per k) mark)) (checked a c (insert_work_by by a (per k) mark))
    climb by like c mark pass =
        along-checked a c (insert_work a (per k) mark) (insert_work_by by a (per k) mark) (k, omega arith, w)
        (λ h. along-insert a w.base (per k) (perimeter (pass h)) counters needed by like mark (climb-one (pass h)) (λ r z. (suc k, l, z)))

-- ---- how far it reaches, after a start that is near R, where the vertices of its faces that were there before that start are near R too
module _ {m a : Mesh} (ladder : Ladder a) {R : ℕ → Type 0} (s : AllButRings m) (start : Local R m a) (near : (k : ℕ) → k < ladder.n → (i : ℕ) → i < length (ladder.per k) → IsVertex m (corner (ladder.per k) i) → R (corner (ladder.per k) i)) where
  -- what it leaves, wherever it stops
  pub climbed-left : (r : Mesh) → Stopped ladder r → Left R m r
  climbed-left r (k, l, c) = (c.base, local-onto s start c.local (λ v u h. h) on)
    where
      on : (v : ℕ) → IsVertex m v → OnLadder ladder v → R v
      on v u (j, q, h) = let p = has-place (ladder.per j) v h in subst R p.2 (near j q p.0 p.1 (subst (IsVertex m) (sym p.2) u))

-- and its faces have come, after what has come before it
pub climbed-since : {m a : Mesh} (ladder : Ladder a) → FacesSince m a → next_key m face_kind ≤ next_key a face_kind → (r : Mesh) → Climbed ladder ladder.n r → FacesSince m r
climbed-since ladder first up r c = since-onto first up c.keeps c.since
