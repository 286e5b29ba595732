-- Two fitters in turn (specs/InTurn): after any calls of any edits, refused ones among them, a face whose key is still in use is the panel
-- that it was.
use Prim.Native.Nat.{ℕ, ◌-◌, ◌≤◌}
use native.Mathlib.Omega.{arith}
use mathlib.Core.Path.{◌≡◌, refl, ap, sym, subst, ◌∙◌}
use mathlib.Core.Bool.{not}
use mathlib.Core.List.{List, [], ◌∷◌}
use mathlib.Core.Logic.{◌⊎◌, inl, inr}
use lib.ListN.{length-map}
use lib.Dec.{T, eqb}
use Rattle.rules.specs.Table.{has}
use Rattle.rules.specs.Mesh.{Mesh, vertex_limit, edge_limit, face_limit, dest, key_at, face_kind, next_key}
use Rattle.rules.specs.Link.{ring, ring_vertices}
use Rattle.rules.specs.Sound.{sound}
use Rattle.proved.specs.Demand.{Made, after_call, after_calls, reached}
use Rattle.proved.specs.Facts.{IsVertex, IsEdge, IsFace}
use Rattle.proved.proofs.Around.{has-place}
use Rattle.proved.proofs.Clauses.{facts, sound-from}
use Rattle.proved.proofs.Reached.{reached-sound}
use Rattle.kept.specs.Frame.{ThreeCounters}
use Rattle.kept.specs.Reaches.{Spared, SameRing}
use Rattle.kept.specs.Local.{Came}
use Rattle.kept.specs.Counters.{InUse}
use Rattle.kept.specs.InTurn.{KeepsPanel, PanelsInUseStay}
use Rattle.kept.proofs.Spared.{same-ring}
use Rattle.kept.proofs.Lists.{map_at}
use Rattle.kept.proofs.Remove.{ring-place-holds}
use Rattle.kept.proofs.Keeps.{keeps-none, keeps-onto}
use Rattle.kept.proofs.Local.{since_none, since-onto}
use Rattle.kept.proofs.Eight.{Accepted}
use Rattle.kept.proofs.CountersUp.{call-leaves, counters-rise, three-reached}
use Rattle.kept.proofs.RecordsStay.{KeptByCalls, vertex-onto, kept-by-call, face-kept, ring-kept}

-- ---- from a mesh to what any calls leave

kept-none : (m : Mesh) → T (sound m) → KeptByCalls m m
kept-none m t =
    record {
      was-sound = facts m t;
      now-sound = facts m t;
      vertices = λ v u. record { exists = u; same_key = refl; same-position = refl };
      ends = keeps-none m;
      edge_stays = λ x u. refl;
      edges-stay = λ e c u. refl;
      since = since_none m;
    }

kept-onto : {m a r : Mesh} → KeptByCalls m a → next_key m face_kind ≤ next_key a face_kind → KeptByCalls a r → KeptByCalls m r
kept-onto {m} {a} p rise q =
    record {
      was-sound = p.was-sound;
      now-sound = q.now-sound;
      vertices = λ v u. let w = p.vertices v u in vertex-onto v w (q.vertices v w.exists);
      ends = keeps-onto p.ends q.ends;
      edge_stays = λ x u. q.edge_stays x (p.ends.arcs x u) ∙ p.edge_stays x u;
      edges-stay = λ e c u. q.edges-stay e c (edge_in e u) ∙ p.edges-stay e c u;
      since = since-onto p.since rise q.ends q.since;
    }
  where
    edge_in : (e : ℕ) → IsEdge m e → IsEdge a e
    edge_in e u = subst (λ (z : ℕ). T (not (eqb z 0))) (sym (p.edges-stay e 0 u)) u

one-call : (m : Mesh) → ThreeCounters m → T (sound m) → (c : Made) → KeptByCalls m (after_call m c)
one-call m three t c = go (call-leaves m c)
  where
    go : (after_call m c ≡ m) ⊎ Accepted m c.edit c.keys (after_call m c) → KeptByCalls m (after_call m c)
    go (inl e) = rw e (kept-none m t)
    go (inr w) = kept-by-call m three c.edit c.keys (after_call m c) w

pub kept-by-calls : (m : Mesh) → ThreeCounters m → T (sound m) → (cs : List Made) → KeptByCalls m (after_calls m cs)
unfolding after_calls
kept-by-calls m three t [] = kept-none m t
kept-by-calls m three t (c ∷ cs) =
    let n = after_call m c in
    let first = one-call m three t c in
    let rise = counters-rise m c in
    kept-onto first (rise.rise face_kind) (kept-by-calls n (rw rise.as_many three) (sound-from n first.now-sound) cs)

-- ---- a panel whose key is in use

module _ {m r : Mesh} (k : KeptByCalls m r) (g : ℕ) (u : IsFace m g) (known : InUse r.faces (key_at m.faces g)) where
  -- a face that has come since has a key from the counter on; so the one with this key was there, and no other was
  spared : Spared m r g
  spared = go (k.since known.row known.in_use)
    where
      go : (IsFace m known.row × Spared m r known.row) ⊎ Came m r known.row → Spared m r g
      go (inl w) =
          let e = ap (λ (z : ℕ). z - 1) (sym (w.1.record-stays 0)) ∙ known.its-key in
          subst (Spared m r) (k.was-sound.face-keys-differ known.row g w.0 u e) w.1
      go (inr c) = let z : ⊥ = omega (arith, c.counted, known.its-key, k.was-sound.face-keys-below g u) in absurd z

  same : SameRing m r g
  same = same-ring spared (k.now-sound.rings g (subst (λ (z : ℕ). T (not (eqb z 0))) (sym (spared.record-stays 0)) u))

  on-ring : (v : ℕ) → T (has (ring_vertices m g) v) → IsVertex m v
  unfolding ring_vertices
  on-ring v h =
      let p = has-place (ring_vertices m g) v h in
      let l = rw (length-map (ring m g) (dest m)) at p.1 in
      let x = ring-place-holds m g (k.was-sound.rings g u) p.0 l in
      subst (IsVertex m) (sym (map_at (dest m) (ring m g) p.0 0 0 l) ∙ p.2) (k.was-sound.ends-exist _ x.exists).1

  panel-kept : KeepsPanel m r g
  panel-kept = record { its-face = face-kept k g u same; its-ring = ring-kept k g u same; its-corners = λ v h. k.vertices v (on-ring v h) }

-- from any sound mesh, after any calls
pub panels-in-turn : (m : Mesh) → ThreeCounters m → T (sound m) → (cs : List Made) → PanelsInUseStay m (after_calls m cs)
panels-in-turn m three t cs g u known = panel-kept (kept-by-calls m three t cs) g u known

-- from an empty mesh, one fitter's calls and then the other's
pub reached-panels-in-turn : (v e f : ℕ) → v ≤ vertex_limit → e ≤ edge_limit → f ≤ face_limit
    → (first second : List Made) → PanelsInUseStay (reached v e f first) (after_calls (reached v e f first) second)
reached-panels-in-turn v e f vs es fs first second =
    panels-in-turn (reached v e f first) (three-reached v e f first) (reached-sound v e f vs es fs first) second
