-- No call lets a counter fall or changes how many there are: for every mesh, sound or not, every edit, all keys, any rooms, accepted or refused;
-- and so no list of calls does.
use Prim.Native.Nat.{ℕ, ◌+◌, ◌≤◌, ◌<◌}
use native.Mathlib.Omega.{arith}
use native.Mathlib.Decide.{ℕ_discrete, dec_lt}
use mathlib.Core.Path.{◌≡◌, refl, ap, ◌∙◌}
use mathlib.Core.Bool.{Bool, true, false, cond}
use mathlib.Core.List.{List, [], ◌∷◌}
use mathlib.Core.Logic.{◌⊎◌, inl, inr}
use lib.ListN.{length, get_or, length-set}
use lib.Seq.{get_or-set_same, get_or-set_other, set_out}
use lib.Dec.{eqb}
use Rattle.rules.specs.declared.Position.{Position}
use Rattle.rules.specs.declared.Edit.{Edit}
use Rattle.rules.specs.Mesh.{Mesh, key_limit, vertex_kind, edge_kind, face_kind, one_up, counted}
use Rattle.rules.specs.Link.{new_vertex, new_arc, new_edge, connect, set_face}
use Rattle.rules.specs.Insert.{new_face}
use Rattle.rules.specs.Step.{told}
use Rattle.rules.specs.Call.{call, work}
use Rattle.rules.specs.Script.{empty_mesh}
use Rattle.rules.proofs.Promises.{refused-nothing}
use Rattle.proved.specs.Demand.{Made, after_call, after_calls, reached}
use Rattle.kept.specs.Frame.{ThreeCounters}
use Rattle.makers.specs.Makers.{ruled}
use Rattle.kept.specs.Exactly.{answer}
use Rattle.kept.specs.Counters.{CountersRise}
use Rattle.makers.proofs.Ruled.{ruled-work}
use Rattle.kept.proofs.Eight.{Accepted, answer-zero}
use Rattle.kept.proofs.Steps.{KeptBySteps, work-keeps}

-- ---- counters

one-up-rises : (k : ℕ) → k ≤ one_up k
unfolding one_up
one-up-rises k = go (eqb k key_limit)
  where
    go : (b : Bool) → k ≤ cond b k (k + 1)
    go true = omega arith
    go false = omega arith

counted-rises : (k : List ℕ) (kind other : ℕ) → get_or k other 0 ≤ get_or (counted k kind) other 0
counted-rises k kind other = go (ℕ_discrete other kind) (dec_lt kind (length k))
  where
    go : Dec (other ≡ kind) → Dec (kind < length k) → get_or k other 0 ≤ get_or (counted k kind) other 0
    go (no n) l = rw (get_or-set_other k kind other (one_up (get_or k kind 0)) 0 n) (omega arith)
    go (yes e) (yes l) = rw (e, get_or-set_same k kind (one_up (get_or k kind 0)) 0 l) (one-up-rises (get_or k kind 0))
    go (yes e) (no l) = rw (set_out k kind (one_up (get_or k kind 0)) (omega arith)) (omega arith)

pub same-counters : {m n : Mesh} → n.counters ≡ m.counters → CountersRise m n
same-counters e = record { as_many = ap length e; rise = λ kind. rw e (omega arith) }

one-counted : {m n : Mesh} (kind : ℕ) → n.counters ≡ counted m.counters kind → CountersRise m n
one-counted {m} kind e = record { as_many = rw e (length-set m.counters kind _); rise = λ other. rw e (counted-rises m.counters kind other) }

pub rise-through : (a b c : Mesh) → CountersRise a b → CountersRise b c → CountersRise a c
rise-through a b c p q = record { as_many = q.as_many ∙ p.as_many; rise = λ kind. omega (arith, p.rise kind, q.rise kind) }

pub vertex-rises : (m : Mesh) (p : Position) → CountersRise m (new_vertex m p)
unfolding new_vertex
vertex-rises m p = one-counted vertex_kind refl

pub edge-rises : (m : Mesh) (a b : ℕ) → CountersRise m (new_edge m a b)
unfolding new_edge new_arc
edge-rises m a b = one-counted edge_kind refl

pub face-rises : (m : Mesh) (x mark : ℕ) → CountersRise m (new_face m x mark)
unfolding new_face
face-rises m x mark = one-counted face_kind refl

steps-rise : KeptBySteps CountersRise ruled
unfolding connect set_face
steps-rise =
    record {
      itself = λ m. same-counters refl;
      through = rise-through;
      vertex = vertex-rises;
      edge = edge-rises;
      face = face-rises;
      link = λ m x y. same-counters refl;
      set-face = λ m x f. same-counters refl;
      drop = λ m f. same-counters refl;
      outside = λ old soon per m. refl;
    }

work-rises : (m : Mesh) (e : Edit) (keys : List ℕ) → CountersRise m (work m e keys).tables
work-rises m e keys = rw (← ruled-work m e keys) (work-keeps CountersRise ruled steps-rise m e keys)

-- ---- calls

-- a call leaves the mesh as it stood, or as the edit made it behind its tests
pub call-leaves : (m : Mesh) (c : Made) → (after_call m c ≡ m) ⊎ Accepted m c.edit c.keys (after_call m c)
unfolding after_call
call-leaves m c = go (ℕ_discrete (told (answer m c)).number 0)
  where
    go : Dec ((told (answer m c)).number ≡ 0) → (after_call m c ≡ m) ⊎ Accepted m c.edit c.keys (after_call m c)
    go (yes e) = inr (answer-zero m c.edit c.keys c.one c.two e)
    go (no n) = inl (refused-nothing m c.one c.two (call c.edit) c.keys n).mesh-stands

-- over a call no counter falls
pub counters-rise : (m : Mesh) (c : Made) → CountersRise m (after_call m c)
counters-rise m c = go (call-leaves m c)
  where
    go : (after_call m c ≡ m) ⊎ Accepted m c.edit c.keys (after_call m c) → CountersRise m (after_call m c)
    go (inl e) = rw e (same-counters refl)
    go (inr w) = rw w.is (work-rises m c.edit c.keys)

-- nor over any list of calls
pub calls-rise : (m : Mesh) (cs : List Made) → CountersRise m (after_calls m cs)
unfolding after_calls
calls-rise m [] = same-counters refl
calls-rise m (c ∷ cs) = rise-through m (after_call m c) (after_calls (after_call m c) cs) (counters-rise m c) (calls-rise (after_call m c) cs)

-- so a mesh keeps its three counters, and a mesh that calls lead to from an empty one has three
pub three-stay : (m : Mesh) → ThreeCounters m → (cs : List Made) → ThreeCounters (after_calls m cs)
three-stay m k cs = rw (calls-rise m cs).as_many k

pub three-reached : (v e f : ℕ) (cs : List Made) → ThreeCounters (reached v e f cs)
unfolding reached empty_mesh
three-reached v e f cs = three-stay (empty_mesh v e f) (omega arith) cs
