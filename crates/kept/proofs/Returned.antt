-- The key that an accepted call returns for a new record is the counter before it, and the counters after it are past that key: so of two calls
-- that return keys of one kind, with any calls between them, the later returns the greater.
use Prim.Native.Nat.{ℕ, ◌+◌, ◌≤◌, ◌<◌}
use native.Mathlib.Omega.{arith}
use mathlib.Core.Path.{◌≡◌, refl, ap, subst, ◌∙◌}
use mathlib.Core.Bool.{Bool, true, false, cond}
use mathlib.Core.List.{List}
use lib.Dec.{T}
use Rattle.rules.specs.declared.Position.{Position}
use Rattle.rules.specs.declared.Move.{Move}
use Rattle.rules.specs.declared.Edit.{Edit}
use Rattle.rules.specs.declared.Edit.TheVariants.{VertexInsert, FaceInsert, FacePoke, FaceExtrude, ArcBridge, ArcExtrude}
use Rattle.rules.specs.Answer.{Answer}
use Rattle.rules.specs.Answer.{Key, Arc}
use Rattle.rules.specs.Mesh.{Mesh, Room, key_limit, dest, vertex_kind, next_key}
use Rattle.rules.specs.Link.{new_vertex, put_vertex}
use Rattle.rules.specs.Step.{Step, step, told, accepted, answering}
use Rattle.rules.specs.Insert.{insert_work}
use Rattle.rules.specs.Edit.{poke_work, arc_bridge_work}
use Rattle.rules.specs.Extrude.{moved_position, extrude_work, arc_extrude_work}
use Rattle.rules.specs.Call.{needs, need, insert_need, work, call, called, arc_by_keys}
use Rattle.proved.specs.Demand.{Made, made, after_call, after_calls}
use Rattle.kept.specs.Frame.{ThreeCounters}
use Rattle.kept.specs.Exactly.{answer}
use Rattle.kept.specs.Counters.{Returns, new-vertex, new-face, new-middle, new-top, new-bridge, KeyReturned, ArcReturned}
use Rattle.kept.proofs.Counted.{met, counted-here}
use Rattle.kept.proofs.NeedSuffices.{accepted-made}
use Rattle.kept.proofs.Answers.{zero-exactly, stands-as}
use Rattle.kept.proofs.CountersUp.{counters-rise, calls-rise, three-stay}

-- ---- what an edit answers if it is accepted

answers : (a : Answer) (s : Step) → T (accepted (answering a s).answer) → (answering a s).answer ≡ a
unfolding answering
answers a s h = go (accepted s.answer) refl h
  where
    go : (b : Bool) → accepted s.answer ≡ b → T (accepted (cond b (step s.tables a) s).answer) → (cond b (step s.tables a) s).answer ≡ a
    go true e q = refl
    go false e q = absurd (subst T e q)

told-key : (a : Answer) (k : ℕ) → a ≡ Key k → (told a).key ≡ k
unfolding told
told-key a k e = rw e

-- the key of its new record is the counter
work-key : (m : Mesh) (e : Edit) (keys : List ℕ) (kind : ℕ) → Returns e kind → T (accepted (work m e keys).answer) → (told (work m e keys).answer).key ≡ next_key m kind
unfolding work insert_work arc_bridge_work poke_work extrude_work
work-key m e keys kind (new-vertex p) h = told-key _ _ refl
work-key m e keys kind (new-face mark) h = told-key _ _ refl
work-key m e keys kind (new-middle f p) h = told-key _ _ (answers _ _ h)
work-key m e keys kind (new-top f move) h = told-key _ _ (answers _ _ h)
work-key m e keys kind (new-bridge a b c d) h = told-key _ _ refl

-- and at least one key of that kind is needed
work-counts : (m : Mesh) (e : Edit) (keys : List ℕ) (one two : Room) (kind : ℕ) → ThreeCounters m → Returns e kind → (told (called m one two (call e) keys).answer).number ≡ 0 → next_key m kind < next_key (called m one two (call e) keys).mesh kind
unfolding need insert_need
work-counts m e keys one two kind k (new-vertex p) h = omega (arith, (accepted-made m (VertexInsert p) keys one two k h).2.vertex-keys)
work-counts m e keys one two kind k (new-face mark) h = omega (arith, (accepted-made m (FaceInsert mark) keys one two k h).2.face-keys)
work-counts m e keys one two kind k (new-middle f p) h = omega (arith, (accepted-made m (FacePoke f p) keys one two k h).2.vertex-keys)
work-counts m e keys one two kind k (new-top f move) h = omega (arith, (accepted-made m (FaceExtrude f move) keys one two k h).2.face-keys)
work-counts m e keys one two kind k (new-bridge a b c d) h = omega (arith, (accepted-made m (ArcBridge a b c d) keys one two k h).2.face-keys)

-- ---- calls

pub key-returned : (m : Mesh) → ThreeCounters m → (c : Made) (kind : ℕ) → Returns c.edit kind → (told (answer m c)).number ≡ 0 → KeyReturned m c kind
unfolding after_call
key-returned m k c kind r h =
    let z = (zero-exactly m c).0 h in
    let e = ap (λ (a : Answer). (told a).key) (stands-as m c z) ∙ work-key m c.edit c.keys kind r z.at-result.work-accepted in
    record { was-next = e; now-past = rw e (work-counts m c.edit c.keys c.one c.two kind k r h) }

-- the later key is the greater
pub returned-once : (m : Mesh) → ThreeCounters m → (c d : Made) (between : List Made) (kind : ℕ) → Returns c.edit kind → Returns d.edit kind → (told (answer m c)).number ≡ 0 → (told (answer (after_calls (after_call m c) between) d)).number ≡ 0 → (told (answer m c)).key < (told (answer (after_calls (after_call m c) between) d)).key
returned-once m k c d between kind r q h i =
    let n = after_call m c in
    let later = after_calls n between in
    let three = three-stay n (rw (counters-rise m c).as_many k) between in
    omega (arith, (key-returned m k c kind r h).now-past, (calls-rise n between).rise kind, (key-returned later three d kind q i).was-next)

-- ---- arc extrude

told-arc : (a : Answer) (s d : ℕ) → a ≡ Arc s d → ((told a).source ≡ s) × ((told a).destination ≡ d)
unfolding told
told-arc a s d e = rw e (refl, refl)

vertex-counts : (m : Mesh) (p : Position) → ThreeCounters m → next_key m vertex_kind + 1 ≤ key_limit → next_key (new_vertex m p) vertex_kind ≡ next_key m vertex_kind + 1
unfolding new_vertex put_vertex
vertex-counts m p k h = omega (arith, counted-here m.counters vertex_kind (omega arith) h)

-- its arc runs from the first to the second of its two new vertices
pub arc-returned : (m : Mesh) → ThreeCounters m → (one two : Room) (keys : List ℕ) (s d : ℕ) (move : Move) → (told (answer m (made (ArcExtrude s d move) keys one two))).number ≡ 0 → ArcReturned m (made (ArcExtrude s d move) keys one two)
unfolding after_call work arc_extrude_work need
arc-returned m k one two keys s d move h =
    let c = made (ArcExtrude s d move) keys one two in
    let x = arc_by_keys m s d in
    let z = (zero-exactly m c).0 h in
    let e = told-arc _ _ _ (stands-as m c z ∙ answers _ _ z.at-result.work-accepted) in
    let w = met m (needs 2 3 1 1) z.at-result.at-work.need-met in
    let second = vertex-counts m (moved_position m move (dest m x)) k (omega (arith, w.vertex-keys)) in
    let past = (accepted-made m (ArcExtrude s d move) keys one two k h).2.vertex-keys in
    record { was-next = e.0; and-next = e.1 ∙ second; now-past = omega (arith, e.1, second, past) }
