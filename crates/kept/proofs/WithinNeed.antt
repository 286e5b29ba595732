-- From an edit that goes along within its need, by any makers, to a need that suffices.
use Prim.Native.Nat.{ℕ, ◌+◌, ◌≤◌}
use native.Mathlib.Omega.{arith}
use mathlib.Core.Path.{◌≡◌, refl}
use mathlib.Core.List.{List}
use Rattle.rules.specs.Answer.{Answer}
use Rattle.rules.specs.declared.Edit.{Edit}
use Rattle.rules.specs.Mesh.{Mesh, vertex_kind, face_kind, next_key}
use Rattle.rules.specs.Step.{Step, step}
use Rattle.rules.specs.Insert.{insert_work}
use Rattle.rules.specs.Call.{Need, need, insert_need, pairs_without, work}
use Rattle.kept.specs.Frame.{AllButRings, ThreeCounters, Met}
use Rattle.kept.specs.Perimeter.{Perimeter}
use Rattle.makers.specs.Makers.{Makers, ruled, LikeRules, insert_work_by, work_by}
use Rattle.kept.specs.Suffices.{Tally, Within, removed_by, Suffices}
use Rattle.makers.proofs.Ruled.{ruled-like}
use Rattle.kept.proofs.Tallies.{tally-onto}
use Rattle.kept.proofs.Along.{Along, along-start, along-so}
use Rattle.kept.proofs.Put.{Put, along-insert}
use Rattle.kept.proofs.Ladder.{Ladder, used-up, Climbed, Stopped}

-- all the vertices and faces of a need were made
pub record AllMade (m n : Mesh) (w : Need) : Type 0 where
  pub vertex-keys : next_key n vertex_kind ≡ next_key m vertex_kind + w.vertices
  pub face-keys : next_key n face_kind ≡ next_key m face_kind + w.face_keys

-- an edit that goes so far
abbrev pub Made : Mesh → Need → ℕ → Step → Step → Type 0
Made m w removed t t' = Along (λ a. AllMade m a w) (λ a. Within m a w removed) t t'

pub suffices : (m : Mesh) (e : Edit) (keys : List ℕ) → Met m (need m e keys) → ((by : Makers) → LikeRules by → Made m (need m e keys) (removed_by e) (work m e keys) (work_by by m e keys)) → Suffices m e keys
suffices m e keys r h =
    let w = h ruled ruled-like in
    let z = w.leaves in
    record {
      never-out = λ by like. (h by like).same;
      within = z;
      vertices-made = λ q. omega (arith, (w.goes q).vertex-keys, z.tally.vertex-keys);
      faces-made = λ q. omega (arith, (w.goes q).face-keys, z.tally.face-keys);
      vertex-keys-left = omega (arith, z.tally.vertex-keys, z.vertices-needed, r.vertex-keys);
      edge-keys-left = omega (arith, z.tally.edge-keys, z.edges-needed, r.edge-keys);
      face-keys-left = omega (arith, z.tally.face-keys, z.face-keys-needed, r.face-keys);
    }

-- a single step, of which the tally is known
pub step-made : {m n : Mesh} (n' : Mesh) (x : Answer) (w : Need) {edges removed : ℕ} → Tally m n w.vertices edges w.face_keys removed → edges ≤ w.edges → w.face_keys ≤ w.faces + removed → n' ≡ n → Made m w removed (step n x) (step n' x)
step-made {m} {n} n' x w {edges} t e f same =
    along-start n n' x (record { vertex-keys = t.vertex-keys; face-keys = t.face-keys })
    (record { vertices = w.vertices; edges = edges; faces = w.face_keys; tally = t; vertices-needed = omega arith; edges-needed = e; faces-needed = f; face-keys-needed = omega arith }) same

-- ---- one insert

insert-within : {m r : Mesh} (per : List ℕ) → Put m r per → Within m r (insert_need m per) 0
unfolding insert_need
insert-within per p =
    record { vertices = 0; edges = pairs_without _ per; faces = 1; tally = p.tally; vertices-needed = omega arith; edges-needed = omega arith; faces-needed = omega arith; face-keys-needed = omega arith }

-- an insert whose need is met
pub insert-made : (m : Mesh) → AllButRings m → (per : List ℕ) → Perimeter m per → ThreeCounters m → Met m (insert_need m per) → (mark : ℕ) (by : Makers) → LikeRules by → Made m (insert_need m per) 0 (insert_work m per mark) (insert_work_by by m per mark)
unfolding insert_need
insert-made m s per p k w mark by like =
    along-so (along-insert m s per p k w by like mark (λ r q. q) (λ r q. q)) (λ r q. record { vertex-keys = q.tally.vertex-keys; face-keys = q.tally.face-keys }) (λ r q. insert-within per q)

-- ---- a ladder, from what was made and removed before it

-- the ladder's faces and edges come on top, and are within the need
pub record OnTop (w : Need) (v e f g n : ℕ) : Type 0 where
  pub vertices : v ≡ w.vertices
  pub edges : e + n ≤ w.edges
  pub faces : f + n ≤ w.faces + g
  pub keys : f + n ≡ w.face_keys

module _ {m a : Mesh} (ladder : Ladder a) (w : Need) {v e f g : ℕ} (t : Tally m a v e f g) (o : OnTop w v e f g ladder.n) where
  pub climbed-within : (r : Mesh) → Stopped ladder r → Within m r w g
  climbed-within r (k, l, c) =
      let few = used-up ladder.n k in
      record {
        vertices = v;
        edges = e + c.edges;
        faces = f + k;
        tally = tally-onto t c.tally (omega arith) refl refl (omega arith);
        vertices-needed = omega (arith, o.vertices);
        edges-needed = omega (arith, c.edges_few, o.edges);
        faces-needed = omega (arith, o.faces);
        face-keys-needed = omega (arith, o.keys);
      }

  pub climbed-all : (r : Mesh) → Climbed ladder ladder.n r → AllMade m r w
  climbed-all r c =
      record { vertex-keys = omega (arith, c.tally.vertex-keys, t.vertex-keys, o.vertices); face-keys = omega (arith, c.tally.face-keys, t.face-keys, o.keys) }
