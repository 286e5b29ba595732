-- Answer 8 is never given to a vertex insert, to a face removal, nor to a face insert on vertices that no arc touches: for every lent table,
-- every three counters, every room and every argument. So each of these edits keeps every clause of Sound. That the counters are three is
-- the type of the code's parameter; a mesh without them is answered with 8 (Witness.without-counters-8).
use Prim.Native.Nat.{ℕ}
use mathlib.Core.Path.{◌≡◌}
use mathlib.Core.List.{List, [], ◌∷◌}
use lib.Dec.{lit≤}
use lib.Ieee.{Float}
use Rattle.rules.specs.declared.Position.{Position}
use Rattle.rules.specs.Table.{Table}
use Rattle.rules.specs.Mesh.{Mesh, Room, mesh}
use Rattle.rules.specs.Step.{told}
use Rattle.rules.specs.Call.{vertex_insert, face_remove, face_insert}
use Rattle.kept.specs.Reaches.{NoArcAt}
use Rattle.kept.proofs.Vertex.{never-8-vertex}
use Rattle.kept.proofs.Remove.{never-8-remove}
use Rattle.kept.proofs.FreshKept.{never-8-fresh}

module _ (vertices : Table) (positions : List (List Float)) (arcs edges faces : Table) (vertex-key edge-key face-key : ℕ) (one two : Room) where
  -- the lent mesh
  abbrev lent : Mesh
  lent = mesh vertices positions arcs edges faces (vertex-key ∷ edge-key ∷ face-key ∷ [])

  pub vertex-insert-never-8 : (p : Position) → (told (vertex_insert lent one two p).answer).number ≡ 8 → ⊥
  vertex-insert-never-8 p = never-8-vertex lent one two p (lit≤ tt)

  pub face-remove-never-8 : (f : ℕ) → (told (face_remove lent one two f).answer).number ≡ 8 → ⊥
  face-remove-never-8 f = never-8-remove lent one two f

  -- if no arc in use has one of the keys' vertices as an end
  pub fresh-insert-never-8 : (keys : List ℕ) (mark : ℕ) → NoArcAt lent keys → (told (face_insert lent one two keys mark).answer).number ≡ 8 → ⊥
  fresh-insert-never-8 keys mark n = never-8-fresh lent one two keys mark (lit≤ tt) n
