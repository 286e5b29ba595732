-- An edit needs at most what `most` tells, exactly that where no pair is asked for its arc; and room for more is room for less.
use Prim.Native.Nat.{ℕ, ◌+◌, ◌≤◌}
use native.Mathlib.Omega.{arith}
use mathlib.Core.Path.{◌≡◌, refl, sym, subst}
use mathlib.Core.Bool.{Bool, true, false, ◌&&◌, cond, false≢true}
use mathlib.Core.List.{List}
use lib.ListN.{length, length-map}
use lib.Dec.{eqb, leb}
use borrow.Author.Tests.{leb-true, le-leb}
use Rattle.rules.specs.declared.Edit.{Edit}
use Rattle.rules.specs.declared.Edit.TheVariants.{VertexInsert, FaceInsert, FaceRemove, FaceSplit, FacePoke, FaceBridge, FaceExtrude, ArcBridge, ArcExtrude}
use Rattle.rules.specs.Mesh.{Mesh, find_vertex, vertex_kind, edge_kind, face_kind, next_key}
use Rattle.rules.specs.Insert.{arc_at}
use Rattle.rules.specs.Edit.{corners}
use Rattle.rules.specs.Call.{Need, need, by_keys, arc_by_keys, pairs_without, insert_need, rows_for, keys_for, room_for}
use Rattle.checks.specs.Most.{AtMost, most}
use Rattle.checks.proofs.Below.{one_at_most, sum-few}
use Rattle.checks.proofs.Pairs.{corners-size}

same : (n : Need) → AtMost n n
same n = record { vertices = omega arith; edges = omega arith; faces = omega arith; face_keys = omega arith }

-- a list has at most as many pairs without an arc as it has members
pairs-few : (m : Mesh) (per : List ℕ) → pairs_without m per ≤ length per
unfolding pairs_without
pairs-few m per = sum-few (λ i. cond (eqb (arc_at m per i) 0) 1 0) (length per) (λ i. one_at_most (eqb (arc_at m per i) 0))

insert-few : (m : Mesh) (keys : List ℕ) → pairs_without m (by_keys m keys) ≤ length keys
unfolding by_keys
insert-few m keys = omega (arith, pairs-few m (by_keys m keys), length-map keys (find_vertex m))

bridge-few : (m : Mesh) (x y : ℕ) → pairs_without m (corners m x y) ≤ 4
bridge-few m x y = omega (arith, pairs-few m (corners m x y), corners-size m x y)

pub need-at-most : (m : Mesh) (e : Edit) (keys : List ℕ) → AtMost (need m e keys) (most m e keys)
unfolding most need insert_need
need-at-most m (VertexInsert p) keys = same _
need-at-most m (FaceInsert mark) keys = record { vertices = omega arith; edges = insert-few m keys; faces = omega arith; face_keys = omega arith }
need-at-most m (FaceRemove f) keys = same _
need-at-most m (FaceSplit f s d) keys = record { vertices = omega arith; edges = one_at_most (eqb (arc_by_keys m s d) 0); faces = omega arith; face_keys = omega arith }
need-at-most m (FacePoke f p) keys = same _
need-at-most m (FaceBridge f g) keys = same _
need-at-most m (FaceExtrude f move) keys = same _
need-at-most m (ArcBridge a b c d) keys = record { vertices = omega arith; edges = bridge-few m (arc_by_keys m a b) (arc_by_keys m c d); faces = omega arith; face_keys = omega arith }
need-at-most m (ArcExtrude s d move) keys = same _

-- what the code tells
pub most-told : (m : Mesh) (e : Edit) (keys : List ℕ) (n : Need) → n ≡ most m e keys → (n ≡ most m e keys) × AtMost (need m e keys) n
most-told m e keys n h = (h, subst (AtMost (need m e keys)) (sym h) (need-at-most m e keys))

-- ---- room for more is room for less

both : (a b : Bool) → (a && b) ≡ true → (a ≡ true) × (b ≡ true)
both true b h = (refl, h)
both false b h = absurd (false≢true h)

less : (n k c : ℕ) → n ≤ k → leb k c ≡ true → leb n c ≡ true
less n k c h e = le-leb n c (omega (arith, leb-true k c e))

after_more : (a n k c : ℕ) → n ≤ k → leb (a + k) c ≡ true → leb (a + n) c ≡ true
after_more a n k c h = less (a + n) (a + k) c (omega (arith, h))

-- three tests, one after the other
three : (a b c p q r : Bool) → (a ≡ true → p ≡ true) → (b ≡ true → q ≡ true) → (c ≡ true → r ≡ true) → (a && (b && c)) ≡ true → (p && (q && r)) ≡ true
three a b c p q r f g h e =
    let x = both a (b && c) e in
    let y = both b c x.1 in
    rw (f x.0, g y.0) (h y.1)

module _ (m : Mesh) (n k : Need) (h : AtMost n k) where
  rows-for-less : rows_for m k ≡ true → rows_for m n ≡ true
  unfolding rows_for
  rows-for-less = three _ _ _ _ _ _ (less _ _ _ h.vertices) (less _ _ _ h.edges) (less _ _ _ h.faces)

  keys-for-less : keys_for m k ≡ true → keys_for m n ≡ true
  unfolding keys_for
  keys-for-less = three _ _ _ _ _ _ (after_more (next_key m vertex_kind) _ _ _ h.vertices) (after_more (next_key m edge_kind) _ _ _ h.edges) (after_more (next_key m face_kind) _ _ _ h.face_keys)

  pub room-for-less : room_for m k ≡ true → room_for m n ≡ true
  unfolding room_for
  room-for-less e =
      let x = both (rows_for m k) (keys_for m k) e in
      rw (rows-for-less x.0) (keys-for-less x.1)

-- ---- the need, where the most is told

-- such an edit needs what is told
pub none-asked :
    (m : Mesh) (e : Edit) (keys : List ℕ) →
    ((mark : ℕ) → e ≡ FaceInsert mark → ⊥) → ((f s d : ℕ) → e ≡ FaceSplit f s d → ⊥) → ((a b c d : ℕ) → e ≡ ArcBridge a b c d → ⊥) →
    most m e keys ≡ need m e keys
unfolding most
none-asked m (VertexInsert p) keys i s b = refl
none-asked m (FaceInsert mark) keys i s b = absurd (i mark refl)
none-asked m (FaceRemove f) keys i s b = refl
none-asked m (FaceSplit f x d) keys i s b = absurd (s f x d refl)
none-asked m (FacePoke f p) keys i s b = refl
none-asked m (FaceBridge f g) keys i s b = refl
none-asked m (FaceExtrude f move) keys i s b = refl
none-asked m (ArcBridge x y z d) keys i s b = absurd (b x y z d refl)
none-asked m (ArcExtrude s d move) keys i t b = refl
