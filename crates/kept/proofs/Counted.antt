-- A need that is met, as facts. And a counter that is counted up while a key is left: it goes one up, and the others stay.
use Prim.Native.Nat.{ℕ, suc, ◌+◌, ◌-◌, ◌≤◌, ◌<◌}
use native.Mathlib.Omega.{arith}
use mathlib.Core.Path.{◌≡◌, ◌∙◌}
use mathlib.Core.List.{List}
use lib.ListN.{length, get_or}
use lib.Seq.{get_or-set_same, get_or-set_other}
use lib.Dec.{T, leb, leb→le}
use lib.Ieee.Fits.{and_l, and_r}
use borrow.Author.Tests.{ne_eqb}
use mathlib.Core.Bool.{◌&&◌}
use Rattle.rules.specs.Table.{count, unused}
use Rattle.rules.specs.Mesh.{Mesh, key_limit, vertex_kind, edge_kind, face_kind, next_key, one_up, counted}
use Rattle.rules.specs.Call.{Need, rows_for, keys_for, room_for}
use Rattle.kept.specs.Frame.{Met}

pub met : (m : Mesh) (n : Need) → T (room_for m n) → Met m n
unfolding room_for rows_for keys_for
met m n h =
    let v = leb n.vertices (count unused m.vertices) in
    let e = leb n.edges (count unused m.edges) in
    let f = leb n.faces (count unused m.faces) in
    let x = leb (next_key m vertex_kind + n.vertices) key_limit in
    let y = leb (next_key m edge_kind + n.edges) key_limit in
    let z = leb (next_key m face_kind + n.face_keys) key_limit in
    let rows = and_l (v && (e && f)) (x && (y && z)) h in
    let keys = and_r (v && (e && f)) (x && (y && z)) h in
    record {
      vertex-rows = leb→le _ _ (and_l v (e && f) rows);
      edge-rows = leb→le _ _ (and_l e f (and_r v (e && f) rows));
      face-rows = leb→le _ _ (and_r e f (and_r v (e && f) rows));
      vertex-keys = leb→le _ _ (and_l x (y && z) keys);
      edge-keys = leb→le _ _ (and_l y z (and_r x (y && z) keys));
      face-keys = leb→le _ _ (and_r y z (and_r x (y && z) keys));
    }

-- ---- counters

pub one_up_lem : (k : ℕ) → k + 1 ≤ key_limit → one_up k ≡ suc k
unfolding one_up
one_up_lem k h = rw (ne_eqb k key_limit (λ e. omega arith)) (omega arith)

-- a new record's first cell is its key plus one
pub key_back : (k : ℕ) → k + 1 ≤ key_limit → one_up k - 1 ≡ k
key_back k h = rw (one_up_lem k h) (omega arith)

pub one-up-some : (k : ℕ) → k + 1 ≤ key_limit → one_up k ≡ 0 → ⊥
one-up-some k h e = let z = one_up_lem k h in omega arith

pub counted-here : (k : List ℕ) (kind : ℕ) → kind < length k → get_or k kind 0 + 1 ≤ key_limit → get_or (counted k kind) kind 0 ≡ suc (get_or k kind 0)
counted-here k kind l h = get_or-set_same k kind (one_up (get_or k kind 0)) 0 l ∙ one_up_lem (get_or k kind 0) h

pub counted-other : (k : List ℕ) (kind other : ℕ) → (other ≡ kind → ⊥) → get_or (counted k kind) other 0 ≡ get_or k other 0
counted-other k kind other ne = get_or-set_other k kind other (one_up (get_or k kind 0)) 0 ne
