-- Demand 3, one theorem over every list of calls from an empty mesh of every size within the limits.
use Prim.Native.Nat.{ℕ, ◌+◌, ◌≤◌}
use mathlib.Core.Path.{◌≡◌, refl, ◌∙◌}
use mathlib.Core.Bool.{Bool, true, false, ◌&&◌, cond}
use mathlib.Core.List.{List}
use lib.ListN.{length}
use lib.Dec.{T}
use Rattle.rules.specs.declared.Call.{Call}
use Rattle.rules.specs.Table.{there}
use Rattle.rules.specs.Mesh.{Mesh, Room, vertex_limit, edge_limit, face_limit, key_at}
use Rattle.rules.specs.Sound.{sound}
use Rattle.rules.specs.Step.{told}
use Rattle.rules.specs.Call.{room_enough, called, face_arity, vertex_insert, face_insert, face_remove, face_split, face_poke, face_bridge, face_extrude, arc_bridge_call, arc_extrude}
use Rattle.rules.proofs.Sums.{sum-ext}
use Rattle.proved.specs.Demand.{Made, after_call, reached, PublicCalls, holders, all_holders, over_faces, Demand3}
use Rattle.proved.proofs.Rows.{true-T}
use Rattle.proved.proofs.SoundParts.{parts}
use Rattle.proved.proofs.Ring.{ring_of}
use Rattle.proved.proofs.Totals.{adds-up, at-most-twice}
use Rattle.proved.proofs.Reached.{reached-sound, one-for-rooms}

-- ---- a sound mesh

told-arity : (m : Mesh) → T (sound m) → (f : ℕ) → T (there m.faces f) → (told (face_arity m (key_at m.faces f))).arity ≡ holders m f
unfolding told
told-arity m t f h = rw (ring_of m t f h).reported

reported-add-up : (m : Mesh) → T (sound m) → over_faces m (λ f. (told (face_arity m (key_at m.faces f))).arity) ≡ all_holders m
reported-add-up m t =
    sum-ext (λ i. cond (there m.faces (i + 1)) (told (face_arity m (key_at m.faces (i + 1)))).arity 0) (λ i. cond (there m.faces (i + 1)) (holders m (i + 1)) 0) (length m.faces) (λ i l. go i (there m.faces (i + 1)) refl)
    ∙ adds-up m (parts m t)
  where
    go : (i : ℕ) (b : Bool) → there m.faces (i + 1) ≡ b → cond b (told (face_arity m (key_at m.faces (i + 1)))).arity 0 ≡ cond b (holders m (i + 1)) 0
    go i true e = told-arity m t (i + 1) (true-T e)
    go i false e = refl

pub sound-demand : (m : Mesh) → T (sound m) → Demand3 m
sound-demand m t = record { each-face = ring_of m t; adds-up = adds-up m (parts m t); reported-add-up = reported-add-up m t; at-most-twice = at-most-twice m (parts m t) }

-- ---- the demand

-- From an empty mesh, after any calls, refused ones among them: following next from the arc that a face's record names comes back after
-- exactly as many arcs as hold that face, 3 to 64, meeting each once. Previous runs the same ring backwards. The arity reported is that
-- number. Over all faces these counts add up to the number of arcs that hold a face, at most twice the number of edges
module _ (v e f : ℕ) (vs : v ≤ vertex_limit) (es : e ≤ edge_limit) (fs : f ≤ face_limit) (calls : List Made) where
  pub demand-3 : Demand3 (reached v e f calls)
  demand-3 = sound-demand (reached v e f calls) (reached-sound v e f vs es fs calls)

  -- and there a further call answers 1 only where one of its rooms is too small
  pub reached-one : (one two : Room) (c : Call) (keys : List ℕ) → (told (called (reached v e f calls) one two c keys).answer).number ≡ 1 → (room_enough (reached v e f calls) one && room_enough (reached v e f calls) two) ≡ false
  reached-one = one-for-rooms (reached v e f calls) (reached-sound v e f vs es fs calls)

-- the public calls are among them
pub public-calls : (m : Mesh) (one two : Room) → PublicCalls m one two
unfolding after_call vertex_insert face_insert face_remove face_split face_poke face_bridge face_extrude arc_bridge_call arc_extrude
public-calls m one two =
    record {
      vertex-insert = λ p. refl;
      face-insert = λ keys mark. refl;
      face-remove = λ f. refl;
      face-split = λ f s d. refl;
      face-poke = λ f p. refl;
      face-bridge = λ f g. refl;
      face-extrude = λ f move. refl;
      arc-bridge = λ a b c d. refl;
      arc-extrude = λ s d move. refl;
    }
