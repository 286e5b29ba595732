-- Rooms, over plain values: a part of a room that is as long as the mesh, and the whole call.
use Prim.Native.Nat.{ℕ, ◌-◌, ◌≤◌}
use native.Mathlib.Omega.{arith}
use mathlib.Core.Path.{◌≡◌, refl, ◌∙◌}
use mathlib.Core.Bool.{Bool, true, false, ◌&&◌, false≢true}
use mathlib.Core.List.{List, [], ◌∷◌, ◌++◌}
use lib.ListN.{length, take, drop, replicate, length-append, length-take, length-drop}
use lib.Dec.{leb, leb→le}
use lib.Ieee.Fits.{and_l, and_r}
use Rattle.rules.specs.Mesh.{Mesh, Room, room}
use Rattle.rules.specs.Point.{zero_float}
use Rattle.rules.specs.Sound.{within_limits}
use Rattle.rules.specs.Call.{room_enough, zeroed}
use Rattle.rules.specs.Script.{Text}
use Rattle.proved.proofs.Rows.{true-T}
use Rattle.file.specs.File.{sizes_serve, read_file}
use Rattle.rules.specs.Lent.{tables_of}
use Rattle.verdicts.specs.Verdicts.{SameSize, taken, taken_of}
use Rattle.reads.specs.Reads.{Fits, file_read}

-- ---- a part of a room, as long as the mesh

module _ {ℓ} {A : Type ℓ} where
  pub part-size : (m s : List A) → length m ≤ length s → length m ≡ length (take (length m - 0) s)
  part-size m s h = omega (arith, length-take (length m - 0) s)

  -- a part put back leaves a table as long as it was
  pub part-back : (n : ℕ) (new old : List A) → n ≤ length old → length new ≡ length (take (n - 0) old) → length (new ++ drop (n - 0) old) ≡ length old
  part-back n new old h e = omega (arith, length-append new (drop (n - 0) old), length-drop (n - 0) old, length-take (n - 0) old)

-- ---- the whole call

and-true : (a b : Bool) → (a && b) ≡ true → (a ≡ true) × (b ≡ true)
and-true true b e = (refl, e)
and-true false b e = absurd (false≢true e)

module _ (m : Mesh) (one two : Room) (e : sizes_serve m one two ≡ true) where
  pub serve-limits : within_limits m ≡ true
  unfolding sizes_serve
  serve-limits = (and-true (within_limits m) _ e).0

  pub serve-fits : Fits (tables_of m) one
  unfolding sizes_serve room_enough
  serve-fits =
      let h = and_l (room_enough m one) _ (and_r (within_limits m) _ (true-T e)) in
      let h₁ = and_r (leb (length m.vertices) (length one.vertices)) _ h in
      let h₂ = and_r (leb (length m.positions) (length one.positions)) _ h₁ in
      let h₃ = and_r (leb (length m.arcs) (length one.arcs)) _ h₂ in
      record {
        vertices = leb→le (length m.vertices) (length one.vertices) (and_l (leb (length m.vertices) (length one.vertices)) _ h);
        positions = leb→le (length m.positions) (length one.positions) (and_l (leb (length m.positions) (length one.positions)) _ h₁);
        arcs = leb→le (length m.arcs) (length one.arcs) (and_l (leb (length m.arcs) (length one.arcs)) _ h₂);
        edges = leb→le (length m.edges) (length one.edges) (and_l (leb (length m.edges) (length one.edges)) _ h₃);
        faces = leb→le (length m.faces) (length one.faces) (and_r (leb (length m.edges) (length one.edges)) _ h₃);
      }

-- what zeroing leaves goes by the sizes alone
zeroed-sized : (r s : Room) → SameSize r s → zeroed r ≡ zeroed s
unfolding zeroed
zeroed-sized r s z =
    λ i.
    room (replicate (z.vertices i) (0 ∷ 0 ∷ [])) (replicate (z.positions i) (zero_float ∷ zero_float ∷ zero_float ∷ []))
    (replicate (z.arcs i) (0 ∷ 0 ∷ 0 ∷ 0 ∷ 0 ∷ 0 ∷ [])) (replicate (z.edges i) (0 ∷ 0 ∷ 0 ∷ [])) (replicate (z.faces i) (0 ∷ 0 ∷ 0 ∷ []))

module _ (m : Mesh) (one two : Room) (t : Text) where
  pub read-not : sizes_serve m one two ≡ false → file_read 1 m one two ≡ read_file m one two t
  unfolding read_file
  read-not e = rw e

  -- n is the mesh left, r room one after the work, o and q both rooms after they were zeroed
  pub read_done : (a : ℕ) (n : Mesh) (r o q : Room) → sizes_serve m one two ≡ true → taken a n ≡ taken_of m t → SameSize r one → o ≡ zeroed r → q ≡ zeroed two
      → file_read a n o q ≡ read_file m one two t
  unfolding read_file taken_of
  read_done a n r o q e l z eo eq = (λ i. file_read (l i).number (l i).mesh ((eo ∙ zeroed-sized r one z) i) (eq i)) ∙ rw e
