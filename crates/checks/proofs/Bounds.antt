-- A ring is no longer than its bound, so the list that the code holds is read back as it is.
use Prim.Native.Nat.{ℕ, zero, suc, ◌≤◌, zero-le, suc-le-suc}
use mathlib.Core.Path.{◌≡◌}
use mathlib.Core.Bool.{Bool, true, false, cond}
use mathlib.Core.List.{List, []}
use native.Mathlib.Omega.{arith}
use lib.ListN.{length, length-map}
use lib.Dec.{eqb}
use Rattle.rules.specs.Mesh.{Mesh, dest, links_of, list_of}
use Rattle.rules.specs.Link.{walk, ring, ring_vertices}
use Rattle.rules.proofs.Places.{list_back}

none_or : (b : Bool) (l : List ℕ) (n : ℕ) → length l ≤ n → length (cond b [] l) ≤ n
none_or true l n h = zero-le
none_or false l n h = h

pub walk-length : (step : ℕ → ℕ) (first n x : ℕ) → length (walk step first n x) ≤ n
unfolding walk
walk-length step first zero x = zero-le
walk-length step first (suc n) zero = zero-le
walk-length step first (suc n) (suc x) =
    suc-le-suc (none_or (eqb (step (suc x)) first) (walk step first n (step (suc x))) n (walk-length step first n (step (suc x))))

pub ring-few : (m : Mesh) (f : ℕ) → length (ring m f) ≤ 64
unfolding ring
ring-few m f = walk-length _ _ 64 _

pub vertices-few : (m : Mesh) (f : ℕ) → length (ring_vertices m f) ≤ 64
unfolding ring_vertices
vertices-few m f = omega (arith, length-map (ring m f) (dest m), ring-few m f)

pub ring-back : (m : Mesh) (f : ℕ) → list_of (links_of (ring m f)) ≡ ring m f
ring-back m f = list_back (ring m f) (ring-few m f)

pub vertices-back : (m : Mesh) (f : ℕ) → list_of (links_of (ring_vertices m f)) ≡ ring_vertices m f
vertices-back m f = list_back (ring_vertices m f) (vertices-few m f)
