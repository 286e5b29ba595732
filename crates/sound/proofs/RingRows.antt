-- The walk along a ring has at most 64 arcs, and as many as it tells.
use Prim.Native.Nat.{ℕ, zero, suc, ◌≤◌, zero-le, suc-le-suc}
use mathlib.Core.Path.{◌≡◌, sym, ap}
use mathlib.Core.Bool.{Bool, true, false, cond}
use mathlib.Core.List.{[]}
use lib.ListN.{length}
use lib.Dec.{eqb}
use Rattle.rules.specs.declared.Walk.{Walk}
use Rattle.rules.specs.Table.{Table, cell}
use Rattle.rules.specs.Mesh.{Mesh, next, face_arc, links_of}
use Rattle.rules.specs.Link.{walk, walk_of, ring}

walk-few : (step : ℕ → ℕ) (first n x : ℕ) → length (walk step first n x) ≤ n
unfolding walk
walk-few step first zero x = zero-le
walk-few step first (suc n) zero = zero-le
walk-few step first (suc n) (suc x) = suc-le-suc (go (eqb (step (suc x)) first) (walk-few step first n (step (suc x))))
  where
    go : (b : Bool) → length (walk step first n (step (suc x))) ≤ n → length (cond b [] (walk step first n (step (suc x)))) ≤ n
    go true h = zero-le
    go false h = h

-- what the walk from a face's arc tells of its ring
module _ (m : Mesh) (f : ℕ) (arcs : Table) (first : ℕ) (w : Walk) (ea : m.arcs ≡ arcs) (ef : face_arc m f ≡ first) (ew : w ≡ walk_of (λ x. cell arcs x 2) first 64) where
  as-ring : w ≡ walk_of (next m) (face_arc m f) 64
  as-ring = rw (ea, ef) ew

  pub ring-len : length (ring m f) ≡ w.links.len
  unfolding ring walk_of links_of
  ring-len = sym (ap (λ (z : Walk). z.links.len) as-ring)

pub ring-few : (m : Mesh) (f : ℕ) → length (ring m f) ≤ 64
unfolding ring
ring-few m f = walk-few (next m) (face_arc m f) 64 (face_arc m f)

-- and so has what the code is given
pub walk-short : (step : ℕ → ℕ) (first : ℕ) (w : Walk) → w ≡ walk_of step first 64 → w.links.len ≤ 64
unfolding walk_of links_of
walk-short step first w e = rw e (walk-few step first 64 first)
