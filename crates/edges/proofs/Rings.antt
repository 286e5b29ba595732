-- A face's ring as the code holds it, and what is left of a mesh when the face is taken out.
use Prim.Native.Nat.{ℕ, zero, suc, ◌≤◌, zero-le, suc-le-suc}
use mathlib.Core.Path.{◌≡◌, refl, ap, sym, ◌∙◌}
use mathlib.Core.Bool.{Bool, true, false, cond}
use mathlib.Core.List.{List, [], ◌∷◌}
use lib.ListN.{length, get_or}
use lib.Dec.{eqb}
use Rattle.rules.specs.declared.Walk.{Walk}
use Rattle.rules.specs.Table.{cell, put, put_row, up_to}
use Rattle.rules.specs.Mesh.{Mesh, mesh, with_arcs, list_of}
use Rattle.rules.specs.Link.{set_face, walk, walk_of, ring}
use Rattle.rules.specs.Edit.{remove}
use Rattle.rules.proofs.Places.{list_back}

none_or : (b : Bool) (l : List ℕ) (n : ℕ) → length l ≤ n → length (cond b [] l) ≤ n
none_or true l n h = zero-le
none_or false l n h = h

-- a walk is at most as long as its bound
pub walk-length : (step : ℕ → ℕ) (first bound x : ℕ) → length (walk step first bound x) ≤ bound
unfolding walk
walk-length step first zero x = zero-le
walk-length step first (suc bound) zero = zero-le
walk-length step first (suc bound) (suc x) =
    suc-le-suc (none_or (eqb (step (suc x)) first) (walk step first bound (step (suc x))) bound (walk-length step first bound (step (suc x))))

-- so of a walk of 64 arcs or fewer nothing is lost
pub walk-held : (step : ℕ → ℕ) (first : ℕ) (w : Walk) → w ≡ walk_of step first 64 → list_of w.links ≡ walk step first 64 first
unfolding walk_of
walk-held step first w e =
    ap (λ (v : Walk). list_of v.links) e ∙ list_back (walk step first 64 first) (walk-length step first 64 first)

-- faces set on the mesh one after the other are set on its arcs
pub faces-set : (g : ℕ → ℕ) (n : ℕ) (m : Mesh) → up_to (λ i a. set_face a (g i) 0) n m ≡ with_arcs m (up_to (λ i t. put t (g i) 4 0) n m.arcs)
unfolding up_to set_face
faces-set g zero m = refl
faces-set g (suc n) m = rw (faces-set g n m)

pub removed : (m : Mesh) (f : ℕ) (l : List ℕ) → l ≡ ring m f → remove m f ≡ mesh m.vertices m.positions (up_to (λ i t. put t (get_or l i 0) 4 0) (length l) m.arcs) m.edges (put_row m.faces f (0 ∷ 0 ∷ 0 ∷ [])) m.counters
unfolding remove
removed m f l e = rw (e, faces-set (λ i. get_or (ring m f) i 0) (length (ring m f)) m)

-- the code's steps, from the face's arc to the record
pub taken_out : (m : Mesh) (f first : ℕ) (w : Walk) → first ≡ cell m.faces f 1 → w ≡ walk_of (λ x. cell m.arcs x 2) first 64 → mesh m.vertices m.positions (up_to (λ i t. put t (get_or (list_of w.links) i 0) 4 0) (length (list_of w.links)) m.arcs) m.edges (put_row m.faces f (0 ∷ 0 ∷ 0 ∷ [])) m.counters ≡ remove m f
unfolding ring
taken_out m f first w ef ew =
    sym (removed m f (list_of w.links) (walk-held (λ x. cell m.arcs x 2) first w ew ∙ rw ef))
