-- The pairs of a perimeter: the arc of a pair by the list of them; the tests that the loops make at a pair; and the list of corners.
use Prim.Native.Nat.{ℕ, ◌≤◌}
use native.Mathlib.Omega.{arith}
use mathlib.Core.Path.{◌≡◌, refl, ap, ◌∙◌}
use mathlib.Core.Bool.{Bool, true, not, ◌&&◌, ◌||◌}
use mathlib.Core.List.{List, map}
use lib.ListN.{length, get_or, length-map}
use lib.Dec.{eqb}
use Rattle.rules.specs.declared.Links.{Links}
use Rattle.rules.specs.declared.Edit.{Edit}
use Rattle.rules.specs.declared.Edit.TheVariants.{FaceInsert}
use borrow.Author.Tests.{leb-true}
use Rattle.rules.specs.Table.{cell, has, after}
use Rattle.rules.specs.Mesh.{Mesh, dest, next, face, find_key, links_of, list_of}
use Rattle.rules.specs.Insert.{arc_at, has_face, leads_back}
use Rattle.rules.specs.Edit.{corners}
use Rattle.rules.specs.Call.{given, by_keys}
use Rattle.rules.proofs.Places.{list_back}
use Rattle.pairs.specs.Pairs.{arcs_of}
use Rattle.pairs.proofs.Listed.{arc-of-pair, arcs-length}

-- ---- what is asked at pair i

abbrev pub clash : Mesh → List ℕ → ℕ → Bool
clash m per i = has_face m per i || leads_back m per i

abbrev pub taken : Mesh → ℕ → List ℕ → ℕ → Bool
taken m f per i = has_face m per i && not (eqb (face m (arc_at m per i)) f)

-- the same by the list of the arcs
module _ (m : Mesh) (per xs : List ℕ) (e : xs ≡ arcs_of m.arcs per) (i : ℕ) where
  pub listed-arc : (j : ℕ) → get_or xs j 0 ≡ arc_at m per j
  listed-arc j = ap (λ (l : List ℕ). get_or l j 0) e ∙ arc-of-pair m per j

  pub face-at : (r : Bool) → r ≡ (not (eqb (get_or xs i 0) 0) && not (eqb (cell m.arcs (get_or xs i 0) 4) 0)) → r ≡ has_face m per i
  unfolding has_face
  face-at r h = rw (← listed-arc i) h

  -- whether it leads back. j is the pair after
  pub back-at : (j : ℕ) (r : Bool) → j ≡ after (length xs) i → r ≡ (not (eqb (get_or xs i 0) 0) && (eqb (get_or xs j 0) 0 && (not (eqb (next m (get_or xs i 0)) 0) && has per (dest m (next m (get_or xs i 0)))))) → r ≡ leads_back m per i
  unfolding leads_back
  back-at j r ej h =
      let on : j ≡ after (length per) i = ej ∙ ap (λ (n : ℕ). after n i) (ap length e ∙ arcs-length m.arcs per) in
      rw (← listed-arc i, ← on, ← listed-arc j) h

-- ---- lists as the code holds them

pub corners-size : (m : Mesh) (x y : ℕ) → length (corners m x y) ≡ 4
unfolding corners
corners-size m x y = refl

pub corners-back : (m : Mesh) (x y : ℕ) (l : Links) → l ≡ links_of (corners m x y) → list_of l ≡ corners m x y
corners-back m x y l e = ap list_of e ∙ list_back (corners m x y) (omega (arith, corners-size m x y))

-- what the caller gave is checked first, so a face insert has at most 64 keys
pub given-few : (e : Edit) (keys : List ℕ) → given e keys ≡ true → (mark : ℕ) → e ≡ FaceInsert mark → length keys ≤ 64
unfolding given
given-few e keys h mark q = leb-true (length keys) 64 (rw q at h)

module _ (m : Mesh) (keys : List ℕ) (few : length keys ≤ 64) (names : Links) (e : names ≡ links_of keys) where
  pub names-back : list_of names ≡ keys
  names-back = ap list_of e ∙ list_back keys few

  pub per-back : (per : Links) → per ≡ links_of (map (find_key m.vertices) (list_of names)) → list_of per ≡ by_keys m keys
  unfolding by_keys
  per-back per h =
      let same : per ≡ links_of (map (find_key m.vertices) keys) = rw names-back at h in
      ap list_of same ∙ list_back (map (find_key m.vertices) keys) (omega (arith, length-map keys (find_key m.vertices)))
