-- Marks put one after the other: no mark is lost, and each vertex that one was put for has one.
use Prim.Native.Nat.{ℕ, zero, suc, ◌%◌, ◌≤◌, ◌<◌}
use native.Mathlib.Nat.{not-suc-le-zero}
use native.Mathlib.Omega.{arith}
use native.Mathlib.Decide.{ℕ_discrete}
use mathlib.Core.Path.{◌≡◌, refl, ap, subst, ◌∙◌}
use mathlib.Core.Bool.{Bool, true, false}
use mathlib.Core.List.{List, [], ◌∷◌, ◌++◌, map}
use lib.ListN.{length, get_or, set, length-set, length-map}
use lib.Seq.{get_or-set_same}
use lib.Dec.{T, eqb}
use lib.Ieee.{Float}
use Rattle.rules.specs.declared.Links.{Links}
use Rattle.rules.specs.Table.{Table, up_to, has}
use Rattle.rules.specs.Mesh.{mesh, find_key, links_of, list_of}
use Rattle.rules.specs.Call.{by_keys}
use Rattle.rules.proofs.Places.{list_back}
use Rattle.rules.proofs.Sums.{or_cases, or_l, or_r}
use Rattle.proved.proofs.Around.{has-place}
use Rattle.pairs.specs.Pairs.{mark_count, marked_at}
use Rattle.pairs.specs.Near.{is_marked}
use Rattle.pairs.proofs.Steps.{mark_at}
use Rattle.nearby.specs.Marks.{Marks}

-- ---- one mark

-- what is true at a place stays so where true is put at another
set-stays : (s : List Bool) (p q : ℕ) → get_or s q false ≡ true → get_or (set s p true) q false ≡ true
set-stays [] p q h = h
set-stays (x ∷ xs) zero zero h = refl
set-stays (x ∷ xs) zero (suc q) h = h
set-stays (x ∷ xs) (suc p) zero h = h
set-stays (x ∷ xs) (suc p) (suc q) h = set-stays xs p q h

-- ---- the marks of a list

module _ (seen : List Bool) (size : length seen ≡ mark_count) (l : List ℕ) where
  -- after k of its numbers
  abbrev after : ℕ → List Bool
  after k = up_to (mark_at l) k seen

  -- there are as many marks
  after-size : (k : ℕ) → length (after k) ≡ mark_count
  unfolding up_to
  after-size zero = size
  after-size (suc k) = length-set (after k) (get_or l k 0 % mark_count) true ∙ after-size k

  -- no mark is lost
  after-stays : (k v : ℕ) → is_marked seen v ≡ true → is_marked (after k) v ≡ true
  unfolding up_to
  after-stays zero v h = h
  after-stays (suc k) v h = set-stays (after k) (get_or l k 0 % mark_count) (v % mark_count) (after-stays k v h)

  -- each of the numbers passed has a mark
  after-marked : (k i : ℕ) → i < k → is_marked (after k) (get_or l i 0) ≡ true
  unfolding up_to
  after-marked zero i q = absurd (not-suc-le-zero q)
  after-marked (suc k) i q = go (ℕ_discrete i k) (after-marked k i)
    where
      go : Dec (i ≡ k) → (i < k → is_marked (after k) (get_or l i 0) ≡ true) → is_marked (mark_at l k (after k)) (get_or l i 0) ≡ true
      go (yes e) ih = ap (λ (j : ℕ). is_marked (mark_at l k (after k)) (get_or l j 0)) e ∙ get_or-set_same (after k) (get_or l k 0 % mark_count) true false (omega (arith, after-size k))
      go (no ne) ih = set-stays (after k) (get_or l k 0 % mark_count) (get_or l i 0 % mark_count) (ih (omega arith))

  -- so at the end of the list
  pub marks-list : Marks seen (marked_at seen l) l
  unfolding marked_at
  marks-list =
      record {
        stays = after-stays (length l);
        marked = λ v t. let w = has-place l v t in subst (λ (x : ℕ). is_marked (after (length l)) x ≡ true) w.2 (after-marked (length l) w.0 w.1);
      }

-- ---- as the code puts them

-- those of a list that the code holds
pub marks-held : (seen now : List Bool) (l : List ℕ) (r : Links) → length seen ≡ mark_count → length l ≤ 64 → r ≡ links_of l → now ≡ marked_at seen (list_of r) → Marks seen now l
marks-held seen now l r size few e h = rw (h, e, list_back l few) (marks-list seen size l)

-- those of the vertices with the keys of a list that the code holds
pub marks-keys : (seen now : List Bool) (v : Table) (p : List (List Float)) (a e f : Table) (k keys : List ℕ) (names r : Links) → length seen ≡ mark_count → length keys ≤ 64 → names ≡ links_of keys → r ≡ links_of (map (find_key v) (list_of names)) → now ≡ marked_at seen (list_of r) → Marks seen now (by_keys (mesh v p a e f k) keys)
unfolding by_keys
marks-keys seen now v p a e f k keys names r size few is by h =
    marks-held seen now (map (find_key v) keys) r size (omega (arith, length-map keys (find_key v))) (rw (is, list_back keys few) at by) h

-- ---- one list after the other

-- nothing put
pub marks-none : (seen : List Bool) → Marks seen seen []
unfolding has
marks-none seen = record { stays = λ v h. h; marked = λ v t. absurd t }

-- what stands in two lists put together stands in one of them
has_either : {C : Type 0} (k l : List ℕ) (v : ℕ) → T (has (k ++ l) v) → (T (has k v) → C) → (T (has l v) → C) → C
unfolding has
has_either [] l v t f g = g t
has_either (x ∷ xs) l v t f g =
    or_cases (eqb v x) (has (xs ++ l) v) t (λ e. f (or_l (eqb v x) (has xs v) e)) (λ r. has_either xs l v r (λ w. f (or_r (eqb v x) (has xs v) w)) g)

-- the marks of two lists
pub marks-both : {a b c : List Bool} {k l : List ℕ} → Marks a b k → Marks b c l → Marks a c (k ++ l)
marks-both {a} {b} {c} {k} {l} s t =
    record {
      stays = λ v h. t.stays v (s.stays v h);
      marked = λ v h. has_either k l v h (λ w. t.stays v (s.marked v w)) (t.marked v);
    }
