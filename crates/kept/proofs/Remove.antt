-- A face removal: it clears the face of its ring's arcs and drops the record; every other cell stays, so every other ring does. It keeps a
-- mesh sound, so it is never answered with 8.
use Prim.Native.Nat.{ℕ, zero, suc, ◌-◌, ◌<◌}
use native.Mathlib.Omega.{arith}
use native.Mathlib.Decide.{ℕ_discrete}
use mathlib.Core.Path.{◌≡◌, refl, ap, sym, subst, ◌∙◌}
use mathlib.Core.Bool.{not, ◌&&◌, ◌||◌}
use mathlib.Core.List.{List, [], ◌∷◌}
use mathlib.Core.Logic.{◌⊎◌, inl, inr}
use lib.ListN.{length, get_or}
use lib.Dec.{T, eqb, eqb→eq}
use lib.Ieee.Fits.{and_l, and_r}
use borrow.Author.Tests.{eq-eqb, ne_eqb}
use Rattle.rules.specs.declared.Edit.TheVariants.{FaceRemove}
use Rattle.rules.specs.Table.{Table, cell, put, put_row, there, has, up_to, count, unused}
use Rattle.rules.specs.Mesh.{Mesh, Room, mesh, with_arcs, face, key_at, find_face}
use Rattle.rules.specs.Link.{set_face, ring}
use Rattle.rules.specs.Edit.{known, remove, remove_work}
use Rattle.rules.specs.Sound.{sound, ring_holds, holders_on_ring}
use Rattle.rules.specs.Step.{told, accepted}
use Rattle.rules.specs.Call.{checks, work, face_remove}
use Rattle.rules.proofs.Sums.{every-has}
use Rattle.proved.specs.Demand.{Holds}
use Rattle.proved.specs.Facts.{SoundFacts, RingFacts, IsArc, IsFace}
use Rattle.proved.proofs.Rows.{same-T, differ, if-so, in_table, used-at}
use Rattle.proved.proofs.Around.{has-place, place-has}
use Rattle.proved.proofs.Ring.{ring-from}
use Rattle.proved.proofs.Clauses.{facts, sound-from}
use Rattle.kept.specs.Frame.{Linked, RingStays}
use Rattle.kept.proofs.Cells.{put_row-here, put_row-other, put_row-rows, put-other-cell, put-other-row, put-here, cell-some}
use Rattle.kept.proofs.Base.{but-rings}
use Rattle.kept.proofs.Links.{set_face-is, linked-same, linked-face, arc-wide, arcs-loop, OtherFaces, arc-was, relinked-sound}
use Rattle.kept.specs.Reaches.{Spared, KeepsEnds}
use Rattle.kept.proofs.Rings.{ring-stays}
use Rattle.kept.proofs.Spared.{stays-spared}
use Rattle.kept.proofs.Find.{find-back}
use Rattle.kept.proofs.Eight.{Behind, never-8}
use Rattle.rules.proofs.Counts.{bit, count_set}

-- ---- the ring's list and the arcs that hold the face

module _ (m : Mesh) (f : ℕ) (r : RingFacts m f) where
  pub ring-place-holds : (i : ℕ) → i < length (ring m f) → Holds m f (get_or (ring m f) i 0)
  unfolding ring_holds
  ring-place-holds i l =
      let x = get_or (ring m f) i 0 in
      let h = every-has (λ y. there m.arcs y && eqb (face m y) f) (ring m f) (ring-from m f r).ring-holds x (place-has (ring m f) i l) in
      record { exists = and_l (there m.arcs x) (eqb (face m x) f) h; its-face = eqb→eq (face m x) f (and_r (there m.arcs x) (eqb (face m x) f) h) }

  pub holder-place : (x : ℕ) → Holds m f x → (i : ℕ) × (i < length (ring m f)) × (get_or (ring m f) i 0 ≡ x)
  unfolding holders_on_ring
  holder-place x h =
      has-place (ring m f) x (if-so (eqb (face m x) f) (has (ring m f) x) (used-at (λ y. not (eqb (face m y) f) || has (ring m f) y) m.arcs (ring-from m f r).holders-on-ring x h.exists) (same-T (face m x) f h.its-face))

-- ---- the arcs after a removal

-- the arcs of m, all linked as they were, where those that held f hold none, and the others what they held
pub record Cleared (m : Mesh) (f : ℕ) (t : Table) : Type 0 where
  pub linked : Linked m t
  pub cells_stay : (x c : ℕ) → (c ≡ 4 → ⊥) → cell t x c ≡ cell m.arcs x c
  pub held_none : (x : ℕ) → Holds m f x → cell t x 4 ≡ 0
  pub others-stay : (x : ℕ) → (Holds m f x → ⊥) → cell t x 4 ≡ face m x

-- after the first k arcs of the list
record ClearedUpTo (m : Mesh) (f : ℕ) (l : List ℕ) (k : ℕ) (t : Table) : Type 0 where
  linked : Linked m t
  cells_stay : (x c : ℕ) → (c ≡ 4 → ⊥) → cell t x c ≡ cell m.arcs x c
  none_yet : (i : ℕ) → i < k → cell t (get_or l i 0) 4 ≡ 0
  others-stay : (x : ℕ) → (Holds m f x → ⊥) → cell t x 4 ≡ face m x

module _ (m : Mesh) (s : SoundFacts m) (f : ℕ) (u : IsFace m f) where
  clear-one : (l : List ℕ) (k : ℕ) (t : Table) → Holds m f (get_or l k 0) → ClearedUpTo m f l k t → ClearedUpTo m f l (suc k) (put t (get_or l k 0) 4 0)
  clear-one l k t h w =
      record {
        linked = linked-face m t w.linked x 0 h.exists;
        cells_stay = λ y c n. put-other-cell t x 4 0 y c n ∙ w.cells_stay y c n;
        none_yet = λ i q. none i q (ℕ_discrete (get_or l i 0) x);
        others-stay = λ y n. put-other-row t x 4 0 y 4 (λ e. n (subst (Holds m f) (sym e) h)) ∙ w.others-stay y n;
      }
    where
      x : ℕ
      x = get_or l k 0

      none : (i : ℕ) → i < suc k → Dec (get_or l i 0 ≡ x) → cell (put t x 4 0) (get_or l i 0) 4 ≡ 0
      none i q (yes e) = ap (λ (z : ℕ). cell (put t x 4 0) z 4) e ∙ put-here t x 4 0 5 (arc-wide m (but-rings m s) t w.linked.ends x h.exists) (omega arith)
      none i q (no ne) = put-other-row t x 4 0 (get_or l i 0) 4 ne ∙ w.none_yet i (before (ℕ_discrete i k))
        where
          before : Dec (i ≡ k) → i < k
          before (yes e) = absurd (ne (ap (λ (z : ℕ). get_or l z 0) e))
          before (no d) = omega arith

  -- what a removal leaves
  pub removed : (t : Table) × (remove m f ≡ mesh m.vertices m.positions t m.edges (put_row m.faces f (0 ∷ 0 ∷ 0 ∷ [])) m.counters) × Cleared m f t
  unfolding remove
  removed =
      go (arcs-loop m (λ i a. set_face a (get_or (ring m f) i 0) 0) (ClearedUpTo m f (ring m f)) (length (ring m f)) start
      (λ i t l w. (put t (get_or (ring m f) i 0) 4 0, set_face-is m t (get_or (ring m f) i 0) 0, clear-one (ring m f) i t (ring-place-holds m f (s.rings f u) i l) w)))
    where
      start : ClearedUpTo m f (ring m f) 0 m.arcs
      start = record { linked = linked-same m (but-rings m s); cells_stay = λ x c n. refl; none_yet = λ i q. let z : ⊥ = omega arith in absurd z; others-stay = λ x n. refl }

      dropped : Mesh → Mesh
      dropped a = mesh a.vertices a.positions a.arcs a.edges (put_row a.faces f (0 ∷ 0 ∷ 0 ∷ [])) a.counters

      go : (t : Table) × (up_to (λ i a. set_face a (get_or (ring m f) i 0) 0) (length (ring m f)) m ≡ with_arcs m t) × ClearedUpTo m f (ring m f) (length (ring m f)) t → (t : Table) × (dropped (up_to (λ i a. set_face a (get_or (ring m f) i 0) 0) (length (ring m f)) m) ≡ mesh m.vertices m.positions t m.edges (put_row m.faces f (0 ∷ 0 ∷ 0 ∷ [])) m.counters) × Cleared m f t
      go w =
          (w.0, ap dropped w.1, record { linked = w.2.linked; cells_stay = w.2.cells_stay; held_none = λ x h. let p = holder-place m f (s.rings f u) x h in ap (λ (z : ℕ). cell w.0 z 4) (sym p.2) ∙ w.2.none_yet p.0 p.1; others-stay = w.2.others-stay })

  -- ---- the faces after a removal

  abbrev dropped : Table
  dropped = put_row m.faces f (0 ∷ 0 ∷ 0 ∷ [])

  dropped-none : (c : ℕ) → cell dropped f c ≡ 0
  dropped-none c = put_row-here m.faces f (0 ∷ 0 ∷ 0 ∷ []) c (in_table m.faces f u).0 (in_table m.faces f u).1 ∙ zeros c
    where
      zeros : (c : ℕ) → ◌≡◌ {A = ℕ} (get_or (0 ∷ 0 ∷ 0 ∷ []) c 0) 0
      zeros zero = refl
      zeros (suc zero) = refl
      zeros (suc (suc zero)) = refl
      zeros (suc (suc (suc c))) = refl

  dropped-other : (g c : ℕ) → (g ≡ f → ⊥) → cell dropped g c ≡ cell m.faces g c
  dropped-other g c ne = put_row-other m.faces f (0 ∷ 0 ∷ 0 ∷ []) g c ne

  pub face-was : (g : ℕ) → T (there dropped g) → (g ≡ f → ⊥) × IsFace m g
  face-was g h = (ne, subst (λ (z : ℕ). T (not (eqb z 0))) (dropped-other g 0 ne) h)
    where
      ne : g ≡ f → ⊥
      ne e = differ (cell dropped g 0) 0 h (ap (λ (z : ℕ). cell dropped z 0) e ∙ dropped-none 0)

  pub face-still : (g : ℕ) → (g ≡ f → ⊥) → IsFace m g → T (there dropped g)
  face-still g ne h = subst (λ (z : ℕ). T (not (eqb z 0))) (sym (dropped-other g 0 ne)) h

  -- an arc holds f or not
  holds-or : (x : ℕ) → IsArc m x → Dec (face m x ≡ f) → Holds m f x ⊎ (Holds m f x → ⊥)
  holds-or x a (yes e) = inl (record { exists = a; its-face = e })
  holds-or x a (no n) = inr (λ h. n h.its-face)

  module _ (t : Table) (w : Cleared m f t) where
    -- an arc that holds a face now held it before, and that face is not f
    held-before : (x : ℕ) → IsArc m x → (cell t x 4 ≡ 0 → ⊥) → (cell t x 4 ≡ face m x) × (face m x ≡ f → ⊥)
    held-before x a n = go (holds-or x a (ℕ_discrete (face m x) f))
      where
        go : Holds m f x ⊎ (Holds m f x → ⊥) → (cell t x 4 ≡ face m x) × (face m x ≡ f → ⊥)
        go (inl h) = absurd (n (w.held_none x h))
        go (inr h) = (w.others-stay x h, λ e. h (record { exists = a; its-face = e }))

    faces-of : OtherFaces m t dropped m.counters
    faces-of =
        record {
          face-rows = rw (put_row-rows m.faces f (0 ∷ 0 ∷ 0 ∷ [])) s.sizes.face-rows;
          keys-differ = λ j k p q e. let a = face-was j p in let b = face-was k q in s.face-keys-differ j k a.1 b.1 (sym (key j a.0) ∙ e ∙ key k b.0);
          keys_below = λ k p. let a = face-was k p in rw (key k a.0) (s.face-keys-below k a.1);
          vertex-counter = refl;
          edge-counter = refl;
          free-zero = λ k c n. zero k c n (ℕ_discrete k f);
          face-exists = λ x a n. let b = held-before x a n in rw b.0 (face-still (face m x) b.1 (s.face-exists x a (λ z. n (b.0 ∙ z))));
        }
      where
        key : (k : ℕ) → (k ≡ f → ⊥) → key_at dropped k ≡ key_at m.faces k
        key k ne = ap (λ (z : ℕ). z - 1) (dropped-other k 0 ne)

        zero : (k c : ℕ) → (T (there dropped k) → ⊥) → Dec (k ≡ f) → cell dropped k c ≡ 0
        zero k c n (yes e) = ap (λ (z : ℕ). cell dropped z c) e ∙ dropped-none c
        zero k c n (no ne) = dropped-other k c ne ∙ s.faces-zero k c (λ h. n (face-still k ne h))

    -- every other face keeps its ring, arc for arc
    pub other-ring : (g : ℕ) → (g ≡ f → ⊥) → IsFace m g → RingStays m (mesh m.vertices m.positions t m.edges dropped m.counters) g
    other-ring g ne h =
        record {
          first = dropped-other g 1 ne;
          rows = w.linked.ends.rows;
          keeps = λ x c q. keeps x c q (ℕ_discrete c 4);
          no_more = λ x q. let a = arc-was m (but-rings m s) t w.linked dropped m.counters faces-of x q.exists in record { exists = a; its-face = sym (held-before x a (λ z. none (sym q.its-face ∙ z))).0 ∙ q.its-face };
        }
      where
        none : g ≡ 0 → ⊥
        none e = let b = in_table m.faces g h in omega arith

        keeps : (x c : ℕ) → Holds m g x → Dec (c ≡ 4) → cell t x c ≡ cell m.arcs x c
        keeps x c q (yes e) = rw e (w.others-stay x (λ p. ne (sym q.its-face ∙ p.its-face)))
        keeps x c q (no n) = w.cells_stay x c n

    after-removal : SoundFacts (mesh m.vertices m.positions t m.edges dropped m.counters)
    after-removal =
        relinked-sound m (but-rings m s) t w.linked dropped m.counters faces-of (λ g h. let a = face-was g h in ring-stays m (mesh m.vertices m.positions t m.edges dropped m.counters) g (other-ring g a.0 a.1) (s.rings g a.1))

  -- a removal keeps the mesh sound
  pub remove-kept : SoundFacts (remove m f)
  remove-kept = subst SoundFacts (sym removed.1) (after-removal removed.0 removed.2)

  -- and spares every other face
  pub remove-spares : (g : ℕ) → (g ≡ f → ⊥) → IsFace m g → Spared m (remove m f) g
  remove-spares g ne h =
      subst (λ (n : Mesh). Spared m n g) (sym removed.1) (stays-spared (λ c. dropped-other g c ne) (other-ring removed.0 removed.2 g ne h))

  -- every arc and vertex is there, the other tables and the counters stay, and one row of the faces is free again
  pub remove-ends : KeepsEnds m (remove m f)
  remove-ends =
      let w = removed.2.linked.ends in
      subst (KeepsEnds m) (sym removed.1)
      (record { arcs = λ x h. subst (λ (z : ℕ). T (not (eqb z 0))) (sym (w.source_stays x)) h; sources = λ x h. w.source_stays x; dests = λ x h. w.dest-stays x; vertices = λ v h. h; places = λ v h. refl; arc-rows = w.rows; counter-rows = refl })

  -- a face other than it is one still
  pub remove-face : (g : ℕ) → (g ≡ f → ⊥) → IsFace m g → IsFace (remove m f) g
  remove-face g ne h = subst (λ (n : Mesh). IsFace n g) (sym removed.1) (face-still g ne h)

  -- and what is one still is another, and was one
  pub remove-was : (g : ℕ) → IsFace (remove m f) g → (g ≡ f → ⊥) × IsFace m g
  remove-was g h = face-was g (subst (λ (n : Mesh). IsFace n g) removed.1 h)

  pub remove-rest : ((remove m f).edges ≡ m.edges) × ((remove m f).counters ≡ m.counters) × ((remove m f).vertices ≡ m.vertices)
  remove-rest = (ap (λ (n : Mesh). n.edges) removed.1, ap (λ (n : Mesh). n.counters) removed.1, ap (λ (n : Mesh). n.vertices) removed.1)

  row-freed : count unused dropped ≡ suc (count unused m.faces)
  unfolding put_row
  row-freed =
      let b = in_table m.faces f u in
      let e = cell-some m.faces f 0 b.0 in
      let used-row = ap bit (ne_eqb (get_or (get_or m.faces (f - 1) []) 0 0) 0 (λ z. differ (cell m.faces f 0) 0 u (e ∙ z))) in
      rw (ne_eqb f 0 (λ z. omega arith)) (omega (arith, count_set unused m.faces (f - 1) (0 ∷ 0 ∷ 0 ∷ []) [] (omega arith), used-row))

  pub remove-frees : count unused (remove m f).faces ≡ suc (count unused m.faces)
  remove-frees = ap (λ (n : Mesh). count unused n.faces) removed.1 ∙ row-freed

-- ---- the call

pub found-face : (l : ℕ) → T (accepted (known l)) → l ≡ 0 → ⊥
unfolding known accepted
found-face l h e = rw (eq-eqb l 0 e) at h

-- behind its tests it leaves a sound mesh
pub face-remove-keeps : (m : Mesh) (f : ℕ) (keys : List ℕ) → Behind m (FaceRemove f) keys → T (sound (work m (FaceRemove f) keys).tables)
unfolding checks work remove_work
face-remove-keeps m f keys b =
    sound-from (remove m (find_face m f)) (remove-kept m (facts m b.was-sound) (find_face m f) (find-back m.faces f (found-face (find_face m f) b.checks-passed)).0)

-- (2) a face removal is never answered with 8, whatever tables, counters, rooms and key it is given
pub never-8-remove : (m : Mesh) (one two : Room) (f : ℕ) → (told (face_remove m one two f).answer).number ≡ 8 → ⊥
unfolding face_remove
never-8-remove m one two f = never-8 m (FaceRemove f) [] one two (face-remove-keeps m f [])
