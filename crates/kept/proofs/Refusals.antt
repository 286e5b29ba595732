-- Which refusals are the Rust's: the checks of an edit give 3, 4 or 5, those of a bridge 6 too; and in mid-edit an edit gives 3, 4 or 5. For every
-- mesh, sound or not, every edit and all keys. One law for each way that checks and edits are put together, then the nine edits.
use Prim.Native.Nat.{ℕ, zero, suc, ◌-◌}
use mathlib.Core.Path.{◌≡◌, subst}
use mathlib.Core.Bool.{Bool, true, false, not, ◌||◌, cond}
use mathlib.Core.List.{List}
use lib.ListN.{length}
use lib.Dec.{eqb, ltb}
use Rattle.rules.specs.declared.Edit.{Edit}
use Rattle.rules.specs.declared.Edit.TheVariants.{VertexInsert, FaceInsert, FaceRemove, FaceSplit, FacePoke, FaceBridge, FaceExtrude, ArcBridge, ArcExtrude}
use Rattle.rules.specs.declared.Refusal.{Refusal}
use Rattle.rules.specs.Answer.{Answer}
use Rattle.rules.specs.Answer.{Key, Arc, Mark, Arity, Done, Refused}
use Rattle.rules.specs.Table.{up_to, has, some_below}
use Rattle.rules.specs.Mesh.{Mesh, face}
use Rattle.rules.specs.Link.{ring, ring_vertices}
use Rattle.rules.specs.Step.{Step, step, accepted, and_then, answering, checked}
use Rattle.rules.specs.Insert.{malformed, has_hair, has_face, conflict, insert_checks, insert_work, insert_face}
use Rattle.rules.specs.Edit.{known, place, ring_distance, half, held_by_other, corners, split_checks, arc_bridge_checks, bridge_checks, remove_work, split_work, poke_work, arc_bridge_work, arc_bridge, bridge_work}
use Rattle.rules.specs.Extrude.{arc_extrude_checks, extrude_work, arc_extrude_work}
use Rattle.rules.specs.Call.{checks, work}
use Rattle.kept.specs.Exactly.{InMidEdit, three, four, five, thirteen, bridges, OfChecks, as-in-mid-edit, six}

-- D is said of an answer that is accepted, P of the refusal of one that is not
unfoldable pub Says : Type 0 → (Refusal → Type 0) → Answer → Type 0
Says D P (Key k) = D
Says D P (Arc s d) = D
Says D P (Mark n) = D
Says D P (Arity n) = D
Says D P Done = D
Says D P (Refused r) = P r

-- an answer that is accepted, or refused with 3, 4 or 5; and one of an edit's checks
abbrev Mild : Answer → Type 0
Mild a = Says (Unit {0}) InMidEdit a

abbrev MildChecks : Edit → Answer → Type 0
MildChecks e a = Says (Unit {0}) (OfChecks e) a

-- ---- the ways that checks and edits are put together

module _ (P : Refusal → Type 0) where
  passes : Says (Unit {0}) P Done
  unfolding Says
  passes = tt

  -- a refusal, or else what comes after it
  refuses-or : (b : Bool) (r : Refusal) (x : Answer) → P r → Says (Unit {0}) P x → Says (Unit {0}) P (cond b (Refused r) x)
  unfolding Says
  refuses-or true r x p q = p
  refuses-or false r x p q = q

abbrev mild-done : Mild Done
mild-done = passes InMidEdit

mild-key : (k : ℕ) → Mild (Key k)
unfolding Says
mild-key k = tt

mild-arc : (s d : ℕ) → Mild (Arc s d)
unfolding Says
mild-arc s d = tt

mild-mark : (n : ℕ) → Mild (Mark n)
unfolding Says
mild-mark n = tt

mild-or : (b : Bool) (r : Refusal) (x : Answer) → InMidEdit r → Mild x → Mild (cond b (Refused r) x)
mild-or = refuses-or InMidEdit

either : (b : Bool) (x y : Step) → Mild x.answer → Mild y.answer → Mild (cond b x y).answer
either true x y p q = p
either false x y p q = q

mild-answering : (a : Answer) (s : Step) → Mild a → Mild s.answer → Mild (answering a s).answer
unfolding answering
mild-answering a s p q = either (accepted s.answer) (step s.tables a) s p q

mild-checked : (m : Mesh) (a : Answer) (s : Step) → Mild a → Mild s.answer → Mild (checked m a s).answer
unfolding checked
mild-checked m a s p q = either (accepted a) s (step m a) q p

mild-then : (s : Step) (part : Mesh → Step) → Mild s.answer → ((a : Mesh) → Mild (part a).answer) → Mild (and_then s part).answer
unfolding and_then
mild-then s part p h = either (accepted s.answer) (part s.tables) s (h s.tables) p

mild-loop : (part : ℕ → Mesh → Step) (n : ℕ) (s : Step) → ((i : ℕ) (a : Mesh) → Mild (part i a).answer) → Mild s.answer → Mild (up_to (λ i t. and_then t (part i)) n s).answer
unfolding up_to
mild-loop part zero s h p = p
mild-loop part (suc n) s h p = mild-then (up_to (λ i t. and_then t (part i)) n s) (part n) (mild-loop part n s h p) (h n)

-- an answer so refused is so refused by checks too
as-checks : (e : Edit) (a : Answer) → Mild a → MildChecks e a
unfolding Says
as-checks e (Key k) p = tt
as-checks e (Arc s d) p = tt
as-checks e (Mark n) p = tt
as-checks e (Arity n) p = tt
as-checks e Done p = tt
as-checks e (Refused r) p = as-in-mid-edit p

-- ---- the checks

mild-known : (l : ℕ) → Mild (known l)
unfolding known
mild-known l = mild-or (eqb l 0) _ _ four mild-done

mild-insert : (m : Mesh) (names per : List ℕ) → Mild (insert_checks m names per)
unfolding insert_checks
mild-insert m names per =
    mild-or (malformed names) _ _ three (mild-or (has per 0) _ _ four (mild-or (has_hair m per) _ _ thirteen (mild-or (conflict m per) _ _ five mild-done)))

mild-split : (m : Mesh) (f s d : ℕ) → Mild (split_checks m f s d)
unfolding split_checks
mild-split m f s d =
    let vs = ring_vertices m f in
    mild-or (eqb f 0) _ _ four
    (mild-or (eqb (place vs s) 0 || eqb (place vs d) 0) _ _ four
    (mild-or (ltb (ring_distance (length vs) (place vs s - 1) (place vs d - 1)) 2) _ _ three
    (mild-or (held_by_other m f (half m f s d) || held_by_other m f (half m f d s)) _ _ five mild-done)))

mild-arc-bridge : (m : Mesh) (x y : ℕ) → Mild (arc_bridge_checks m x y)
unfolding arc_bridge_checks
mild-arc-bridge m x y =
    let per = corners m x y in
    mild-or (eqb x 0 || eqb y 0) _ _ four (mild-or (some_below (has_face m per) (length per)) _ _ five (mild-insert m per per))

mild-arc-extrude : (m : Mesh) (x : ℕ) → Mild (arc_extrude_checks m x)
unfolding arc_extrude_checks
mild-arc-extrude m x = mild-or (eqb x 0) _ _ four (mild-or (not (eqb (face m x) 0)) _ _ five mild-done)

mild-bridge : (m : Mesh) (a b f g : ℕ) → MildChecks (FaceBridge a b) (bridge_checks m f g)
unfolding bridge_checks
mild-bridge m a b f g =
    let P = OfChecks (FaceBridge a b) in
    refuses-or P (eqb f 0) _ _ (as-in-mid-edit four)
    (refuses-or P (eqb g 0) _ _ (as-in-mid-edit four)
    (refuses-or P (not (eqb (length (ring m f)) (length (ring m g)))) _ _ (six (bridges a b)) (refuses-or P (eqb f g) _ _ (as-in-mid-edit four) (passes P))))

pub mild-checks : (m : Mesh) (e : Edit) (keys : List ℕ) → MildChecks e (checks m e keys)
unfolding checks
mild-checks m (VertexInsert p) keys = passes (OfChecks (VertexInsert p))
mild-checks m (FaceInsert mark) keys = as-checks (FaceInsert mark) _ (mild-insert m _ _)
mild-checks m (FaceRemove f) keys = as-checks (FaceRemove f) _ (mild-known _)
mild-checks m (FaceSplit f s d) keys = as-checks (FaceSplit f s d) _ (mild-split m _ _ _)
mild-checks m (FacePoke f p) keys = as-checks (FacePoke f p) _ (mild-known _)
mild-checks m (FaceBridge f g) keys = mild-bridge m f g _ _
mild-checks m (FaceExtrude f move) keys = as-checks (FaceExtrude f move) _ (mild-known _)
mild-checks m (ArcBridge a b c d) keys = as-checks (ArcBridge a b c d) _ (mild-arc-bridge m _ _)
mild-checks m (ArcExtrude s d move) keys = as-checks (ArcExtrude s d move) _ (mild-arc-extrude m _)

-- ---- the edits

mild-insert-face : (m : Mesh) (per : List ℕ) (mark : ℕ) → Mild (insert_face m per mark).answer
unfolding insert_face insert_work
mild-insert-face m per mark = mild-checked m (insert_checks m per per) (insert_work m per mark) (mild-insert m per per) (mild-key _)

mild-bridge-arcs : (m : Mesh) (x y : ℕ) → Mild (arc_bridge m x y).answer
unfolding arc_bridge arc_bridge_work insert_work
mild-bridge-arcs m x y = mild-checked m (arc_bridge_checks m x y) (arc_bridge_work m x y) (mild-arc-bridge m x y) (mild-key _)

pub mild-work : (m : Mesh) (e : Edit) (keys : List ℕ) → Mild (work m e keys).answer
unfolding work insert_work remove_work split_work poke_work bridge_work extrude_work arc_bridge_work arc_extrude_work
mild-work m (VertexInsert p) keys = mild-key _
mild-work m (FaceInsert mark) keys = mild-key _
mild-work m (FaceRemove f) keys = mild-mark _
mild-work m (FaceSplit f s d) keys = mild-checked _ _ _ (mild-insert _ _ _) (mild-checked _ _ _ (mild-insert _ _ _) (mild-arc _ _))
mild-work m (FacePoke f p) keys = mild-answering _ _ (mild-key _) (mild-loop _ _ _ (λ i a. mild-insert-face a _ _) mild-done)
mild-work m (FaceBridge f g) keys = mild-answering _ _ (mild-key 0) (mild-loop _ _ _ (λ i a. mild-bridge-arcs a _ _) mild-done)
mild-work m (FaceExtrude f move) keys = mild-answering _ _ (mild-key _) (mild-loop _ _ _ (λ i a. mild-insert-face a _ _) (mild-insert-face _ _ _))
mild-work m (ArcBridge a b c d) keys = mild-key _
mild-work m (ArcExtrude s d move) keys = mild-answering _ _ (mild-arc _ _) (mild-bridge-arcs _ _ _)

-- ---- what that says of a refusal

pub refusal-says : (D : Type 0) (P : Refusal → Type 0) (a : Answer) (r : Refusal) → Says D P a → a ≡ Refused r → P r
unfolding Says
refusal-says D P a r s e = subst (Says D P) e s

-- the checks of an edit refuse with 3, 4 or 5, and those of a bridge with 6 too
pub refusals-of-checks : (m : Mesh) (e : Edit) (keys : List ℕ) (r : Refusal) → checks m e keys ≡ Refused r → OfChecks e r
refusals-of-checks m e keys r q = refusal-says (Unit {0}) (OfChecks e) (checks m e keys) r (mild-checks m e keys) q

-- an edit in mid-edit refuses with 3, 4 or 5
pub refusals-of-work : (m : Mesh) (e : Edit) (keys : List ℕ) (r : Refusal) → (work m e keys).answer ≡ Refused r → InMidEdit r
refusals-of-work m e keys r q = refusal-says (Unit {0}) InMidEdit (work m e keys).answer r (mild-work m e keys) q
