-- Rows put over the first of a table, one after the other: a turn of the loop that fills a table, over rows of any type.
use Prim.Native.Nat.{ℕ, zero, suc, ◌+◌, ◌-◌, ◌≤◌, ◌<◌, zero-le, suc-le-suc}
use native.Mathlib.Nat.{le_of_suc-le-suc, not-suc-le-zero}
use native.Mathlib.Numerals.{add-one}
use native.Mathlib.Omega.{arith}
use mathlib.Core.Path.{◌≡◌, refl, ap, sym, subst, ◌∙◌}
use mathlib.Core.List.{List, [], ◌∷◌, map}
use lib.ListN.{length, get_or, set, drop, replicate, length-map}
use lib.Ieee.{Float}
use lib.Seq.{drop-drop}
use Rattle.std.proofs.lemmas.List.{get_or-set_other}
use Rattle.std.proofs.lemmas.Grind.{get_or-set_at}
use native.Mathlib.Decide.{ℕ_discrete}
use Rattle.rules.specs.Table.{Table}
use Rattle.rules.specs.Mesh.{Room, room}
use Rattle.rules.specs.Point.{zero_float}
use Rattle.rules.specs.Call.{zeroed}
use Rattle.file.specs.File.{Contents, body, filled, vertex_row, position_row, arc_row, edge_row, face_row, mesh_of}
use Rattle.fills.specs.Fills.{MadeBelow, over_first, records_over, as_mesh}
use Rattle.rules.specs.Lent.{tables_of}

-- ---- a turn of the loop: row i is made, and what stands behind is as it was

pub made-next : {B : Type 0} (P : ℕ → B → Type 0) (t : List B) (i : ℕ) (row : B) → i < length t → MadeBelow P t i → P i row → MadeBelow P (set t i row) (i + 1)
made-next {B} P t i row h l p k d m = go (ℕ_discrete k i)
  where
    go : Dec (k ≡ i) → P k (get_or (set t i row) k d)
    go (yes e) = subst (λ (q : B). P k q) (sym (get_or-set_at t i k row d e h)) (subst (λ (j : ℕ). P j row) (sym e) p)
    go (no ne) = subst (λ (q : B). P k q) (sym (get_or-set_other t i k row d ne)) (l k d (omega arith))

drop-set : {B : Type 0} (t : List B) (i : ℕ) (row : B) → drop (suc i) (set t i row) ≡ drop (suc i) t
drop-set [] zero row = refl
drop-set [] (suc i) row = refl
drop-set (x ∷ t) zero row = refl
drop-set (x ∷ t) (suc i) row = drop-set t i row

pub rest-next : {B : Type 0} (t u : List B) (i : ℕ) (row : B) → drop i t ≡ drop i u → drop (i + 1) (set t i row) ≡ drop (i + 1) u
rest-next {B} t u i row e = rw (add-one i) (drop-set t i row ∙ sym (further t) ∙ ap (λ (l : List B). drop 1 l) e ∙ further u)
  where
    further : (l : List B) → drop 1 (drop i l) ≡ drop (suc i) l
    further l = drop-drop 1 i l ∙ ap (λ (k : ℕ). drop k l) (add-one i)

-- rows that are made of the records, over the first of a table
pub over-made : {A B : Type 0} (f : A → B) (rows : List A) (t o : List B) (a : A) → length o ≡ length t → length rows ≤ length t
    → MadeBelow (λ i row. row ≡ f (get_or rows i a)) o (length rows) → drop (length rows) o ≡ drop (length rows) t → o ≡ over_first f rows t
unfolding over_first
over-made f [] t o a e l h r = r
over-made f (x ∷ rows) [] o a e l h r = absurd (not-suc-le-zero l)
over-made f (x ∷ rows) (y ∷ t) [] a e l h r = let z : ⊥ = omega (arith, e) in absurd z
over-made f (x ∷ rows) (y ∷ t) (z ∷ o) a e l h r =
    let first : z ≡ f x = h 0 z (suc-le-suc zero-le) in
    let rest = over-made f rows t o a (omega (arith, e)) (le_of_suc-le-suc l) (λ i d m. h (suc i) d (suc-le-suc m)) r in
    λ i. first i ∷ rest i

-- over rows that are all zero
drop-same : {B : Type 0} (k n : ℕ) (z : B) → drop k (replicate n z) ≡ replicate (n - k) z
drop-same zero n z = let e : n ≡ n - 0 = omega arith in ap (λ (m : ℕ). replicate m z) e
drop-same (suc k) zero z = let e : 0 ≡ 0 - suc k = omega arith in ap (λ (m : ℕ). replicate m z) e
drop-same (suc k) (suc n) z = let e : n - k ≡ suc n - suc k = omega arith in drop-same k n z ∙ ap (λ (m : ℕ). replicate m z) e

pub over_zeros : {A B : Type 0} (f : A → B) (rows : List A) (n : ℕ) (z : B) → over_first f rows (replicate n z) ≡ filled n z (map f rows)
unfolding over_first filled
over_zeros f rows n z = rw (drop-same (length rows) n z, length-map rows f)

-- t is a table zeroed, o that table filled
table_filled : {B : Type 0} (f : List ℕ → B) (rows : Table) (n : ℕ) (z : B) (o t : List B) → t ≡ replicate n z → o ≡ over_first f rows t → o ≡ filled n z (map f rows)
table_filled f rows n z o t et eo = eo ∙ ap (over_first f rows) et ∙ over_zeros f rows n z

-- a set of tables filled: z is the set r zeroed, o that set with the rows of all records
pub set-filled : (c : Contents) (r z o : Room) → z ≡ zeroed r → o ≡ records_over c z → o ≡ tables_of (mesh_of (as_mesh r []) c)
unfolding mesh_of zeroed records_over
set-filled c r z o ez eo =
    let zero : List Float = zero_float ∷ zero_float ∷ zero_float ∷ [] in
    let vertices = table_filled (vertex_row c) (body c 0) (length r.vertices) (0 ∷ 0 ∷ []) o.vertices z.vertices (λ i. (ez i).vertices) (λ i. (eo i).vertices) in
    let positions = table_filled position_row (body c 0) (length r.positions) zero o.positions z.positions (λ i. (ez i).positions) (λ i. (eo i).positions) in
    let arcs = table_filled (arc_row c) (body c 1) (length r.arcs) (0 ∷ 0 ∷ 0 ∷ 0 ∷ 0 ∷ 0 ∷ []) o.arcs z.arcs (λ i. (ez i).arcs) (λ i. (eo i).arcs) in
    let edges = table_filled (edge_row c) (body c 2) (length r.edges) (0 ∷ 0 ∷ 0 ∷ []) o.edges z.edges (λ i. (ez i).edges) (λ i. (eo i).edges) in
    let faces = table_filled (face_row c) (body c 3) (length r.faces) (0 ∷ 0 ∷ 0 ∷ []) o.faces z.faces (λ i. (ez i).faces) (λ i. (eo i).faces) in
    λ i. room (vertices i) (positions i) (arcs i) (edges i) (faces i)
