-- One turn of each loop of an insert, and what its steps leave of a mesh.
use Prim.Native.Nat.{ℕ, ◌+◌}
use mathlib.Core.Path.{◌≡◌, refl, ap, sym, ◌∙◌}
use mathlib.Core.Bool.{true, false}
use mathlib.Core.List.{List, [], ◌++◌, append-nil}
use lib.ListN.{length, get_or}
use lib.Dec.{eqb}
use borrow.Author.Tests.{eq-eqb, ne_eqb}
use Rattle.rules.specs.Table.{Table, cell, put, up_to, after, or_else, free_row}
use Rattle.rules.specs.Mesh.{Mesh, with_arcs, opposite_of}
use Rattle.rules.specs.Link.{get_or_insert_edge}
use Rattle.rules.specs.Insert.{arc_at, edges_in, new_face}
use Rattle.rules.proofs.Scan.{up_to-more}
use Rattle.pairs.specs.Pairs.{list_below, pair_arc, arcs_of}
use Rattle.pairs.proofs.Listed.{pair-listed}
use Rattle.makers.specs.Search.{Sought, arcs_on, sought_for}
use Rattle.makers.specs.Makers.{searching, get_or_insert_edge_by, edges_up_to_by, put_face_by}
use Rattle.insert.specs.Perimeter.{edge_in, interior_to, interior_by, exterior_to, exterior_by}
use Rattle.insert.specs.Sought.{put_sought}
use Rattle.insert.proofs.FoundOnce.{put-sought-by}

-- ---- the edges

pub edges_more : {m m' : Mesh} (m₀ : Mesh) (per : List ℕ) (i : ℕ) → m ≡ up_to (edge_in per) i m₀ → m' ≡ edge_in per i m → m' ≡ up_to (edge_in per) (i + 1) m₀
edges_more m₀ per i em e = rw (up_to-more, ← em, e)

-- ---- the interior

abbrev pub interior_in : List ℕ → ℕ → ℕ → Table → Table
interior_in xs f i t = interior_to (get_or xs i 0) (get_or xs (after (length xs) i) 0) f t

pub interior-more : {t t₁ t₂ : Table} (t₀ : Table) (xs : List ℕ) (f i n j x y : ℕ) → n ≡ length xs → j ≡ after n i → x ≡ get_or xs i 0 → y ≡ get_or xs j 0 → t ≡ up_to (interior_in xs f) i t₀ → t₁ ≡ put (put t x 2 y) y 3 x → t₂ ≡ put t₁ x 4 f → t₂ ≡ up_to (interior_in xs f) (i + 1) t₀
unfolding interior_to
interior-more t₀ xs f i n j x y en ej ex ey et e₁ e₂ = rw (up_to-more, ← et, e₂, e₁, ey, ex, ej, en)

-- ---- the exterior

abbrev pub exterior_in : Table → List ℕ → List ℕ → List ℕ → ℕ → Table → Table
exterior_in edges outs backs xs i t = exterior_to edges (get_or outs i 0) (get_or backs (after (length xs) i) 0) (get_or xs i 0) t

pub exterior-more : {m n : Mesh} (m₀ : Mesh) (outs backs xs : List ℕ) (i : ℕ) {k j out back x : ℕ} → k ≡ length xs → j ≡ after k i → out ≡ get_or outs i 0 → back ≡ get_or backs j 0 → x ≡ get_or xs i 0
    → m ≡ with_arcs m₀ (up_to (exterior_in m₀.edges outs backs xs) i m₀.arcs) → n ≡ with_arcs m (exterior_to m.edges out back x m.arcs) → n ≡ with_arcs m₀ (up_to (exterior_in m₀.edges outs backs xs) (i + 1) m₀.arcs)
exterior-more m₀ outs backs xs i ek ej eo eb ex em en = rw (up_to-more, en, em, eb, eo, ex, ej, ek)

-- at one arc, by what its ends are linked to
pub exterior-held : (edges : Table) (out back x : ℕ) (t : Table) (o held : ℕ) → o ≡ opposite_of t edges x → held ≡ cell t o 4 → (held ≡ 0 → ⊥) → t ≡ exterior_to edges out back x t
unfolding exterior_to
exterior-held edges out back x t o held eo eh h =
    let z : eqb (cell t (opposite_of t edges x) 4) 0 ≡ false = ne_eqb (cell t (opposite_of t edges x) 4) 0 (λ q. h (eh ∙ ap (λ (y : ℕ). cell t y 4) eo ∙ q)) in
    rw z

pub exterior-free : (edges : Table) (out back x : ℕ) (t t₁ t₂ : Table) (o held : ℕ) → o ≡ opposite_of t edges x → held ≡ cell t o 4 → held ≡ 0
    → (before other after-o : ℕ) → before ≡ cell t x 3 → other ≡ opposite_of t edges before → after-o ≡ or_else out other
    → (next other' before-o : ℕ) → next ≡ cell t x 2 → other' ≡ opposite_of t edges next → before-o ≡ or_else back other'
    → t₁ ≡ put (put t o 2 after-o) after-o 3 o → t₂ ≡ put (put t₁ before-o 2 o) o 3 before-o → t₂ ≡ exterior_to edges out back x t
unfolding exterior_to
exterior-free edges out back x t t₁ t₂ o held eo eh h before other after-o e2 e3 e4 next other' before-o g2 g3 g4 k₁ k₂ =
    let z : eqb (cell t (opposite_of t edges x) 4) 0 ≡ true = eq-eqb (cell t (opposite_of t edges x) 4) 0 (ap (λ (y : ℕ). cell t y 4) (sym eo) ∙ sym eh ∙ h) in
    rw (z, k₂, k₁, e4, g4, e3, g3, e2, g2, eo)

-- ---- the whole insert, in the code's steps

-- the exterior after the interior, on the mesh that has the face
abbrev linked : Sought → List ℕ → ℕ → Mesh → Mesh
linked s xs f n = with_arcs n (exterior_by n.edges s.outs s.backs xs (interior_by xs f n.arcs))

pub put-sought-steps : (m : Mesh) {m₁ m₂ m₃ : Mesh} (per : List ℕ) (s : Sought) (mark : ℕ) {xs : List ℕ} {x f : ℕ} {a₂ : Table}
    → m₁ ≡ edges_in per m → xs ≡ arcs_of m₁.arcs per → x ≡ get_or xs 0 0 → f ≡ free_row m₁.faces → m₂ ≡ new_face m₁ x mark
    → a₂ ≡ interior_by xs f m₂.arcs → m₃ ≡ with_arcs m₂ (exterior_by m₂.edges s.outs s.backs xs a₂) → m₃ ≡ put_sought s m per mark
unfolding new_face
put-sought-steps m {m₁} {m₂} {m₃} per s mark {xs} {x} {f} {a₂} edged held first free faced inside outside =
    let isx : x ≡ pair_arc m₁.arcs per 0 = first ∙ ap (λ (l : List ℕ). get_or l 0 0) held ∙ pair-listed m₁.arcs per 0 in
    outside
    ∙ ap (λ (t : Table). with_arcs m₂ (exterior_by m₂.edges s.outs s.backs xs t)) inside
    ∙ ap (linked s xs f) faced
    ∙ ap (λ (l : List ℕ). linked s l f (new_face m₁ x mark)) held
    ∙ ap (λ (y : ℕ). linked s (arcs_of m₁.arcs per) f (new_face m₁ y mark)) isx
    ∙ ap (λ (g : ℕ). linked s (arcs_of m₁.arcs per) g (new_face m₁ (pair_arc m₁.arcs per 0) mark)) free
    ∙ ap (λ (n : Mesh). linked s (arcs_of n.arcs per) (free_row n.faces) (new_face n (pair_arc n.arcs per 0) mark)) edged
    ∙ sym (put-sought-by m per s mark)

-- ---- the insert by the code's makers

-- it is that by what was found
pub by-sought : (old : Mesh) (soon : List ℕ) (m : Mesh) (per : List ℕ) (mark : ℕ) → put_face_by searching old soon m per mark ≡ put_sought (sought_for old soon per) m per mark
unfolding put_face_by edges_up_to_by get_or_insert_edge_by put_sought edges_in get_or_insert_edge
by-sought old soon m per mark = refl

-- the arcs of a perimeter, as they are named there and in pairs
pub arcs-on : (m : Mesh) (per : List ℕ) → arcs_of m.arcs per ≡ arcs_on m per
unfolding arcs_on arcs_of list_below arc_at pair_arc
arcs-on m per = refl

-- a perimeter's lists searched where its own arcs, and no others, will be held
pub insert-sought : (m : Mesh) (per : List ℕ) (mark : ℕ) (found others : List ℕ) (s : Sought) → found ≡ arcs_of m.arcs per → others ≡ [] → s ≡ sought_for m (found ++ others) per
    → put_sought s m per mark ≡ put_face_by searching m (arcs_on m per) m per mark
insert-sought m per mark found others s ef eo es =
    let soon : found ++ others ≡ arcs_on m per = ap (λ (l : List ℕ). found ++ l) eo ∙ append-nil found ∙ ef ∙ arcs-on m per in
    ap (λ (t : Sought). put_sought t m per mark) (es ∙ ap (λ (l : List ℕ). sought_for m l per) soon) ∙ sym (by-sought m (arcs_on m per) m per mark)
