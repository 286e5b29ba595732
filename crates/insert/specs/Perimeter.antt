-- Face insert as the code goes about it: the perimeter's arcs are found once, and every link is written by that list.
use Rattle.std.specs.Prelude.{ℕ, ◌<◌, ◌≡◌, Bool, false, cond, List, length, get_or, eqb}
use Rattle.rules.specs.Table.{Table, cell, put, up_to, after, or_else}
use Rattle.rules.specs.Mesh.{Mesh, opposite_of}
use Rattle.rules.specs.Link.{get_or_insert_edge}
use Rattle.edges.specs.declared.free.Lowest.{Lowest}
use Rattle.edges.specs.Free.{UsedBefore}
use Rattle.pairs.specs.Pairs.{pair_arc, met_before}

-- the edge of pair i is there, or is made
abbrev pub edge_in : List ℕ → ℕ → Mesh → Mesh
edge_in per i m = get_or_insert_edge m (get_or per i 0) (get_or per (after (length per) i) 0)

-- pair i of a perimeter runs from a to b, and whether a pair before joins the same two
pub record IsPair (per : List ℕ) (i a b : ℕ) (met : Bool) : Type 0 where
  pub from : a ≡ get_or per i 0
  pub to : b ≡ get_or per (after (length per) i) 0
  pub before : met ≡ met_before per i i

-- what is known when it is asked for: x is the pair's arc, unless a pair before joins the same vertices; and every row before these is used
pub record Asked (arcs edges : Table) (per : List ℕ) (i x : ℕ) (from : Lowest) : Type 0 where
  pub on : i < length per
  pub tells : met_before per i i ≡ false → x ≡ pair_arc arcs per i
  pub arcs-used : UsedBefore arcs from.arc
  pub edges-used : UsedBefore edges from.edge

-- what is told of the arc of a pair whose edge is in: if it is not 0 it is that arc, and no pair before joins the same vertices
abbrev pub Tells : Table → List ℕ → ℕ → ℕ → Type 0
Tells arcs per i x = (x ≡ 0 → ⊥) → (met_before per i i ≡ false) × (x ≡ pair_arc arcs per i)

-- the interior at the arc x with y after it: link, then face
unfoldable pub interior_to : ℕ → ℕ → ℕ → Table → Table
interior_to x y f t = put (put (put t x 2 y) y 3 x) x 4 f

unfoldable pub interior_by : List ℕ → ℕ → Table → Table
interior_by xs f t = up_to (λ i u. interior_to (get_or xs i 0) (get_or xs (after (length xs) i) 0) f u) (length xs) t

-- the exterior at the arc x = (a,b), by what was found in a's list and in b's
unfoldable pub exterior_to : Table → ℕ → ℕ → ℕ → Table → Table
exterior_to edges out back x t =
    let o = opposite_of t edges x in
    let after-o = or_else out (opposite_of t edges (cell t x 3)) in
    let before-o = or_else back (opposite_of t edges (cell t x 2)) in
    cond (eqb (cell t o 4) 0) (put (put (put (put t o 2 after-o) after-o 3 o) before-o 2 o) o 3 before-o) t

unfoldable pub exterior_by : Table → List ℕ → List ℕ → List ℕ → Table → Table
exterior_by edges outs backs xs t =
    up_to (λ i u. exterior_to edges (get_or outs i 0) (get_or backs (after (length xs) i) 0) (get_or xs i 0) u) (length xs) t
