-- Which rows of the arcs an edit can have changed: those of the arcs at its vertices, which are listed, and those of the arcs of new edges.
use Prim.Native.Nat.{ℕ, ◌+◌, ◌-◌, ◌≤◌}
use native.Mathlib.Omega.{arith}
use mathlib.Core.Path.{◌≡◌, refl, ap, sym, ◌∙◌, subst}
use mathlib.Core.Bool.{Bool, true, false, not, ◌&&◌}
use mathlib.Core.List.{List, []}
use mathlib.Core.Logic.{◌⊎◌, inl, inr}
use lib.ListN.{length, get_or}
use lib.Seq.{ext_get_or}
use lib.Dec.{T}
use Rattle.rules.specs.Table.{Table, cell, has, there, unused, used}
use Rattle.rules.specs.Mesh.{Mesh, source, dest, edge, edge_arc, edge_other, opposite}
use Rattle.proved.specs.Facts.{SoundFacts, IsArc, IsEdge}
use Rattle.proved.proofs.Rows.{true-T, cell_row, there-row, link_row, in_table, differ}
use Rattle.kept.specs.Frame.{AllButRings}
use Rattle.kept.specs.Local.{Local}
use Rattle.kept.proofs.Base.{but-rings}
use Rattle.kept.proofs.Opposite.{opposite-is}
use Rattle.pairs.specs.Near.{is_marked}
use Rattle.pairs.proofs.Listing.{both}
use Rattle.nearby.specs.Rows.{SixCells, Listed, Right, is_new, OfNewEdge}

-- ---- a row, by the cells of its link

-- a cell by its link, as the row has it
cell_at : (t : Table) (x c : ℕ) → 1 ≤ x → cell t x c ≡ get_or (get_or t (x - 1) []) c 0
cell_at t x c l = ap (λ (z : ℕ). cell t z c) (sym (link_row x l)) ∙ cell_row t (x - 1) c

-- two rows of six cells with the same cells are one row
same_row : (t n : Table) (x : ℕ) → SixCells t → SixCells n → 1 ≤ x → x ≤ length t → x ≤ length n → ((c : ℕ) → cell n x c ≡ cell t x c) → get_or n (x - 1) [] ≡ get_or t (x - 1) []
same_row t n x st sn l a b h = ext_get_or 0 _ _ (sn (x - 1) (omega arith) ∙ sym (st (x - 1) (omega arith))) (λ c q. sym (cell_at n x c l) ∙ h c ∙ cell_at t x c l)

-- two tests are passed
both_true : (a b : Bool) → T b → (T (not a) → ⊥) → (a && b) ≡ true
both_true true true u n = refl
both_true true false u n = absurd u
both_true false b u n = absurd (n tt)

-- a row is used and was not
new_true : (were edges : Table) (k : ℕ) → T (there edges (k + 1)) → (T (there were (k + 1)) → ⊥) → is_new (get_or were k []) (get_or edges k []) ≡ true
new_true were edges k u n =
    both_true (unused (get_or were k [])) (used (get_or edges k [])) (subst T (there-row edges k) u) (λ t. n (subst T (sym (there-row were k)) t))

-- ---- the arcs at a vertex with a mark are listed

module _ (m : Mesh) (seen : List Bool) (list : List ℕ) (s : SoundFacts m) (h : Listed m.arcs m.edges seen list) where
  -- an arc that leaves one, with its opposite
  leaving : (x : ℕ) → IsArc m x → is_marked seen (source m x) ≡ true → (has list x ≡ true) × (has list (opposite m x) ≡ true)
  leaving x u e =
      let b = in_table m.arcs x u in
      let l : 1 ≤ x = b.0 in
      subst (λ (z : ℕ). (has list z ≡ true) × (has list (opposite m z) ≡ true)) (link_row x l) (h (x - 1) (omega (arith, b.1)) (λ z. differ (source m x) 0 u (cell_at m.arcs x 0 l ∙ z)) (subst (λ (v : ℕ). is_marked seen v ≡ true) (cell_at m.arcs x 0 l) e))

  -- the opposite of an arc's opposite is that arc
  back : (x : ℕ) → IsArc m x → opposite m (opposite m x) ≡ x
  back x u =
      let o = opposite-is m (but-rings m s) x u in
      let p = opposite-is m (but-rings m s) (opposite m x) o.exists in
      s.pairs-differ (opposite m (opposite m x)) x p.exists u (p.leaves ∙ o.arrives) (p.arrives ∙ o.leaves)

  -- every arc with an end that has one
  pub covers : (x : ℕ) → IsArc m x → (is_marked seen (source m x) ≡ true) ⊎ (is_marked seen (dest m x) ≡ true) → has list x ≡ true
  covers x u (inl e) = (leaving x u e).0
  covers x u (inr e) =
      let o = opposite-is m (but-rings m s) x u in
      subst (λ (z : ℕ). has list z ≡ true) (back x u) (leaving (opposite m x) o.exists (subst (λ (v : ℕ). is_marked seen v ≡ true) (sym o.leaves) e)).1

-- ---- the rows that are not listed

module _ (m n : Mesh) (seen : List Bool) (s : SoundFacts m) (base : AllButRings n) (local : Local (λ v. is_marked seen v ≡ true) m n) (sm : SixCells m.arcs) (sn : SixCells n.arcs) where
  -- a row with the same cells is as it was
  stays : (x : ℕ) → ((c : ℕ) → cell n.arcs x c ≡ cell m.arcs x c) → Right n.arcs m.arcs x
  stays x h l k = sym (same_row m.arcs n.arcs x sm sn l k (omega (arith, local.keeps.arc-rows)) h)

  -- a row that is unused now was unused
  none : (x : ℕ) → (IsArc n x → ⊥) → Right n.arcs m.arcs x
  none x u = stays x (λ c. base.arcs-zero x c u ∙ sym (s.arcs-zero x c (λ t. u (local.keeps.arcs x t))))

  -- an arc that was not there is one of a new edge
  came : (x : ℕ) → IsArc n x → (IsArc m x → ⊥) → OfNewEdge m.edges n.edges x
  came x u not_there = record { row = e - 1; within = omega (arith, within-table.0, within-table.1); new = new_true m.edges n.edges (e - 1) (subst (IsEdge n) (sym (link_row e within-table.0)) is) (λ t. local.new-edge x u not_there (subst (IsEdge m) (link_row e within-table.0) t)); named = name (base.edge-names x u) }
    where
      e : ℕ
      e = edge n x

      is : IsEdge n e
      is = base.edge-exists x u

      within-table : (1 ≤ e) × (e ≤ length n.edges)
      within-table = in_table n.edges e is

      name : (edge_arc n e ≡ x) ⊎ (edge_other n e ≡ x) → (x ≡ get_or (get_or n.edges (e - 1) []) 1 0) ⊎ (x ≡ get_or (get_or n.edges (e - 1) []) 2 0)
      name (inl q) = inl (sym q ∙ cell_at n.edges e 1 within-table.0)
      name (inr q) = inr (sym q ∙ cell_at n.edges e 2 within-table.0)

  module _ (list : List ℕ) (h : Listed m.arcs m.edges seen list) where
    -- an arc that was there is listed, or has both ends without a mark
    old : (x : ℕ) → IsArc m x → (a b : Bool) → is_marked seen (source m x) ≡ a → is_marked seen (dest m x) ≡ b → Right n.arcs m.arcs x ⊎ (has list x ≡ true)
    old x u true b ea eb = inr (covers m seen list s h x u (inl ea))
    old x u false true ea eb = inr (covers m seen list s h x u (inr eb))
    old x u false false ea eb = inl (stays x (λ c. local.away x c u (λ q. both (sym q ∙ ea)) (λ q. both (sym q ∙ eb))))

    -- every row is as it was, listed, or new
    pub others : (x : ℕ) → Right n.arcs m.arcs x ⊎ ((has list x ≡ true) ⊎ OfNewEdge m.edges n.edges x)
    others x = go (there n.arcs x) refl (there m.arcs x) refl
      where
        or-listed : Right n.arcs m.arcs x ⊎ (has list x ≡ true) → Right n.arcs m.arcs x ⊎ ((has list x ≡ true) ⊎ OfNewEdge m.edges n.edges x)
        or-listed (inl r) = inl r
        or-listed (inr q) = inr (inl q)

        go : (a : Bool) → there n.arcs x ≡ a → (b : Bool) → there m.arcs x ≡ b → Right n.arcs m.arcs x ⊎ ((has list x ≡ true) ⊎ OfNewEdge m.edges n.edges x)
        go false ea b eb = inl (none x (λ t. subst T ea t))
        go true ea false eb = inr (inr (came x (true-T ea) (λ t. subst T eb t)))
        go true ea true eb = or-listed (old x (true-T eb) (is_marked seen (source m x)) (is_marked seen (dest m x)) refl refl)
