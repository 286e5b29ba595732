-- Every row before the lowest unused one is used, and stays so when a record is put there: where the next search may start.
use Prim.Native.Nat.{ℕ, zero, suc, ◌+◌, ◌-◌, ◌≤◌, ◌<◌}
use native.Mathlib.Omega.{arith}
use native.Mathlib.Nat.{le_refl}
use native.Mathlib.Decide.{ℕ_discrete, dec_lt}
use mathlib.Core.Path.{◌≡◌, refl, ap, sym, subst, ◌∙◌}
use mathlib.Core.Bool.{Bool, true, false, cond, false≢true}
use mathlib.Core.List.{List, [], ◌∷◌}
use lib.ListN.{length, get_or, set, get_or-eq_default}
use lib.Seq.{get_or-set_other}
use lib.Dec.{eqb, leb}
use borrow.Author.Tests.{eq-eqb, ne_eqb}
use Rattle.rules.specs.Table.{Table, put_row, unused, first_row, below, row_limit, free_row}
use Rattle.rules.specs.Mesh.{Mesh}
use Rattle.rules.specs.declared.Position.{Position}
use Rattle.rules.specs.Link.{put_vertex, new_vertex, new_arc, new_edge}
use Rattle.rules.proofs.Counts.{found-passes}
use Rattle.tables.proofs.Scans.{Missed}
use Rattle.edges.specs.Free.{UsedBefore, UsedRows}

-- ---- a search from a row on

pub used-none : (t : Table) → UsedBefore t 0
used-none t k l = absurd (omega arith)

-- all the rows before it being used, it is one of the table's or the first past the end
pub used-within : (t : Table) (from i : ℕ) → i ≡ from - 1 → UsedBefore t from → i ≤ length t
used-within t from i e h = go (dec_lt (length t) i)
  where
    go : Dec (length t < i) → i ≤ length t
    go (yes l) =
        let past = ap unused (get_or-eq_default t [] (le_refl (length t))) in
        absurd (false≢true (sym (h (length t) (omega arith)) ∙ past))
    go (no l) = omega arith

-- used rows passed over from there on
pub used-missed : (t : Table) (from s i : ℕ) → s ≡ from - 1 → UsedBefore t from → UsedRows t s i → Missed unused t [] i
used-missed t from s i e h u k l = go (dec_lt k s)
  where
    go : Dec (k < s) → unused (get_or t k []) ≡ false
    go (yes b) = h k (omega arith)
    go (no b) = u k (omega arith) l

-- ---- the lowest unused row

-- a row before the first that passes fails
before-first : (p : List ℕ → Bool) (t : Table) (k : ℕ) → k + 1 < first_row p t → p (get_or t k []) ≡ false
unfolding first_row
before-first p [] k l = absurd (omega arith)
before-first p (r ∷ rs) k l = go (p r) refl k (first_row p rs) (before-first p rs) l
  where
    go : (b : Bool) → p r ≡ b → (j f : ℕ) → ((i : ℕ) → i + 1 < f → p (get_or rs i []) ≡ false) → j + 1 < cond b 1 (below f) → p (get_or (r ∷ rs) j []) ≡ false
    go true e j f ih q = absurd (omega arith)
    go false e zero f ih q = e
    go false e (suc j) zero ih q = absurd (omega arith)
    go false e (suc j) (suc f) ih q = ih j (omega arith)

fits-or-none : (b : Bool) (f k : ℕ) → k + 1 < cond b f 0 → k + 1 < f
fits-or-none true f k l = l
fits-or-none false f k l = absurd (omega arith)

pub used-free : (t : Table) → UsedBefore t (free_row t)
unfolding free_row
used-free t k l = before-first unused t k (fits-or-none (leb (length t) row_limit) (first_row unused t) k l)

pub free-unused : (t : Table) → (free_row t ≡ 0 → ⊥) → unused (get_or t (free_row t - 1) []) ≡ true
unfolding free_row
free-unused t h = go (leb (length t) row_limit) h
  where
    go : (b : Bool) → (cond b (first_row unused t) 0 ≡ 0 → ⊥) → unused (get_or t (cond b (first_row unused t) 0 - 1) []) ≡ true
    go true n = found-passes unused t [] (omega arith)
    go false n = absurd (n refl)

-- a record put there hides no used row
pub used-kept : (t : Table) (r : List ℕ) (l : ℕ) → UsedBefore t l → UsedBefore (put_row t (free_row t) r) l
unfolding put_row
used-kept t r l h k q = go (ℕ_discrete (free_row t) 0)
  where
    go : Dec (free_row t ≡ 0) → unused (get_or (cond (eqb (free_row t) 0) t (set t (free_row t - 1) r)) k []) ≡ false
    go (yes z) = rw (eq-eqb (free_row t) 0 z) (h k q)
    go (no nz) =
        let apart : k ≡ free_row t - 1 → ⊥ = λ e. false≢true (sym (h k q) ∙ ap (λ (i : ℕ). unused (get_or t i [])) e ∙ free-unused t nz) in
        rw (ne_eqb (free_row t) 0 nz) (ap (λ (s : List ℕ). unused s) (get_or-set_other t (free_row t - 1) k r [] apart) ∙ h k q)

-- ---- a new edge

used-arc : (m : Mesh) (a b e l : ℕ) → UsedBefore m.arcs l → UsedBefore (new_arc m a b e).arcs l
unfolding new_arc
used-arc m a b e l h = used-kept m.arcs (a ∷ b ∷ 0 ∷ 0 ∷ 0 ∷ e ∷ []) l h

-- the second arc's row, from the first one's on
pub second_from : (m n : Mesh) (a b e x : ℕ) → x ≡ free_row m.arcs → n ≡ new_arc m a b e → UsedBefore n.arcs x
second_from m n a b e x ex en =
    let used : UsedBefore (new_arc m a b e).arcs (free_row m.arcs) = used-arc m a b e (free_row m.arcs) (used-free m.arcs) in
    subst (UsedBefore n.arcs) (sym ex) (subst (λ (o : Mesh). UsedBefore o.arcs (free_row m.arcs)) (sym en) used)

module _ (m : Mesh) (a b l : ℕ) where
  pub used-arcs : UsedBefore m.arcs l → UsedBefore (new_edge m a b).arcs l
  unfolding new_edge
  used-arcs h = used-arc (new_arc m a b (free_row m.edges)) b a (free_row m.edges) l (used-arc m a b (free_row m.edges) l h)

  pub used-edges : UsedBefore m.edges l → UsedBefore (new_edge m a b).edges l
  unfolding new_edge new_arc
  used-edges h = used-kept m.edges _ l h

-- ---- a new vertex

-- the next one's row, from this one's on
pub next-from : (m n : Mesh) (p : Position) (x : ℕ) → x ≡ free_row m.vertices → n ≡ new_vertex m p → UsedBefore n.vertices x
unfolding new_vertex put_vertex
next-from m n p x ex en =
    let used : UsedBefore (new_vertex m p).vertices (free_row m.vertices) = used-kept m.vertices _ (free_row m.vertices) (used-free m.vertices) in
    subst (UsedBefore n.vertices) (sym ex) (subst (λ (o : Mesh). UsedBefore o.vertices (free_row m.vertices)) (sym en) used)
