-- "never given twice": after any calls a key in use was in use before them, or has come from the counter since. So a key that was given and is gone
-- is never in use again. That it comes from the counter is so because no edit runs out of keys (NeedSuffices): with makers that make nothing where
-- no key is left it is the same edit, and what these make has the counter for its key.
use Prim.Native.Nat.{ℕ, ◌+◌, ◌-◌, ◌≤◌}
use native.Mathlib.Omega.{arith}
use native.Mathlib.Decide.{ℕ_discrete}
use mathlib.Core.Path.{◌≡◌, refl, ap, sym, subst, ◌∙◌}
use mathlib.Core.Bool.{Bool, true, false, not, cond}
use mathlib.Core.List.{List, [], ◌∷◌}
use mathlib.Core.Logic.{◌⊎◌, inl, inr}
use lib.ListN.{get_or}
use lib.Dec.{T, eqb, leb}
use borrow.Author.Tests.{le-leb, leb-true}
use Rattle.rules.specs.declared.Position.{Position}
use Rattle.rules.specs.Table.{Table, cell, put_row}
use Rattle.rules.specs.Mesh.{Mesh, key_limit, vertex_kind, edge_kind, face_kind, next_key, one_up}
use Rattle.rules.specs.Link.{put_vertex, new_vertex, new_arc, new_edge, connect, set_face}
use Rattle.rules.specs.Insert.{new_face}
use Rattle.proved.specs.Demand.{Made, after_call, after_calls, reached}
use Rattle.proved.proofs.Rows.{differ}
use Rattle.kept.specs.Frame.{ThreeCounters}
use Rattle.makers.specs.Makers.{Makers, by_lists, LikeRules}
use Rattle.kept.specs.Counters.{InUse, OldOrNew, OldOrCounted, KeysCounted, StaysOut, NeverAgain}
use Rattle.kept.proofs.Cells.{cell-within, put_row-here, put_row-other, put_row-rows, put-other-cell}
use Rattle.kept.proofs.Counted.{key_back}
use Rattle.kept.proofs.Eight.{Accepted}
use Rattle.kept.proofs.NeedSuffices.{need-suffices}
use Rattle.kept.proofs.Steps.{KeptBySteps, work-keeps}
use Rattle.kept.proofs.CountersUp.{same-counters, rise-through, vertex-rises, edge-rises, face-rises, call-leaves, counters-rise, three-reached}

-- ---- keys in a table

old : {t u : Table} {counter : ℕ} → ((k : ℕ) → InUse u k → InUse t k) → OldOrCounted t u counter
old h k i = inl (h k i)

-- the same keys where the first cells are the same
same_keys : (t u : Table) → ((l : ℕ) → cell u l 0 ≡ cell t l 0) → (k : ℕ) → InUse u k → InUse t k
same_keys t u e k i =
    record { row = i.row; in_use = subst (λ (z : ℕ). T (not (eqb z 0))) (e i.row) i.in_use; its-key = ap (λ (z : ℕ). z - 1) (sym (e i.row)) ∙ i.its-key }

-- a row that is put in has its own key, and the other rows keep theirs
row_in : (t : Table) (l : ℕ) (r : List ℕ) (k : ℕ) → InUse (put_row t l r) k → InUse t k ⊎ ((get_or r 0 0 ≡ 0 → ⊥) × (get_or r 0 0 - 1 ≡ k))
row_in t l r k i = go (ℕ_discrete i.row l)
  where
    go : Dec (i.row ≡ l) → InUse t k ⊎ ((get_or r 0 0 ≡ 0 → ⊥) × (get_or r 0 0 - 1 ≡ k))
    go (no n) =
        let e = put_row-other t l r i.row 0 n in
        inl (record { row = i.row; in_use = subst (λ (z : ℕ). T (not (eqb z 0))) e i.in_use; its-key = ap (λ (z : ℕ). z - 1) (sym e) ∙ i.its-key })
    go (yes q) = inr ((λ z. some (here ∙ z)), ap (λ (z : ℕ). z - 1) (sym here) ∙ i.its-key)
      where
        some : cell (put_row t l r) i.row 0 ≡ 0 → ⊥
        some = differ (cell (put_row t l r) i.row 0) 0 i.in_use

        here : cell (put_row t l r) i.row 0 ≡ get_or r 0 0
        here =
            let w = cell-within (put_row t l r) i.row 0 some in
            ap (λ (z : ℕ). cell (put_row t l r) z 0) q ∙ put_row-here t l r 0 (omega (arith, w.0)) (omega (arith, w.1, put_row-rows t l r))

-- a new record has the counter for its key
new-key : (t : Table) (l counter : ℕ) (rest : List ℕ) → counter + 1 ≤ key_limit → OldOrCounted t (put_row t l (one_up counter ∷ rest)) counter
new-key t l counter rest h k i = go (row_in t l (one_up counter ∷ rest) k i)
  where
    go : InUse t k ⊎ ((one_up counter ≡ 0 → ⊥) × (one_up counter - 1 ≡ k)) → OldOrNew t counter k
    go (inl o) = inl o
    go (inr n) = inr (omega (arith, n.1, key_back counter h))

-- ---- makers that make nothing where no key is left

abbrev pub key_left : Mesh → ℕ → Bool
key_left m kind = leb (next_key m kind + 1) key_limit

abbrev pub careful : Makers
careful =
    record {
      vertex = λ m p. cond (key_left m vertex_kind) (new_vertex m p) m;
      edge = λ m a b. cond (key_left m edge_kind) (new_edge m a b) m;
      face = λ m x mark. cond (key_left m face_kind) (new_face m x mark) m;
      outside = by_lists;
    }

pub careful-like : LikeRules careful
careful-like =
    record {
      vertex-same = λ m p r. rw (le-leb (next_key m vertex_kind + 1) key_limit r.a_key);
      edge_same = λ m a b r. rw (le-leb (next_key m edge_kind + 1) key_limit r.itself.a_key);
      face-same = λ m x mark r. rw (le-leb (next_key m face_kind + 1) key_limit r.a_key);
      outside-same = λ old soon per m t. refl;
    }

-- ---- each step

stays : (m : Mesh) → KeysCounted m m
stays m = record { counters = same-counters refl; vertices = old (λ k i. i); edges = old (λ k i. i); faces = old (λ k i. i) }

onward : (t u w : Table) (first second : ℕ) → first ≤ second → OldOrCounted t u first → OldOrCounted u w second → OldOrCounted t w first
onward t u w first second l p q k i = go (q k i)
  where
    go : OldOrNew u second k → OldOrNew t first k
    go (inl o) = p k o
    go (inr n) = inr (omega arith)

counted-through : (a b c : Mesh) → KeysCounted a b → KeysCounted b c → KeysCounted a c
counted-through a b c p q =
    record {
      counters = rise-through a b c p.counters q.counters;
      vertices = onward a.vertices b.vertices c.vertices (next_key a vertex_kind) (next_key b vertex_kind) (p.counters.rise vertex_kind) p.vertices q.vertices;
      edges = onward a.edges b.edges c.edges (next_key a edge_kind) (next_key b edge_kind) (p.counters.rise edge_kind) p.edges q.edges;
      faces = onward a.faces b.faces c.faces (next_key a face_kind) (next_key b face_kind) (p.counters.rise face_kind) p.faces q.faces;
    }

-- a maker that makes something only if a key is left
if-left : (m n : Mesh) (kind : ℕ) → (next_key m kind + 1 ≤ key_limit → KeysCounted m n) → KeysCounted m (cond (key_left m kind) n m)
if-left m n kind h = go (key_left m kind) refl
  where
    go : (b : Bool) → key_left m kind ≡ b → KeysCounted m (cond b n m)
    go true e = h (leb-true (next_key m kind + 1) key_limit e)
    go false e = stays m

vertex-counted : (m : Mesh) (p : Position) → next_key m vertex_kind + 1 ≤ key_limit → KeysCounted m (new_vertex m p)
unfolding new_vertex put_vertex
vertex-counted m p h =
    record { counters = vertex-rises m p; vertices = new-key m.vertices _ (next_key m vertex_kind) (0 ∷ []) h; edges = old (λ k i. i); faces = old (λ k i. i) }

edge-counted : (m : Mesh) (a b : ℕ) → next_key m edge_kind + 1 ≤ key_limit → KeysCounted m (new_edge m a b)
unfolding new_edge new_arc
edge-counted m a b h =
    record {
      counters = edge-rises m a b;
      vertices = old (same_keys m.vertices _ (λ l. put-other-cell _ b 1 _ l 0 (λ e. omega arith) ∙ put-other-cell m.vertices a 1 _ l 0 (λ e. omega arith)));
      edges = new-key m.edges _ (next_key m edge_kind) _ h;
      faces = old (λ k i. i);
    }

face-counted : (m : Mesh) (x mark : ℕ) → next_key m face_kind + 1 ≤ key_limit → KeysCounted m (new_face m x mark)
unfolding new_face
face-counted m x mark h =
    record { counters = face-rises m x mark; vertices = old (λ k i. i); edges = old (λ k i. i); faces = new-key m.faces _ (next_key m face_kind) (x ∷ mark ∷ []) h }

abbrev blank : List ℕ
blank = 0 ∷ 0 ∷ 0 ∷ []

dropped-keys : (t : Table) (f k : ℕ) → InUse (put_row t f blank) k → InUse t k
dropped-keys t f k i = go (row_in t f blank k i)
  where
    go : InUse t k ⊎ ((get_or blank 0 0 ≡ 0 → ⊥) × (get_or blank 0 0 - 1 ≡ k)) → InUse t k
    go (inl o) = o
    go (inr n) = absurd (n.0 refl)

pub steps-counted : KeptBySteps KeysCounted careful
unfolding connect set_face
steps-counted =
    record {
      itself = stays;
      through = counted-through;
      vertex = λ m p. if-left m (new_vertex m p) vertex_kind (vertex-counted m p);
      edge = λ m a b. if-left m (new_edge m a b) edge_kind (edge-counted m a b);
      face = λ m x mark. if-left m (new_face m x mark) face_kind (face-counted m x mark);
      link = λ m x y. record { counters = same-counters refl; vertices = old (λ k i. i); edges = old (λ k i. i); faces = old (λ k i. i) };
      set-face = λ m x f. record { counters = same-counters refl; vertices = old (λ k i. i); edges = old (λ k i. i); faces = old (λ k i. i) };
      drop = λ m f. record { counters = same-counters refl; vertices = old (λ k i. i); edges = old (λ k i. i); faces = old (dropped-keys m.faces f) };
      outside = λ old soon per m. refl;
    }

-- ---- calls

-- over a call a key in use was in use, or has come from the counter
pub keys-counted : (m : Mesh) → ThreeCounters m → (c : Made) → KeysCounted m (after_call m c)
keys-counted m k c = go (call-leaves m c)
  where
    go : (after_call m c ≡ m) ⊎ Accepted m c.edit c.keys (after_call m c) → KeysCounted m (after_call m c)
    go (inl e) = rw e (stays m)
    go (inr w) =
        let b = w.behind in
        let n = need-suffices m c.edit c.keys k b.was-sound b.numbers-given b.checks-passed b.moves-finite b.need-met in
        rw (w.is, ← n.never-out careful careful-like) (work-keeps KeysCounted careful steps-counted m c.edit c.keys)

-- and over any list of calls
pub calls-counted : (m : Mesh) → ThreeCounters m → (cs : List Made) → KeysCounted m (after_calls m cs)
unfolding after_calls
calls-counted m k [] = stays m
calls-counted m k (c ∷ cs) =
    counted-through m (after_call m c) (after_calls (after_call m c) cs) (keys-counted m k c) (calls-counted (after_call m c) (rw (counters-rise m c).as_many k) cs)

-- so a key that was given, being below its counter, and that no record has, no record has after any calls
stays_out : (t u : Table) (counter : ℕ) → OldOrCounted t u counter → StaysOut t u counter
stays_out t u counter h k l n i = go (h k i)
  where
    go : OldOrNew t counter k → ⊥
    go (inl o) = n o
    go (inr g) = omega arith

pub never-given-twice : (m : Mesh) → ThreeCounters m → (cs : List Made) → NeverAgain m (after_calls m cs)
never-given-twice m k cs =
    let n = after_calls m cs in
    let w = calls-counted m k cs in
    record {
      vertices = stays_out m.vertices n.vertices (next_key m vertex_kind) w.vertices;
      edges = stays_out m.edges n.edges (next_key m edge_kind) w.edges;
      faces = stays_out m.faces n.faces (next_key m face_kind) w.faces;
    }

-- from an empty mesh of any size, after any calls and any more
pub reached-never-twice : (v e f : ℕ) (calls more : List Made) → NeverAgain (reached v e f calls) (after_calls (reached v e f calls) more)
reached-never-twice v e f calls more = never-given-twice (reached v e f calls) (three-reached v e f calls) more
