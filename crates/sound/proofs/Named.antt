-- Names in a list as facts about a table's rows: keys that differ, and edges that join different pairs.
use Prim.Native.Nat.{ℕ, zero, suc, ◌+◌, ◌-◌, ◌≤◌, ◌<◌}
use native.Mathlib.Nat.{le_of_suc-le-suc, not-suc-le-zero}
use native.Mathlib.Numerals.{add-one}
use native.Mathlib.Omega.{arith}
use mathlib.Core.Path.{◌≡◌, refl, ap, sym, subst, ◌∙◌}
use mathlib.Core.Bool.{Bool, true, false, not, ◌&&◌, ◌||◌}
use mathlib.Core.Logic.{◌⊎◌, inl, inr}
use mathlib.Core.List.{List, [], ◌∷◌, map}
use lib.ListN.{length, get_or, set, take, drop, length-map}
use lib.Seq.{take_all, take_at, get_or-take}
use lib.Dec.{T, eqb, ltb, eqb→eq}
use Rattle.rules.specs.Table.{Table, cell, there, unused, used, distinct, all_below, or_else}
use Rattle.rules.specs.Mesh.{Mesh, source, dest, edge_arc}
use Rattle.rules.specs.Sound.{keys_of, pairs_differ}
use Rattle.rules.proofs.Sums.{same_test}
use Rattle.proved.specs.Facts.{IsArc, IsEdge, IsVertex, Joins}
use Rattle.proved.proofs.Rows.{T_false, true-T, differ, cell_row, there-row, link_row, in_table}
use Rattle.proved.proofs.Keys.{one_key, keys_from}
use Rattle.proved.proofs.Clauses.{pairs-apart, pairs-from}
use Rattle.proved.proofs.Edges.{Edges, EdgesDiffer, edges-differ, arcs-differ}
use Rattle.tables.proofs.Lists.{upto, upto-more}
use Rattle.names.specs.Names as names
use Rattle.names.specs.Names.{pair_name}
use Rattle.names.specs.Rising.{last_before, rises}
use Rattle.names.proofs.Names.{differ-shows, differ-from, shown, rising-differ, last_more}
use Rattle.names.proofs.Pairs.{pair-swap, pair_parts, pair-some, pair_ends}
use Rattle.sound.specs.declared.keys.Rising.{Rising}
use Rattle.sound.specs.Names.{firsts, keys_rise, edge_name}

-- ---- any names

get_d_map : (f : List ℕ → ℕ) (t : Table) (i : ℕ) → i < length t → get_or (map f t) i 0 ≡ f (get_or t i [])
get_d_map f [] i h = absurd (not-suc-le-zero h)
get_d_map f (r ∷ rs) zero h = refl
get_d_map f (r ∷ rs) (suc i) h = get_d_map f rs i (le_of_suc-le-suc h)

-- one name more, and all of them
module _ (f : List ℕ → ℕ) (t : Table) (d : List ℕ) (i : ℕ) where
  pub name-more : i < length t → i < length d → set (upto (map f t) i d) i (f (get_or t i [])) ≡ upto (map f t) (i + 1) d
  name-more a b = rw (← get_d_map f t i a) (upto-more i (map f t) d 0 b (omega (arith, length-map t f)))

  pub name-all : i ≡ length t → take (length t) (upto (map f t) i d) ≡ map f t
  name-all e = let n = length-map t f in let l : length (map f t) ≤ length t = omega arith in rw (e, take_all (length t) (map f t) l) (take_at (map f t) (drop (length t) d) (length t) n)

module _ (f : List ℕ → ℕ) (t : Table) (list : List ℕ) (named : take (length t) list ≡ map f t) where
  -- the names at the front of the list are those of the rows
  name-at : (i : ℕ) → i < length t → get_or list i 0 ≡ f (get_or t i [])
  name-at i h = sym (get_or-take (length t) list i 0 h) ∙ ap (λ (l : List ℕ). get_or l i 0) named ∙ get_d_map f t i h

  -- rows in use, and no others, have names
  module _ (none : (i : ℕ) → unused (get_or t i []) ≡ true → f (get_or t i []) ≡ 0) (some : (i : ℕ) → T (used (get_or t i [])) → f (get_or t i []) ≡ 0 → ⊥) where
    -- two links with one name are one
    abbrev pub LinksDiffer : Type 0
    LinksDiffer = (l k : ℕ) → T (there t l) → T (there t k) → f (get_or t (l - 1) []) ≡ f (get_or t (k - 1) []) → l ≡ k

    row-used : (l : ℕ) → T (there t l) → T (used (get_or t (l - 1) []))
    row-used l h = let e = link_row l (in_table t l h).0 in subst T (there-row t (l - 1)) (subst (λ (z : ℕ). T (there t z)) (sym e) h)

    pub links-differ : T (names.differ list (length t)) → LinksDiffer
    links-differ h l k a b e =
        let p = in_table t l a in
        let q = in_table t k b in
        let i = name-at (l - 1) (omega arith) in
        let j = name-at (k - 1) (omega arith) in
        let z = differ-shows list (length t) h (l - 1) (k - 1) (omega arith) (omega arith) (λ y. some (l - 1) (row-used l a) (sym i ∙ y)) (i ∙ e ∙ sym j) in
        omega arith

    row-there : (i : ℕ) → (f (get_or t i []) ≡ 0 → ⊥) → T (there t (i + 1))
    row-there i n = subst T (sym (there-row t i)) (go (unused (get_or t i [])) refl)
      where
        go : (b : Bool) → unused (get_or t i []) ≡ b → T (not b)
        go true e = n (none i e)
        go false e = tt

    pub differ-links : LinksDiffer → T (names.differ list (length t))
    differ-links h = differ-from list (length t) at
      where
        at : (i j : ℕ) → i < length t → j < length t → (get_or list i 0 ≡ 0 → ⊥) → get_or list i 0 ≡ get_or list j 0 → i ≡ j
        at i j a b n e =
            let p = name-at i a in
            let q = name-at j b in
            let r : i + 1 - 1 ≡ i = omega arith in
            let w : j + 1 - 1 ≡ j = omega arith in
            let z = h (i + 1) (j + 1) (row-there i (λ y. n (p ∙ y))) (row-there j (λ y. n (e ∙ q ∙ y))) (rw (r, w) (sym p ∙ e ∙ q)) in
            omega arith

-- ---- keys

module _ (t : Table) (list : List ℕ) (named : take (length t) list ≡ firsts t) where
  none : (i : ℕ) → unused (get_or t i []) ≡ true → get_or (get_or t i []) 0 0 ≡ 0
  none i e = eqb→eq _ _ (subst T (sym e) tt)

  some : (i : ℕ) → T (used (get_or t i [])) → get_or (get_or t i []) 0 0 ≡ 0 → ⊥
  some i u = differ _ _ u

  cell_at : (l : ℕ) → T (there t l) → cell t l 0 ≡ get_or (get_or t (l - 1) []) 0 0
  cell_at l h = let e = link_row l (in_table t l h).0 in ap (λ (z : ℕ). cell t z 0) (sym e) ∙ cell_row t (l - 1) 0

  cell-some : (l : ℕ) → T (there t l) → 1 ≤ cell t l 0
  cell-some l h = let u : cell t l 0 ≡ 0 → ⊥ = differ (cell t l 0) 0 h in omega arith

  pub keys-differ : names.differ list (length t) ≡ distinct (keys_of t)
  keys-differ = same_test _ _ there-on back
    where
      there-on : T (names.differ list (length t)) → T (distinct (keys_of t))
      there-on h = keys_from t (λ l k a b e. links-differ (λ r. get_or r 0 0) t list named none some h l k a b (let p = cell_at l a in let q = cell_at k b in omega (arith, cell-some l a, cell-some k b)))

      back : T (distinct (keys_of t)) → T (names.differ list (length t))
      back h = differ-links (λ r. get_or r 0 0) t list named none some (λ l k a b e. one_key t h l k a b (let p = cell_at l a in let q = cell_at k b in omega arith))

-- keys that rise differ
pub keys-rise : (t : Table) → keys_rise t ≡ true → true ≡ distinct (keys_of t)
unfolding keys_rise
keys-rise t e =
    let n = length-map t (λ r. get_or r 0 0) in
    shown (firsts t) (length t) (rising-differ (firsts t) (length t) (true-T e)) ∙ keys-differ t (firsts t) (take_all (length t) (firsts t) (omega arith))

-- a loop that tells whether they rise: whether they do before row i, and the last of them
module _ (t : Table) where
  abbrev pub Risen : ℕ → Bool → ℕ → Type 0
  Risen i rising last = (rising ≡ all_below (rises (firsts t)) i) × (last ≡ last_before (firsts t) i)

  pub risen-none : Risen 0 true 0
  unfolding all_below last_before
  risen-none = (refl, refl)

  pub risen-all : (i : ℕ) → length t ≤ i → i ≤ length t → (rising : Bool) (last : ℕ) → Risen i rising last → rising ≡ true → keys_rise t ≡ true
  unfolding keys_rise
  risen-all i a b rising last h e = let same : i ≡ length t = omega arith in sym (rw same at h.0) ∙ e

  -- a row further, by its first cell
  module _ (i : ℕ) (l : i < length t) (rising : Bool) (last : ℕ) (h : (rising ≡ all_below (rises (firsts t)) i) × (last ≡ last_before (firsts t) i)) where
    rises-row : (eqb (get_or (get_or t i []) 0 0) 0 || ltb last (get_or (get_or t i []) 0 0)) ≡ rises (firsts t) i
    unfolding rises
    rises-row = rw (h.1, get_d_map (λ r. get_or r 0 0) t i l)

    last_row : or_else (get_or (get_or t i []) 0 0) last ≡ last_before (firsts t) (i + 1)
    last_row = rw (last_more (firsts t) i, h.1, get_d_map (λ r. get_or r 0 0) t i l)

    rising-row : (rising && (eqb (get_or (get_or t i []) 0 0) 0 || ltb last (get_or (get_or t i []) 0 0))) ≡ all_below (rises (firsts t)) (i + 1)
    unfolding all_below
    rising-row = rw (add-one i, h.0, rises-row)

    pub risen-more : (more : Bool) (next : ℕ) → more ≡ (rising && (eqb (get_or (get_or t i []) 0 0) 0 || ltb last (get_or (get_or t i []) 0 0))) → next ≡ or_else (get_or (get_or t i []) 0 0) last → Risen (i + 1) more next
    risen-more more next e q = (e ∙ rising-row, q ∙ last_row)

  -- the code's record of it
  pub risen-start : (k : Rising) → k ≡ record { so = true; last = 0 } → Risen 0 k.so k.last
  risen-start k e = rw e risen-none

  pub risen-after : (i : ℕ) → i < length t → (k n : Rising) → Risen i k.so k.last → n ≡ record { so = k.so && (eqb (get_or (get_or t i []) 0 0) 0 || ltb k.last (get_or (get_or t i []) 0 0)); last = or_else (get_or (get_or t i []) 0 0) k.last } → Risen (i + 1) n.so n.last
  risen-after i l k n h e = rw e (risen-more i l k.so k.last h _ _ refl refl)

-- ---- pairs

module _ (m : Mesh) (s : Edges m) (ends : (x : ℕ) → IsArc m x → IsVertex m (source m x) × IsVertex m (dest m x)) (v : length m.vertices ≤ 4096) where
  abbrev name : List ℕ → ℕ
  name = edge_name m.arcs

  -- an edge's name is that of its ends, which are vertices
  ends_low : (e : ℕ) → IsEdge m e → ((1 ≤ source m (edge_arc m e)) × (source m (edge_arc m e) < 8192)) × ((1 ≤ dest m (edge_arc m e)) × (dest m (edge_arc m e) < 8192))
  ends_low e u =
      let b = ends (edge_arc m e) (s.both-arcs e u).first-exists in
      let p = in_table m.vertices _ b.0 in
      let q = in_table m.vertices _ b.1 in
      ((p.0, omega arith), (q.0, omega arith))

  name-row : (i : ℕ) → IsEdge m (i + 1) → name (get_or m.edges i []) ≡ pair_name (source m (edge_arc m (i + 1))) (dest m (edge_arc m (i + 1)))
  unfolding edge_name
  name-row i u = rw (T_false (unused (get_or m.edges i [])) (subst T (there-row m.edges i) u), ← cell_row m.edges i 1)

  name-link : (e : ℕ) → IsEdge m e → name (get_or m.edges (e - 1) []) ≡ pair_name (source m (edge_arc m e)) (dest m (edge_arc m e))
  name-link e u =
      let z = link_row e (in_table m.edges e u).0 in
      subst (λ (y : ℕ). name (get_or m.edges (e - 1) []) ≡ pair_name (source m (edge_arc m y)) (dest m (edge_arc m y))) z (name-row (e - 1) (subst (λ (y : ℕ). IsEdge m y) (sym z) u))

  none-edge : (i : ℕ) → unused (get_or m.edges i []) ≡ true → name (get_or m.edges i []) ≡ 0
  unfolding edge_name
  none-edge i e = rw e

  some-edge : (i : ℕ) → T (used (get_or m.edges i [])) → name (get_or m.edges i []) ≡ 0 → ⊥
  some-edge i u e =
      let w : IsEdge m (i + 1) = subst T (sym (there-row m.edges i)) u in
      let l = ends_low (i + 1) w in
      pair-some _ _ l.0.1 l.1.1 l.0.0 l.1.0 (sym (name-row i w) ∙ e)

  module _ (list : List ℕ) (named : take (length m.edges) list ≡ map (edge_name m.arcs) m.edges) where
    -- edges with one name join the same pair
    same-pair : EdgesDiffer m → LinksDiffer name m.edges list named none-edge some-edge
    same-pair h e g a b q =
        let l = ends_low e a in
        let k = ends_low g b in
        go (pair_ends _ _ k.0.1 k.1.1 _ _ l.0.1 l.1.1 (sym (pair_parts _ _ l.0.1 l.1.1) ∙ sym (name-link e a) ∙ q ∙ name-link g b))
      where
        go : ((source m (edge_arc m e) ≡ source m (edge_arc m g)) × (dest m (edge_arc m e) ≡ dest m (edge_arc m g))) ⊎ ((source m (edge_arc m e) ≡ dest m (edge_arc m g)) × (dest m (edge_arc m e) ≡ source m (edge_arc m g))) → e ≡ g
        go (inl z) = h e g _ _ a b (inl (z.0, z.1)) (inl (refl, refl))
        go (inr z) = h e g _ _ a b (inr (z.0, z.1)) (inl (refl, refl))

    joined-name : (e x y : ℕ) → Joins m e x y → pair_name (source m (edge_arc m e)) (dest m (edge_arc m e)) ≡ pair_name x y
    joined-name e x y (inl z) = rw (z.0, z.1)
    joined-name e x y (inr z) = rw (z.0, z.1) (pair-swap y x)

    one_name : LinksDiffer name m.edges list named none-edge some-edge → EdgesDiffer m
    one_name h e g x y a b p q = h e g a b (name-link e a ∙ joined-name e x y p ∙ sym (joined-name g x y q) ∙ sym (name-link g b))

    pub pairs-differ : length m.arcs ≤ 16384 → names.differ list (length m.edges) ≡ pairs_differ m
    pairs-differ z =
        same_test _ _
        (λ h. pairs-from m z (arcs-differ m s (one_name (links-differ name m.edges list named none-edge some-edge h))))
        (λ h. differ-links name m.edges list named none-edge some-edge (same-pair (edges-differ m s (pairs-apart m h))))
