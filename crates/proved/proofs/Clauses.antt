-- Each clause of Sound and the fact it means, both ways; and so the test `sound` and all the facts.
use Prim.Native.Nat.{ℕ, zero, suc, ◌+◌, ◌-◌, ◌≤◌, ◌<◌}
use native.Mathlib.Nat.{le_of_suc-le-suc, not-suc-le-zero}
use native.Mathlib.Omega.{arith}
use native.Mathlib.Decide.{ℕ_discrete, dec_lt}
use mathlib.Core.Path.{◌≡◌, refl, ap, sym, subst, ◌∙◌}
use mathlib.Core.Bool.{Bool, true, false, not, ◌&&◌, ◌||◌}
use mathlib.Core.Logic.{◌↔◌, ◌⊎◌, inl, inr, ⊎_elim}
use mathlib.Core.List.{List, [], ◌∷◌}
use lib.ListN.{length, get_or}
use lib.Dec.{T, eqb, ltb, eqb→eq, ltb→lt, lt→ltb, lit<}
use lib.Ieee.{Float, nan, binary64, to_bits}
use lib.Ieee.Fits.{and_l, and_r, and_i}
use borrow.Author.Tests.{ne_eqb, le-leb}
use Rattle.rules.specs.Table.{Table, cell, there, used, each_used, each_link, every, distinct, first_row}
use Rattle.rules.specs.Mesh.{Mesh, source, dest, next, previous, face, edge, leading, edge_arc, edge_other, key_at, find_arc, arc_between, joins, next_key, vertex_kind, edge_kind, face_kind}
use Rattle.rules.specs.Point.{finite_row, finite_position, finite_number, exponent_field, zero_number, zero_position_row}
use Rattle.rules.specs.Sound.{sound, keys_of, keys_differ, keys_below, has_both_arcs, both_arcs, ends_differ, ends_exist, pairs_differ, edge_joins, leads_out, next_leaves, previous_arrives, face_exists, unless_none, ring_sound, rings_sound, zero_row, unused_zero, positions_zero, rest_zero, all_finite}
use Rattle.rules.proofs.Scan.{every-passes}
use Rattle.rules.proofs.Counts.{count-found, found-passes}
use Rattle.rules.proofs.Sums.{or_l, or_r, or_cases}
use Rattle.proved.specs.Facts.{IsVertex, IsArc, IsEdge, IsFace, KeysDiffer, KeysBelow, BothArcs, RingFacts, UnusedZero, coordinate, SoundFacts}
use Rattle.proved.proofs.Rows.{T_true, true-T, same-T, differ, differ-T, cell_row, cell-none, cell-past, there-row, link_row, in_table, used-at, used_all, link_at, link-all, every-at}
use Rattle.proved.proofs.Keys.{one_key, key-passes, keys_from, keys-pass, some-passes}
use Rattle.proved.proofs.SoundParts.{parts, whole, sizes, sizes-within}
use Rattle.proved.proofs.Ring.{ring-parts, ring-whole, ring-facts, ring-from}

-- ---- a test and the fact it means

pub test-same : (a b : ℕ) → T (eqb a b) ↔ (a ≡ b)
test-same a b = (eqb→eq a b, same-T a b)

pub test-differ : (a b : ℕ) → T (not (eqb a b)) ↔ (a ≡ b → ⊥)
test-differ a b = (differ a b, differ-T a b)

pub itself : {P : Type 0} → P ↔ P
itself = (λ h. h, λ h. h)

pub test-and : {P Q : Type 0} (a b : Bool) → T a ↔ P → T b ↔ Q → T (a && b) ↔ (P × Q)
test-and a b p q = (λ h. (p.0 (and_l a b h), q.0 (and_r a b h)), λ h. and_i a b (p.1 h.0) (q.1 h.1))

pub test-or : {P Q : Type 0} (a b : Bool) → T a ↔ P → T b ↔ Q → T (a || b) ↔ (P ⊎ Q)
test-or a b p q =
    (λ h. or_cases a b h (λ x. inl (p.0 x)) (λ y. inr (q.0 y)), ⊎_elim (λ x. or_l a b (p.1 x)) (λ y. or_r a b (q.1 y)))

pub test-unless : {P : Type 0} (l : ℕ) (b : Bool) → T b ↔ P → T (unless_none l b) ↔ ((l ≡ 0 → ⊥) → P)
test-unless {P} l b p =
    (λ h n. or_cases (eqb l 0) b h (λ z. absurd (n (eqb→eq l 0 z))) (λ y. p.0 y), λ f. go (ℕ_discrete l 0) f)
  where
    go : Dec (l ≡ 0) → ((l ≡ 0 → ⊥) → P) → T (unless_none l b)
    go (yes e) f = or_l (eqb l 0) b (same-T l 0 e)
    go (no n) f = or_r (eqb l 0) b (p.1 (f n))

pub test-used : {P : ℕ → Type 0} (p : ℕ → Bool) (t : Table) → ((l : ℕ) → T (p l) ↔ P l) → T (each_used p t) ↔ ((l : ℕ) → T (there t l) → P l)
test-used p t h = (λ e l u. (h l).0 (used-at p t e l u), λ f. used_all p t (λ l u. (h l).1 (f l u)))

-- ---- keys

table-keys-differ : (t : Table) → T (distinct (keys_of t)) ↔ KeysDiffer t
table-keys-differ t = (one_key t, keys_from t)

table-keys-below : (t : Table) (c : ℕ) → T (every (λ k. ltb k c) (keys_of t)) ↔ KeysBelow t c
table-keys-below t c =
    (λ h l u. ltb→lt (key_at t l) c (key-passes t (λ k. ltb k c) h l u), λ f. keys-pass t (λ k. ltb k c) (λ l u. lt→ltb (key_at t l) c (f l u)))

module _ (m : Mesh) where
  pub keys-differ : T (keys_differ m) ↔ (KeysDiffer m.vertices × (KeysDiffer m.edges × KeysDiffer m.faces))
  unfolding keys_differ
  keys-differ =
      test-and (distinct (keys_of m.vertices)) (distinct (keys_of m.edges) && distinct (keys_of m.faces)) (table-keys-differ m.vertices)
      (test-and (distinct (keys_of m.edges)) (distinct (keys_of m.faces)) (table-keys-differ m.edges) (table-keys-differ m.faces))

  pub keys-below : T (keys_below m) ↔ (KeysBelow m.vertices (next_key m vertex_kind) × (KeysBelow m.edges (next_key m edge_kind) × KeysBelow m.faces (next_key m face_kind)))
  unfolding keys_below
  keys-below =
      test-and (every (λ k. ltb k (next_key m vertex_kind)) (keys_of m.vertices)) _ (table-keys-below m.vertices (next_key m vertex_kind))
      (test-and (every (λ k. ltb k (next_key m edge_kind)) (keys_of m.edges)) (every (λ k. ltb k (next_key m face_kind)) (keys_of m.faces)) (table-keys-below m.edges (next_key m edge_kind)) (table-keys-below m.faces (next_key m face_kind)))

  -- ---- edges and arcs

  has_both : (e : ℕ) → T (has_both_arcs m e) ↔ BothArcs m e
  unfolding has_both_arcs
  has_both e =
      let x = edge_arc m e in
      let y = edge_other m e in
      let a = there m.arcs x in
      let b = there m.arcs y in
      let c = eqb (edge m x) e in
      let d = eqb (edge m y) e in
      let p = eqb (source m x) (dest m y) in
      let q = eqb (dest m x) (source m y) in (
        λ h.
            let h₁ = and_r a (b && (c && (d && (p && q)))) h in
            let h₂ = and_r b (c && (d && (p && q))) h₁ in
            let h₃ = and_r c (d && (p && q)) h₂ in
            let h₄ = and_r d (p && q) h₃ in
            record { first-exists = and_l a (b && (c && (d && (p && q)))) h; second-exists = and_l b (c && (d && (p && q))) h₁; first_holds = eqb→eq _ _ (and_l c (d && (p && q)) h₂); second_holds = eqb→eq _ _ (and_l d (p && q) h₃); leaves-where-ends = eqb→eq _ _ (and_l p q h₄); ends-where-leaves = eqb→eq _ _ (and_r p q h₄) },
        λ s. and_i a _ s.first-exists (and_i b _ s.second-exists (and_i c _ (same-T _ _ s.first_holds) (and_i d _ (same-T _ _ s.second_holds) (and_i p q (same-T _ _ s.leaves-where-ends) (same-T _ _ s.ends-where-leaves))))),
      )

  pub both-arcs : T (both_arcs m) ↔ ((e : ℕ) → IsEdge m e → BothArcs m e)
  unfolding both_arcs
  both-arcs = test-used (has_both_arcs m) m.edges has_both

  pub ends-differ : T (ends_differ m) ↔ ((x : ℕ) → IsArc m x → source m x ≡ dest m x → ⊥)
  unfolding ends_differ
  ends-differ = test-used (λ x. not (eqb (source m x) (dest m x))) m.arcs (λ x. test-differ (source m x) (dest m x))

  pub ends-exist : T (ends_exist m) ↔ ((x : ℕ) → IsArc m x → IsVertex m (source m x) × IsVertex m (dest m x))
  unfolding ends_exist
  ends-exist =
      test-used (λ x. there m.vertices (source m x) && there m.vertices (dest m x)) m.arcs (λ x. test-and (there m.vertices (source m x)) (there m.vertices (dest m x)) itself itself)

  pub edge-joins : T (edge_joins m) ↔ ((x : ℕ) → IsArc m x → IsEdge m (edge m x) × ((edge_arc m (edge m x) ≡ x) ⊎ (edge_other m (edge m x) ≡ x)))
  unfolding edge_joins
  edge-joins =
      test-used (λ x. there m.edges (edge m x) && (eqb (edge_arc m (edge m x)) x || eqb (edge_other m (edge m x)) x)) m.arcs
      (λ x. test-and (there m.edges (edge m x)) (eqb (edge_arc m (edge m x)) x || eqb (edge_other m (edge m x)) x) itself (test-or (eqb (edge_arc m (edge m x)) x) (eqb (edge_other m (edge m x)) x) (test-same (edge_arc m (edge m x)) x) (test-same (edge_other m (edge m x)) x)))

  -- the first arc with an arc's ends is that arc
  pub arc-found : T (pairs_differ m) → (x : ℕ) → IsArc m x → find_arc m (source m x) (dest m x) ≡ x
  unfolding pairs_differ
  arc-found h x u = eqb→eq (find_arc m (source m x) (dest m x)) x (used-at (λ y. eqb (find_arc m (source m y) (dest m y)) y) m.arcs h x u)

  pub pairs-apart : T (pairs_differ m) → (x y : ℕ) → IsArc m x → IsArc m y → source m x ≡ source m y → dest m x ≡ dest m y → x ≡ y
  pairs-apart h x y u w p q = cc (arc-found h x u, arc-found h y w)

  pub pairs-from : length m.arcs ≤ 16384 → ((x y : ℕ) → IsArc m x → IsArc m y → source m x ≡ source m y → dest m x ≡ dest m y → x ≡ y) → T (pairs_differ m)
  unfolding pairs_differ arc_between
  pairs-from s h = used_all (λ x. eqb (find_arc m (source m x) (dest m x)) x) m.arcs (λ x u. same-T (find_arc m (source m x) (dest m x)) x (rw (ne_eqb (source m x) 0 (differ (source m x) 0 u), le-leb (length m.arcs) 16384 s) (found x u)))
    where
      t : Table
      t = m.arcs

      test : ℕ → List ℕ → Bool
      test x = joins (source m x) (dest m x)

      here : (x : ℕ) → IsArc m x → T (test x (get_or t (x - 1) []))
      here x u =
          let r = get_or t (x - 1) [] in
          let e = link_row x (in_table t x u).0 in
          and_i (eqb (get_or r 0 0) (source m x)) (eqb (get_or r 1 0) (dest m x)) (same-T _ _ (sym (cell_row t (x - 1) 0) ∙ ap (source m) e)) (same-T _ _ (sym (cell_row t (x - 1) 1) ∙ ap (dest m) e))

      -- a row that passes is the arc
      that : (x k : ℕ) → IsArc m x → T (test x (get_or t k [])) → k + 1 ≡ x
      that x k u p =
          let r = get_or t k [] in
          let a = cell_row t k 0 ∙ eqb→eq (get_or r 0 0) (source m x) (and_l (eqb (get_or r 0 0) (source m x)) (eqb (get_or r 1 0) (dest m x)) p) in
          let b = cell_row t k 1 ∙ eqb→eq (get_or r 1 0) (dest m x) (and_r (eqb (get_or r 0 0) (source m x)) (eqb (get_or r 1 0) (dest m x)) p) in
          h (k + 1) x (subst (λ (z : ℕ). T (not (eqb z 0))) (sym a) u) u a b

      found : (x : ℕ) → IsArc m x → first_row (test x) t ≡ x
      found x u =
          let some = count-found (test x) t (some-passes (test x) t [] (x - 1) (omega (arith, (in_table t x u).0, (in_table t x u).1)) (here x u)) in
          omega (arith, some, that x (first_row (test x) t - 1) u (true-T (found-passes (test x) t [] some)))

  -- ---- links

  pub leads-out : T (leads_out m) ↔ ((v : ℕ) → IsVertex m v → (leading m v ≡ 0 → ⊥) → IsArc m (leading m v) × (source m (leading m v) ≡ v))
  unfolding leads_out
  leads-out =
      test-used (λ v. unless_none (leading m v) (there m.arcs (leading m v) && eqb (source m (leading m v)) v)) m.vertices
      (λ v. test-unless (leading m v) (there m.arcs (leading m v) && eqb (source m (leading m v)) v) (test-and (there m.arcs (leading m v)) (eqb (source m (leading m v)) v) itself (test-same (source m (leading m v)) v)))

  pub next-leaves : T (next_leaves m) ↔ ((x : ℕ) → IsArc m x → (next m x ≡ 0 → ⊥) → IsArc m (next m x) × (source m (next m x) ≡ dest m x))
  unfolding next_leaves
  next-leaves =
      test-used (λ x. unless_none (next m x) (there m.arcs (next m x) && eqb (source m (next m x)) (dest m x))) m.arcs
      (λ x. test-unless (next m x) (there m.arcs (next m x) && eqb (source m (next m x)) (dest m x)) (test-and (there m.arcs (next m x)) (eqb (source m (next m x)) (dest m x)) itself (test-same (source m (next m x)) (dest m x))))

  pub previous-arrives : T (previous_arrives m) ↔ ((x : ℕ) → IsArc m x → (previous m x ≡ 0 → ⊥) → IsArc m (previous m x) × (dest m (previous m x) ≡ source m x))
  unfolding previous_arrives
  previous-arrives =
      test-used (λ x. unless_none (previous m x) (there m.arcs (previous m x) && eqb (dest m (previous m x)) (source m x))) m.arcs
      (λ x. test-unless (previous m x) (there m.arcs (previous m x) && eqb (dest m (previous m x)) (source m x)) (test-and (there m.arcs (previous m x)) (eqb (dest m (previous m x)) (source m x)) itself (test-same (dest m (previous m x)) (source m x))))

  pub face-exists : T (face_exists m) ↔ ((x : ℕ) → IsArc m x → (face m x ≡ 0 → ⊥) → IsFace m (face m x))
  unfolding face_exists
  face-exists =
      test-used (λ x. unless_none (face m x) (there m.faces (face m x))) m.arcs (λ x. test-unless (face m x) (there m.faces (face m x)) itself)

  -- ---- rings

  pub rings : T (rings_sound m) ↔ ((f : ℕ) → IsFace m f → RingFacts m f)
  unfolding rings_sound
  rings = test-used (ring_sound m) m.faces (λ f. (λ h. ring-facts m f (ring-parts m f h), λ s. ring-whole m f (ring-from m f s)))

-- ---- rows

pub zero-cells : (r : List ℕ) → T (zero_row r) ↔ ((c : ℕ) → get_or r c 0 ≡ 0)
unfolding every
zero-cells [] = (λ h c. refl, λ f. tt)
zero-cells (x ∷ xs) = (go (zero-cells xs).0, λ f. and_i (eqb 0 x) (zero_row xs) (same-T 0 x (sym (f 0))) ((zero-cells xs).1 (λ c. f (suc c))))
  where
    go : (T (zero_row xs) → (c : ℕ) → get_or xs c 0 ≡ 0) → T (eqb 0 x && zero_row xs) → (c : ℕ) → get_or (x ∷ xs) c 0 ≡ 0
    go ih h zero = sym (eqb→eq 0 x (and_l (eqb 0 x) (zero_row xs) h))
    go ih h (suc c) = ih (and_r (eqb 0 x) (zero_row xs) h) c

pub unused-zero : (t : Table) → T (unused_zero t) ↔ UnusedZero t
unused-zero t = (zero, back)
  where
    zero : T (unused_zero t) → UnusedZero t
    zero h ℕ.zero c n = cell-none t c
    zero h (suc k) c n = go (dec_lt k (length t))
      where
        e : suc k ≡ k + 1
        e = omega arith

        go : Dec (k < length t) → cell t (suc k) c ≡ 0
        go (no p) = cell-past t (suc k) c (omega arith)
        go (yes p) = ap (λ (z : ℕ). cell t z c) e ∙ cell_row t k c ∙ or_cases (used (get_or t k [])) (zero_row (get_or t k [])) (every-at (λ r. used r || zero_row r) t [] h k p) (λ u. absurd (n (subst (λ (z : ℕ). T (there t z)) (sym e) (subst T (sym (there-row t k)) u)))) (λ z. (zero-cells (get_or t k [])).0 z c)

    back : UnusedZero t → T (unused_zero t)
    back f = true-T (every-passes (λ r. used r || zero_row r) t [] (λ k l. T_true _ (go k (used (get_or t k [])) refl)))
      where
        go : (k : ℕ) (b : Bool) → used (get_or t k []) ≡ b → T (b || zero_row (get_or t k []))
        go k true e = tt
        go k false e = (zero-cells (get_or t k [])).1 (λ c. sym (cell_row t k c) ∙ f (k + 1) c (λ u. subst T (there-row t k ∙ e) u))

-- three coordinates
three-pass : (p : ℕ → Bool) → T (p 0 && (p 1 && p 2)) ↔ ((c : ℕ) → c < 3 → T (p c))
three-pass p = (at, λ f. and_i (p 0) (p 1 && p 2) (f 0 (lit< tt)) (and_i (p 1) (p 2) (f 1 (lit< tt)) (f 2 (lit< tt))))
  where
    at : T (p 0 && (p 1 && p 2)) → (c : ℕ) → c < 3 → T (p c)
    at h zero l = and_l (p 0) (p 1 && p 2) h
    at h (suc zero) l = and_l (p 1) (p 2) (and_r (p 0) (p 1 && p 2) h)
    at h (suc (suc zero)) l = and_r (p 1) (p 2) (and_r (p 0) (p 1 && p 2) h)
    at h (suc (suc (suc c))) l = absurd (not-suc-le-zero (le_of_suc-le-suc (le_of_suc-le-suc (le_of_suc-le-suc l))))

pub zero_row_lem : (r : List Float) → T (zero_position_row r) ↔ ((c : ℕ) → c < 3 → to_bits binary64 (get_or r c nan) ≡ 0)
unfolding zero_position_row zero_number
zero_row_lem r =
    let w = three-pass (λ c. zero_number (get_or r c nan)) in
    (λ h c l. eqb→eq (to_bits binary64 (get_or r c nan)) 0 (w.0 h c l), λ f. w.1 (λ c l. same-T (to_bits binary64 (get_or r c nan)) 0 (f c l)))

pub finite-row : (r : List Float) → T (finite_row r) ↔ ((c : ℕ) → c < 3 → exponent_field (to_bits binary64 (get_or r c nan)) ≡ 2047 → ⊥)
unfolding finite_row finite_position finite_number
finite-row r =
    let w = three-pass (λ c. finite_number (get_or r c nan)) in
    (λ h c l. differ (exponent_field (to_bits binary64 (get_or r c nan))) 2047 (w.0 h c l), λ f. w.1 (λ c l. differ-T (exponent_field (to_bits binary64 (get_or r c nan))) 2047 (f c l)))

module _ (m : Mesh) where
  pub positions-zero : T (positions_zero m) ↔ ((v c : ℕ) → 1 ≤ v → v ≤ length m.positions → (IsVertex m v → ⊥) → c < 3 → to_bits binary64 (coordinate m v c) ≡ 0)
  unfolding positions_zero
  positions-zero = (at, λ f. link-all test m.positions (λ v a b. go v a b (there m.vertices v) refl f))
    where
      test : ℕ → Bool
      test v = there m.vertices v || zero_position_row (get_or m.positions (v - 1) [])

      at : T (each_link test m.positions) → (v c : ℕ) → 1 ≤ v → v ≤ length m.positions → (IsVertex m v → ⊥) → c < 3 → to_bits binary64 (coordinate m v c) ≡ 0
      at h v c a b n l =
          or_cases (there m.vertices v) (zero_position_row (get_or m.positions (v - 1) [])) (link_at test m.positions h v a b) (λ u. absurd (n u)) (λ z. (zero_row_lem (get_or m.positions (v - 1) [])).0 z c l)

      go : (v : ℕ) → 1 ≤ v → v ≤ length m.positions → (b : Bool) → there m.vertices v ≡ b → ((v c : ℕ) → 1 ≤ v → v ≤ length m.positions → (IsVertex m v → ⊥) → c < 3 → to_bits binary64 (coordinate m v c) ≡ 0) → T (b || zero_position_row (get_or m.positions (v - 1) []))
      go v a b true e f = tt
      go v a b false e f = (zero_row_lem (get_or m.positions (v - 1) [])).1 (λ c l. f v c a b (λ u. subst T e u) l)

  pub all-finite : T (all_finite m) ↔ ((v c : ℕ) → 1 ≤ v → v ≤ length m.positions → c < 3 → exponent_field (to_bits binary64 (coordinate m v c)) ≡ 2047 → ⊥)
  unfolding all_finite
  all-finite = (
    λ h v c a b l. (finite-row (get_or m.positions (v - 1) [])).0 (every-at finite_row m.positions [] h (v - 1) (omega arith)) c l,
    λ f. true-T (every-passes finite_row m.positions [] (λ k q. T_true _ ((finite-row (get_or m.positions k [])).1 (λ c l. back f k q c l)))),
  )
    where
      back : ((v c : ℕ) → 1 ≤ v → v ≤ length m.positions → c < 3 → exponent_field (to_bits binary64 (coordinate m v c)) ≡ 2047 → ⊥) → (k : ℕ) → k < length m.positions → (c : ℕ) → c < 3 → exponent_field (to_bits binary64 (get_or (get_or m.positions k []) c nan)) ≡ 2047 → ⊥
      back f k q c l e = let z : k + 1 - 1 ≡ k = omega arith in f (k + 1) c (omega arith) (omega arith) l (rw z e)

  pub rest-zero : T (rest_zero m) ↔ (UnusedZero m.vertices × (UnusedZero m.arcs × (UnusedZero m.edges × (UnusedZero m.faces × T (positions_zero m)))))
  unfolding rest_zero
  rest-zero =
      test-and (unused_zero m.vertices) _ (unused-zero m.vertices)
      (test-and (unused_zero m.arcs) _ (unused-zero m.arcs)
      (test-and (unused_zero m.edges) _ (unused-zero m.edges) (test-and (unused_zero m.faces) (positions_zero m) (unused-zero m.faces) itself)))

-- ---- all of them

pub facts : (m : Mesh) → T (sound m) → SoundFacts m
facts m t =
    let s = parts m t in
    let d = (keys-differ m).0 s.keys-differ in
    let b = (keys-below m).0 s.keys_below in
    let z = (rest-zero m).0 s.rest-zero in
    record {
      sizes = sizes m s.within-limits;
      vertex-keys-differ = d.0;
      edge-keys-differ = d.1.0;
      face-keys-differ = d.1.1;
      vertex-keys-below = b.0;
      edge-keys-below = b.1.0;
      face-keys-below = b.1.1;
      both-arcs = (both-arcs m).0 s.both-arcs;
      ends-differ = (ends-differ m).0 s.ends-differ;
      ends-exist = (ends-exist m).0 s.ends-exist;
      pairs-differ = pairs-apart m s.pairs-differ;
      edge-exists = λ x u. ((edge-joins m).0 s.edge-joins x u).0;
      edge-names = λ x u. ((edge-joins m).0 s.edge-joins x u).1;
      leads-out = (leads-out m).0 s.leads-out;
      next-leaves = (next-leaves m).0 s.next-leaves;
      previous-arrives = (previous-arrives m).0 s.previous-arrives;
      face-exists = (face-exists m).0 s.face-exists;
      rings = (rings m).0 s.rings-sound;
      vertices-zero = z.0;
      arcs-zero = z.1.0;
      edges-zero = z.1.1.0;
      faces-zero = z.1.1.1.0;
      positions-zero = (positions-zero m).0 z.1.1.1.1;
      all-finite = (all-finite m).0 s.all-finite;
    }

pub sound-from : (m : Mesh) → SoundFacts m → T (sound m)
sound-from m s =
    whole m (record {
      within-limits = sizes-within m s.sizes;
      keys-differ = (keys-differ m).1 (s.vertex-keys-differ, (s.edge-keys-differ, s.face-keys-differ));
      keys_below = (keys-below m).1 (s.vertex-keys-below, (s.edge-keys-below, s.face-keys-below));
      both-arcs = (both-arcs m).1 s.both-arcs;
      ends-differ = (ends-differ m).1 s.ends-differ;
      ends-exist = (ends-exist m).1 s.ends-exist;
      pairs-differ = pairs-from m (omega (arith, s.sizes.arc-rows, s.sizes.edge-rows)) s.pairs-differ;
      edge-joins = (edge-joins m).1 (λ x u. (s.edge-exists x u, s.edge-names x u));
      leads-out = (leads-out m).1 s.leads-out;
      next-leaves = (next-leaves m).1 s.next-leaves;
      previous-arrives = (previous-arrives m).1 s.previous-arrives;
      face-exists = (face-exists m).1 s.face-exists;
      rings-sound = (rings m).1 s.rings;
      rest-zero = (rest-zero m).1 (s.vertices-zero, (s.arcs-zero, (s.edges-zero, (s.faces-zero, (positions-zero m).1 s.positions-zero))));
      all-finite = (all-finite m).1 s.all-finite;
    })

-- the test passes exactly where the facts hold
pub sound-means : (m : Mesh) → T (sound m) ↔ SoundFacts m
sound-means m = (facts m, sound-from m)
