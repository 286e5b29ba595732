-- The least listed link of an arc from a to b is the one that a pass finds, where every arc that leaves a is listed; so for all pairs of a perimeter.
use Prim.Native.Nat.{ℕ, ◌+◌, ◌-◌, ◌%◌, ◌≤◌, ◌<◌}
use native.Mathlib.Nat.{le_refl}
use native.Mathlib.Numerals.{add-one}
use native.Mathlib.Omega.{arith}
use native.Mathlib.Decide.{ℕ_discrete, dec_lt}
use borrow.Author.Count.{below_none, below_more}
use borrow.Author.Tests.{eq-eqb, ne_eqb, lt-ltb, le-ltb}
use mathlib.Core.Path.{◌≡◌, refl, ap, sym, ◌∙◌, subst}
use mathlib.Core.Bool.{Bool, true, false, cond, ◌&&◌}
use mathlib.Core.List.{List, [], ◌∷◌, ◌++◌}
use lib.ListN.{length, get_or, set, take, replicate, length-take, length-set, length-replicate, get_or-eq_default}
use lib.Seq.{get_or-set_same, get_or-set_other, get_or-take, take-take}
use lib.Dec.{eqb, ltb}
use Rattle.rules.specs.declared.Links.{Links}
use Rattle.rules.specs.Table.{Table, cell, has, after, row_limit}
use Rattle.rules.specs.Mesh.{joins, arc_between, links_of, list_of}
use Rattle.tables.proofs.Scans.{into-found, into-none}
use Rattle.lists.proofs.Laws.{after_on}
use Rattle.pairs.specs.Pairs.{arcs_of, runs_at}
use Rattle.pairs.specs.Near.{is_marked, Listing, Ends, AllFrom, leads, Least, Sought, lower_link, LinkNoted, source_at, LastLike}
use Rattle.pairs.proofs.Filled.{some-link}
use Rattle.pairs.proofs.Has.{has_last, has_left, has-before, has-read, has-found, has-early}
use Rattle.pairs.proofs.Listing.{both}
use Rattle.pairs.proofs.Steps.{item-is}
use Rattle.pairs.proofs.Pass.{joined, from-none, from_some, from, to, places-told, zeros}

-- an arc that leaves a vertex with a mark
pub all_from : (arcs : Table) (seen : List Bool) (list : List ℕ) (spare used a : ℕ) → Listing arcs seen list spare used → is_marked seen a ≡ true → AllFrom arcs list a
all_from arcs seen list spare used a h m x l na e = h.leaving x l (λ z. na (sym e ∙ z)) (subst (λ (v : ℕ). is_marked seen v ≡ true) (sym e) m)

-- stands before place k, where from there on every row is unused
pub all-early : (arcs : Table) (near : List ℕ) (n used k a : ℕ) → Ends arcs (take n near) used → used ≤ k → k < n → cell arcs (get_or near k 0) 0 ≡ 0 → AllFrom arcs (take n near) a → AllFrom arcs (take k near) a
all-early arcs near n used k a ends from on z all x l na e = rw (take-take k n near (omega arith)) at (has-early (take n near) k x (all x l na e) (λ j b c q. na (sym e ∙ ap (λ (y : ℕ). cell arcs y 0) (sym q) ∙ ends k j from b c (rw (get_or-take n near k 0 on) z))))

-- ---- one pair

module _ (arcs : Table) (a b : ℕ) where
  row-cell : (k c : ℕ) → cell arcs (k + 1) c ≡ get_or (get_or arcs k []) c 0
  unfolding cell
  row-cell k c =
      let w : k + 1 - 1 ≡ k = omega arith in
      rw (ne_eqb (k + 1) 0 (λ e. omega arith), w)

  row-leads : (k : ℕ) → leads arcs a b (k + 1) ≡ joins a b (get_or arcs k [])
  row-leads k = rw (row-cell k 0, row-cell k 1)

  pub least_start : Least arcs a b [] 0
  unfolding has
  least_start = record { is = λ nz. absurd (nz refl); some = λ x h. absurd (both (sym h)); low = λ x h. absurd (both (sym h)) }

  module _ (list : List ℕ) (m x : ℕ) (h : Least arcs a b list m) where
    pub least_other : leads arcs a b x ≡ false → Least arcs a b (list ++ (x ∷ [])) m
    least_other un = record { is = h.is; some = λ y q l. h.some y (in_list y q l) l; low = λ y q l. h.low y (in_list y q l) l }
      where
        in_list : (y : ℕ) → has (list ++ (x ∷ [])) y ≡ true → leads arcs a b y ≡ true → has list y ≡ true
        in_list y q l = has-before list x y (λ e. both (sym l ∙ ap (leads arcs a b) e ∙ un)) q

    least_kept : (m ≡ 0 → ⊥) → m ≤ x → Least arcs a b (list ++ (x ∷ [])) m
    least_kept nz le = record { is = h.is; some = λ y q l. nz; low = λ y q l. go y q l (ℕ_discrete y x) }
      where
        go : (y : ℕ) → has (list ++ (x ∷ [])) y ≡ true → leads arcs a b y ≡ true → Dec (y ≡ x) → m ≤ y
        go y q l (yes e) = omega arith
        go y q l (no ne) = h.low y (has-before list x y ne q) l

    least-here : (s d : ℕ) → (a ≡ 0 → ⊥) → s ≡ cell arcs x 0 → d ≡ cell arcs x 1 → s ≡ a → d ≡ b → ((m ≡ 0 → ⊥) → x ≤ m) → Least arcs a b (list ++ (x ∷ [])) x
    least-here s d na es ed ea eb le = record {
      is = λ u. rw (eq-eqb (cell arcs x 0) a (sym es ∙ ea), eq-eqb (cell arcs x 1) b (sym ed ∙ eb));
      some = λ y q l z. omega (arith, some-link arcs x (λ e. na (sym ea ∙ es ∙ e)));
      low = λ y q l. go y q l (ℕ_discrete y x);
    }
      where
        go : (y : ℕ) → has (list ++ (x ∷ [])) y ≡ true → leads arcs a b y ≡ true → Dec (y ≡ x) → x ≤ y
        go y q l (yes e) = omega arith
        go y q l (no ne) = omega (arith, le (h.some y (has-before list x y ne q) l), h.low y (has-before list x y ne q) l)

    pub least-lower : (s d : ℕ) → (a ≡ 0 → ⊥) → s ≡ cell arcs x 0 → d ≡ cell arcs x 1 → s ≡ a → d ≡ b → Least arcs a b (list ++ (x ∷ [])) (lower_link m x)
    unfolding lower_link
    least-lower s d na es ed ea eb = go (ℕ_discrete m 0) (dec_lt x m)
      where
        go : Dec (m ≡ 0) → Dec (x < m) → Least arcs a b (list ++ (x ∷ [])) (cond (eqb m 0) x (cond (ltb x m) x m))
        go (yes z) l = rw (eq-eqb m 0 z) (least-here s d na es ed ea eb (λ nz. absurd (nz z)))
        go (no nz) (yes l) = rw (ne_eqb m 0 nz, lt-ltb x m l) (least-here s d na es ed ea eb (λ u. omega arith))
        go (no nz) (no nl) =
            let le : m ≤ x = omega arith in
            rw (ne_eqb m 0 nz, le-ltb x m le) (least_kept nz le)

  -- so it is among fewer links
  pub least-read : (at : List ℕ) (n m : ℕ) → Least arcs a b (take n at ++ (get_or at n 0 ∷ [])) m → Least arcs a b (take (n + 1) at) m
  least-read at n m h = rw (add-one n) (record { is = h.is; some = λ x q. h.some x (has-read at n x q); low = λ x q. h.low x (has-read at n x q) })

  pub least-is : (list : List ℕ) (m : ℕ) → (a ≡ 0 → ⊥) → length arcs ≤ row_limit → AllFrom arcs list a → Least arcs a b list m → m ≡ arc_between arcs a b
  least-is list m na fits all h = go (ℕ_discrete m 0)
    where
      listed : (k : ℕ) → k < length arcs → leads arcs a b (k + 1) ≡ true → has list (k + 1) ≡ true
      listed k q l = all (k + 1) (omega arith) na (row-cell k 0 ∙ joined a b (get_or arcs k []) (sym (row-leads k) ∙ l))

      miss : (k : ℕ) → k < length arcs → (has list (k + 1) ≡ true → leads arcs a b (k + 1) ≡ true → ⊥) → joins a b (get_or arcs k []) ≡ false
      miss k q un = test (joins a b (get_or arcs k [])) refl
        where
          test : (t : Bool) → joins a b (get_or arcs k []) ≡ t → joins a b (get_or arcs k []) ≡ false
          test false e = e
          test true e = absurd (un (listed k q (row-leads k ∙ e)) (row-leads k ∙ e))

      go : Dec (m ≡ 0) → m ≡ arc_between arcs a b
      go (yes z) = z ∙ into-none (joins a b) arcs [] (length arcs) (le_refl _) (λ k q. miss k q (λ i l. h.some (k + 1) i l z)) ∙ from_some arcs a b na
      go (no nz) = w ∙ into-found (joins a b) arcs [] (m - 1) fits within (λ k q. miss k (omega (arith, within)) (λ i l. omega (arith, h.low (k + 1) i l))) is ∙ from_some arcs a b na
        where
          w : m ≡ m - 1 + 1
          w = omega arith

          is : joins a b (get_or arcs (m - 1) []) ≡ true
          is = sym (row-leads (m - 1)) ∙ ap (leads arcs a b) (sym w) ∙ h.is nz

          on : Dec (m - 1 < length arcs) → m - 1 < length arcs
          on (yes q) = q
          on (no q) = absurd (na (sym (joined a b (get_or arcs (m - 1) []) is) ∙ ap (λ (r : List ℕ). get_or r 0 0) (get_or-eq_default arcs [] (omega arith))))

          within : m - 1 < length arcs
          within = on (dec_lt (m - 1) (length arcs))

  -- ---- along a chain

  -- the least of the links of the chain from place k on, up to place n
  pub record Walked (near : List ℕ) (n k m : ℕ) : Type 0 where
    pub list : List ℕ
    pub least : Least arcs a b list m
    pub met : (j : ℕ) → k ≤ j → j < n → leads arcs a b (get_or near j 0) ≡ true → has list (get_or near j 0) ≡ true

  leads-from : (x : ℕ) → leads arcs a b x ≡ true → cell arcs x 0 ≡ a
  leads-from x l = go (ℕ_discrete (cell arcs x 0) a)
    where
      go : Dec (cell arcs x 0 ≡ a) → cell arcs x 0 ≡ a
      go (yes e) = e
      go (no ne) = let un : leads arcs a b x ≡ false = rw (ne_eqb (cell arcs x 0) a ne) in absurd (both (sym l ∙ un))

  module _ (near : List ℕ) (n : ℕ) where
    pub walked_start : (k : ℕ) → LastLike arcs near a n k → Walked near n k 0
    walked_start k h = record { list = []; least = least_start; met = λ j q l e. absurd (h.past j q l (ap (λ (v : ℕ). v % 128) (leads-from (get_or near j 0) e))) }

    pub walked_next : (k m p r : ℕ) → 1 ≤ k → source_at arcs near (k - 1) % 128 ≡ a % 128 → LastLike arcs near (source_at arcs near (k - 1)) (k - 1) p → (w : Walked near n k m) → Least arcs a b (w.list ++ (get_or near (k - 1) 0 ∷ [])) r → Walked near n p r
    walked_next k m p r some same h w least = record { list = w.list ++ (x ∷ []); least = least; met = λ j q l e. go j q l e (dec_lt j (k - 1)) (ℕ_discrete j (k - 1)) }
      where
        x : ℕ
        x = get_or near (k - 1) 0

        go : (j : ℕ) → p ≤ j → j < n → leads arcs a b (get_or near j 0) ≡ true → Dec (j < k - 1) → Dec (j ≡ k - 1) → has (w.list ++ (x ∷ [])) (get_or near j 0) ≡ true
        go j q l e (yes before) d = absurd (h.past j q before (ap (λ (v : ℕ). v % 128) (leads-from (get_or near j 0) e) ∙ sym same))
        go j q l e (no nb) (yes d) = rw d (has_last w.list x)
        go j q l e (no nb) (no nd) = has_left w.list x (get_or near j 0) (w.met j (omega arith) l e)

    pub walked_end : (m : ℕ) → Walked near n 0 m → Least arcs a b (take n near) m
    walked_end m w = record { is = w.least.is; some = λ x q l. w.least.some x (in_list x q l) l; low = λ x q l. w.least.low x (in_list x q l) l }
      where
        in_list : (x : ℕ) → has (take n near) x ≡ true → leads arcs a b x ≡ true → has w.list x ≡ true
        in_list x q l = has-found (take n near) x (has w.list x) q (λ j i e. at j (omega (arith, length-take n near)) e)
          where
            at : (j : ℕ) → j < n → get_or (take n near) j 0 ≡ x → has w.list x ≡ true
            at j i e =
                let is : get_or near j 0 ≡ x = sym (get_or-take n near j 0 i) ∙ e in
                subst (λ (y : ℕ). has w.list y ≡ true) is (w.met j (omega arith) i (subst (λ (y : ℕ). leads arcs a b y ≡ true) (sym is) l))

-- ---- one link noted at its pairs

module _ (f t : List ℕ) (s d x : ℕ) (at₀ : List ℕ) where
  pub noted-start : LinkNoted f t s d x at₀ 0 at₀
  noted-start = record { size = refl; told = below_none _; past = λ j q. refl }

  module _ (i : ℕ) (at : List ℕ) (h : LinkNoted f t s d x at₀ i at) where
    pub noted_here : (y : ℕ) → s ≡ get_or f i 0 → d ≡ get_or t i 0 → y ≡ lower_link (get_or at i 0) x → LinkNoted f t s d x at₀ (i + 1) (set at i y)
    unfolding runs_at
    noted_here y es ed ey = record {
      size = length-set at i y ∙ h.size;
      told = below_more _ i (λ j q on. get_or-set_other at i j y 0 (λ e. omega arith) ∙ h.told j q (omega (arith, length-set at i y))) (λ on. get_or-set_same at i y 0 (omega (arith, length-set at i y)) ∙ ey ∙ rw (eq-eqb s (get_or f i 0) es, eq-eqb d (get_or t i 0) ed, h.past i (le_refl i)));
      past = λ j q. get_or-set_other at i j y 0 (λ e. omega arith) ∙ h.past j (omega arith);
    }

    noted-next : runs_at f t s d i ≡ false → LinkNoted f t s d x at₀ (i + 1) at
    noted-next un = record {
      size = h.size;
      told = below_more _ i h.told (λ on. rw (un, h.past i (le_refl i)));
      past = λ j q. h.past j (omega arith);
    }

    pub noted-starts : (s ≡ get_or f i 0 → ⊥) → LinkNoted f t s d x at₀ (i + 1) at
    unfolding runs_at
    noted-starts ns = noted-next (rw (ne_eqb s (get_or f i 0) ns))

    pub noted-leads : s ≡ get_or f i 0 → (d ≡ get_or t i 0 → ⊥) → LinkNoted f t s d x at₀ (i + 1) at
    unfolding runs_at
    noted-leads es nd = noted-next (rw (eq-eqb s (get_or f i 0) es, ne_eqb d (get_or t i 0) nd))

-- ---- all pairs

-- where they lead, by the array that holds the perimeter
pub ends-are : (per : Links) (n : ℕ) (t : List ℕ) → n ≡ length (list_of per) → ((j : ℕ) → j < n → get_or t j 0 ≡ get_or per.at (after n j) 0) → (i : ℕ) → i < length (list_of per) → get_or t i 0 ≡ to (list_of per) i
ends-are per n t e h i q = h i (omega arith) ∙ ap (λ (k : ℕ). get_or per.at (after k i) 0) e ∙ item-is per (after (length (list_of per)) i) (after_on (length (list_of per)) i q)

module _ (arcs : Table) (f t : List ℕ) (size : ℕ) where
  pub sought-start : (list : List ℕ) → Sought arcs f t 0 list (replicate 64 0)
  sought-start list = record { places = length-replicate {A = ℕ} 64 0; none = below_none _; least = below_none _; clear = λ i q. zeros i }

  pub sought-more : (list at : List ℕ) (i y : ℕ) → i < 64 → Sought arcs f t i list at → (get_or f i 0 ≡ 0 → y ≡ 0) → ((get_or f i 0 ≡ 0 → ⊥) → Least arcs (get_or f i 0) (get_or t i 0) list y) → Sought arcs f t (i + 1) list (set at i y)
  sought-more list at i y on h none least = record {
    places = length-set at i y ∙ h.places;
    none = below_more _ i (λ j q z. get_or-set_other at i j y 0 (λ e. omega arith) ∙ h.none j q z) (λ z. here ∙ none z);
    least = below_more _ i (λ j q ne. rw (get_or-set_other at i j y 0 (λ e. omega arith)) (h.least j q ne)) (λ ne. rw here (least ne));
    clear = λ j q. get_or-set_other at i j y 0 (λ e. omega arith) ∙ h.clear j (omega arith);
  }
    where
      here : get_or (set at i y) i 0 ≡ y
      here = get_or-set_same at i y 0 (omega (arith, h.places))

  module _ (list : List ℕ) (x : ℕ) (at : List ℕ) (h : Sought arcs f t size list at) where
    other : (i : ℕ) → i < size → (get_or f i 0 ≡ 0 → ⊥) → leads arcs (get_or f i 0) (get_or t i 0) x ≡ false → Least arcs (get_or f i 0) (get_or t i 0) (list ++ (x ∷ [])) (get_or at i 0)
    other i q ne = least_other arcs (get_or f i 0) (get_or t i 0) list (get_or at i 0) x (h.least i q ne)

    -- a link whose arc leaves none of the vertices
    pub sought-skip : ((i : ℕ) → i < size → (get_or f i 0 ≡ 0 → ⊥) → cell arcs x 0 ≡ get_or f i 0 → ⊥) → Sought arcs f t size (list ++ (x ∷ [])) at
    sought-skip un = record {
      places = h.places;
      none = h.none;
      least = λ i q ne. other i q ne (rw (ne_eqb _ _ (un i q ne)));
      clear = h.clear;
    }

    pub sought-note : (s d : ℕ) (at₁ : List ℕ) → size ≤ 64 → s ≡ cell arcs x 0 → d ≡ cell arcs x 1 → (s ≡ 0 → ⊥) → LinkNoted f t s d x at size at₁ → Sought arcs f t size (list ++ (x ∷ [])) at₁
    unfolding runs_at
    sought-note s d at₁ few es ed ns n = record {
      places = n.size ∙ h.places;
      none = λ i q z. n.told i q (on i q) ∙ rw (ne_eqb s (get_or f i 0) (λ e. ns (e ∙ z))) (h.none i q z);
      least = λ i q ne. rw (n.told i q (on i q)) (go i q ne (ℕ_discrete s (get_or f i 0)) (ℕ_discrete d (get_or t i 0)));
      clear = λ i q. n.past i q ∙ h.clear i q;
    }
      where
        on : (i : ℕ) → i < size → i < length at₁
        on i q = omega (arith, n.size, h.places)

        go : (i : ℕ) → i < size → (get_or f i 0 ≡ 0 → ⊥) → Dec (s ≡ get_or f i 0) → Dec (d ≡ get_or t i 0) → Least arcs (get_or f i 0) (get_or t i 0) (list ++ (x ∷ [])) (cond (eqb s (get_or f i 0) && eqb d (get_or t i 0)) (lower_link (get_or at i 0) x) (get_or at i 0))
        go i q ne (yes e) (yes g) = rw (eq-eqb s (get_or f i 0) e, eq-eqb d (get_or t i 0) g) (least-lower arcs (get_or f i 0) (get_or t i 0) list (get_or at i 0) x (h.least i q ne) s d ne es ed e g)
        go i q ne (yes e) (no ng) = rw (eq-eqb s (get_or f i 0) e, ne_eqb d (get_or t i 0) ng) (other i q ne (rw (eq-eqb (cell arcs x 0) (get_or f i 0) (sym es ∙ e), ne_eqb (cell arcs x 1) (get_or t i 0) (λ z. ng (ed ∙ z)))))
        go i q ne (no nf) g = rw (ne_eqb s (get_or f i 0) nf) (other i q ne (rw (ne_eqb (cell arcs x 0) (get_or f i 0) (λ z. nf (es ∙ z)))))

  pub sought-read : (near : List ℕ) (n : ℕ) (at : List ℕ) → Sought arcs f t size (take n near ++ (get_or near n 0 ∷ [])) at → Sought arcs f t size (take (n + 1) near) at
  sought-read near n at h = record {
    places = h.places;
    none = h.none;
    least = λ i q ne. least-read arcs (get_or f i 0) (get_or t i 0) near n (get_or at i 0) (h.least i q ne);
    clear = h.clear;
  }

  module _ (per : List ℕ) (e : size ≡ length per) (ef : (i : ℕ) → i < length per → get_or f i 0 ≡ from per i) (et : (i : ℕ) → i < length per → get_or t i 0 ≡ to per i) where
    pub sought-end : (list at : List ℕ) → length per ≤ 64 → length arcs ≤ row_limit → ((i : ℕ) → i < length per → AllFrom arcs list (from per i)) → Sought arcs f t size list at → record { at = at; len = size } ≡ links_of (arcs_of arcs per)
    sought-end list at few fits all h = places-told arcs per at size e few h.places (λ i q. rw (← ef i q, ← et i q) (is i q (ℕ_discrete (get_or f i 0) 0))) (λ i q. h.clear i (omega arith))
      where
        is : (i : ℕ) → i < length per → Dec (get_or f i 0 ≡ 0) → get_or at i 0 ≡ arc_between arcs (get_or f i 0) (get_or t i 0)
        is i q (yes z) = h.none i (omega arith) z ∙ from-none arcs (get_or f i 0) (get_or t i 0) z
        is i q (no ne) = least-is arcs (get_or f i 0) (get_or t i 0) list (get_or at i 0) ne fits (rw (ef i q) (all i q)) (h.least i (omega arith) ne)
