-- A ring walked once, each arc's row read once: what is known of the arcs passed, and what each way out of the walk tells of the ring.
use Prim.Native.Nat.{ℕ, zero, suc, ◌+◌, ◌-◌, ◌≤◌, ◌<◌}
use native.Mathlib.Omega.{arith}
use native.Mathlib.Decide.{ℕ_discrete, dec_lt}
use mathlib.Core.Path.{◌≡◌, refl, ap, sym, subst, ◌∙◌}
use mathlib.Core.Bool.{Bool, true, false, not, cond, ◌&&◌}
use mathlib.Core.List.{List, [], ◌∷◌}
use lib.ListN.{length, get_or, set, replicate, length-set}
use lib.Seq.{get_or-set_same, get_or-set_other}
use lib.Dec.{T, eqb, leb, eqb→eq, le→leb, leb→le}
use lib.Ieee.Fits.{and_l, and_r, and_i}
use Rattle.rules.specs.Table.{Table, cell, there, used, all_below}
use Rattle.rules.specs.Mesh.{Mesh, source, dest, next, previous, face, face_arc}
use Rattle.rules.specs.Link.{ring}
use Rattle.rules.proofs.Sums.{all-at}
use Rattle.proved.proofs.Rows.{T_false, true-T, same-T, differ, differ-T, all_from, cell-none, cell-past, cell_row, link_row, in_table, every-at}
use Rattle.std.specs.Prelude.{Option, Some, None}
use Rattle.std.specs.Option.{unwrap_or}
use Rattle.sound.specs.Rings.{row_of, ring_arc, ring_row, apart, ring_whole, ring_linked, ring_length, linked_length}
use Rattle.sound.proofs.RingWalk.{on, on_none, on-more, Away, away-none, away-more, Walked, place-on, whole-walked, longer, length-is, every-on, end-fails}

-- ---- a row that the table has, read by the code's index

module _ (arcs : Table) (x w : ℕ) (e : w ≡ x) (h : (leb 1 x && leb x (length arcs)) ≡ true) where
  low : 1 ≤ x
  low = leb→le 1 x (and_l (leb 1 x) (leb x (length arcs)) (true-T h))

  index-some : 1 ≤ w
  index-some = omega (arith, low)

  pub row-cell : (c : ℕ) → get_or (get_or arcs (w - 1) []) c 0 ≡ cell arcs x c
  row-cell c = sym (cell_row arcs (w - 1) c) ∙ ap (λ (y : ℕ). cell arcs y c) (link_row w index-some ∙ e)

-- and one that it has not, where the code has six zeros
zero-cell : (n c : ℕ) → get_or {A = ℕ} (replicate n 0) c 0 ≡ 0
zero-cell zero c = refl
zero-cell (suc n) zero = refl
zero-cell (suc n) (suc c) = zero-cell n c

pub no_row : (arcs : Table) (x : ℕ) → (leb 1 x && leb x (length arcs)) ≡ false → (c : ℕ) → get_or {A = ℕ} (0 ∷ 0 ∷ 0 ∷ 0 ∷ 0 ∷ 0 ∷ []) c 0 ≡ cell arcs x c
no_row arcs x e c = zero-cell 6 c ∙ sym (go (dec_lt x 1) (dec_lt (length arcs) x))
  where
    go : Dec (x < 1) → Dec (length arcs < x) → cell arcs x c ≡ 0
    go (yes l) d = let z : x ≡ 0 = omega arith in ap (λ (y : ℕ). cell arcs y c) z ∙ cell-none arcs c
    go (no n) (yes l) = cell-past arcs x c l
    go (no n) (no l) = absurd (subst T e (and_i (leb 1 x) (leb x (length arcs)) (le→leb 1 x (omega arith)) (le→leb x (length arcs) (omega arith))))

-- ---- numbers that differ, by their places

module _ (l : List ℕ) (n : ℕ) where
  pub apart_from : ((j k : ℕ) → j < n → k < n → get_or l j 0 ≡ get_or l k 0 → j ≡ k) → T (apart l n)
  unfolding apart
  apart_from h =
      all_from (λ i. all_below (λ j. not (eqb (get_or l j 0) (get_or l i 0))) i) n (λ i a. all_from (λ j. not (eqb (get_or l j 0) (get_or l i 0))) i (λ j b. differ-T _ _ (λ e. let q = h j i (omega arith) a e in omega arith)))

  later : T (apart l n) → (j k : ℕ) → j < k → k < n → get_or l j 0 ≡ get_or l k 0 → ⊥
  unfolding apart
  later t j k a b e =
      differ (get_or l j 0) (get_or l k 0) (all-at (λ j. not (eqb (get_or l j 0) (get_or l k 0))) k (all-at (λ i. all_below (λ j. not (eqb (get_or l j 0) (get_or l i 0))) i) n t k b) j a) e

  pub apart-at : T (apart l n) → (j k : ℕ) → j < n → k < n → get_or l j 0 ≡ get_or l k 0 → j ≡ k
  apart-at t j k a b e = go (ℕ_discrete j k) (dec_lt j k)
    where
      go : Dec (j ≡ k) → Dec (j < k) → j ≡ k
      go (yes q) d = q
      go (no q) (yes l) = absurd (later t j k l b e)
      go (no q) (no l) = absurd (later t k j (omega arith) a (sym e))

-- ---- the arcs passed

module _ (arcs : Table) (first f : ℕ) where
  -- the arc after the one k steps on: previous names that one, and it leaves where that one ends
  abbrev pub After : ℕ → Type 0
  After k = (cell arcs (on arcs first f (k + 1)) 3 ≡ on arcs first f k) × (cell arcs (on arcs first f (k + 1)) 0 ≡ cell arcs (on arcs first f k) 1)

  -- the first n hold the face, and each comes after the one before
  pub record Chain (n : ℕ) : Type 0 where
    pub holds : (k : ℕ) → k < n → T (there arcs (on arcs first f k) && eqb (cell arcs (on arcs first f k) 4) f)
    pub linked : (k : ℕ) → k + 1 < n → After k

  chain-none : Chain 0
  chain-none =
      record { holds = λ k l. let z : ⊥ = omega arith in absurd z; linked = λ k l. let z : ⊥ = omega arith in absurd z }

  chain_more : (n : ℕ) → Chain n → T (there arcs (on arcs first f n) && eqb (cell arcs (on arcs first f n) 4) f) → ((k : ℕ) → k + 1 ≡ n → After k) → Chain (n + 1)
  chain_more n c t b = record { holds = λ k l. hold k (ℕ_discrete k n) l; linked = λ k l. link k (ℕ_discrete (k + 1) n) l }
    where
      hold : (k : ℕ) → Dec (k ≡ n) → k < n + 1 → T (there arcs (on arcs first f k) && eqb (cell arcs (on arcs first f k) 4) f)
      hold k (yes q) l = subst (λ (z : ℕ). T (there arcs (on arcs first f z) && eqb (cell arcs (on arcs first f z) 4) f)) (sym q) t
      hold k (no q) l = c.holds k (omega arith)

      link : (k : ℕ) → Dec (k + 1 ≡ n) → k + 1 < n + 1 → After k
      link k (yes q) l = b k q
      link k (no q) l = c.linked k (omega arith)

-- the loop: n arcs are passed, x is next, the list has the sources of those passed, and `before`, which ends at `end`, is the last of them
pub record Going (arcs : Table) (first f : ℕ) (sources : List ℕ) (n x before end : ℕ) : Type 0 where
  pub size : length sources ≡ 64
  pub here : x ≡ on arcs first f n
  pub chain : Chain arcs first f n
  pub away : Away arcs first f n
  pub kept : (k : ℕ) → k < n → get_or sources k 0 ≡ cell arcs (on arcs first f k) 0
  pub last : (k : ℕ) → k + 1 ≡ n → (before ≡ on arcs first f k) × (end ≡ cell arcs (on arcs first f k) 1)
  pub start : n ≡ 0 → (before ≡ cell arcs first 3) × (end ≡ cell arcs first 0)

-- ---- the ring

module _ (m : Mesh) (f : ℕ) where
  abbrev a : Table
  a = m.arcs

  abbrev o : ℕ
  o = face_arc m f

  -- whole and linked
  abbrev Full : Type 0
  Full = T (ring_whole m f && ring_linked m f)

  none-linked : (Full → ⊥) → 0 ≡ linked_length m f
  unfolding linked_length
  none-linked h = rw (T_false (ring_whole m f && ring_linked m f) (lib.Dec.not_T (ring_whole m f && ring_linked m f) h))

  not-whole : 0 ≡ ring_length m f → 0 ≡ linked_length m f
  unfolding ring_length linked_length
  not-whole e = go (ring_whole m f) (ring_linked m f) e
    where
      go : (b c : Bool) → 0 ≡ cond b (length (ring m f)) 0 → 0 ≡ cond (b && c) (length (ring m f)) 0
      go true true e = e
      go true false e = refl
      go false c e = refl

  linked-whole : T (ring_linked m f) → ring_length m f ≡ linked_length m f
  unfolding ring_length linked_length
  linked-whole t = go (ring_whole m f) (ring_linked m f) t
    where
      go : (b c : Bool) → T c → cond b (length (ring m f)) 0 ≡ cond (b && c) (length (ring m f)) 0
      go true true t = refl
      go true false t = absurd t
      go false c t = refl

  after_on : Full → (k : ℕ) → k < length (ring m f) → After a o f k
  unfolding ring_linked ring_arc
  after_on h k l =
      let y : ℕ = on a o f k in
      let w = (whole-walked m f (and_l (ring_whole m f) (ring_linked m f) h)).passes k l in
      let p : previous m (next m y) ≡ y = eqb→eq (previous m (next m y)) y (and_r (there a y && eqb (face m y) f) (eqb (previous m (next m y)) y) w) in
      let t = every-at (λ x. eqb (source m (next m x)) (dest m x)) (ring m f) 0 (and_r (ring_whole m f) (ring_linked m f) h) k l in
      let q : source m (next m y) ≡ dest m y = eqb→eq _ _ (subst (λ (x : ℕ). T (eqb (source m (next m x)) (dest m x))) (place-on m f k l) t) in
      (ap (previous m) (on-more a o f k) ∙ p, ap (source m) (on-more a o f k) ∙ q)

  -- the first n arcs have different sources
  abbrev Apart : ℕ → Type 0
  Apart n = (j k : ℕ) → j < n → k < n → cell a (on a o f j) 0 ≡ cell a (on a o f k) 0 → j ≡ k

  -- a walk that comes back
  module _ (n : ℕ) (c : Chain a o f (n + 1)) (z : Away a o f n) (e : on a o f (n + 1) ≡ o) (few : n < 64) where
    module _ (w : After a o f n) (d : Apart (n + 1)) where
      link : (k : ℕ) → k < n + 1 → After a o f k
      link k l = go (ℕ_discrete k n)
        where
          go : Dec (k ≡ n) → After a o f k
          go (yes q) = subst (λ (j : ℕ). After a o f j) (sym q) w
          go (no q) = c.linked k (omega arith)

      walked : Walked a o f (n + 1)
      unfolding ring_arc
      walked =
          record {
            passes = λ k l. and_i (there a (on a o f k) && eqb (face m (on a o f k)) f) (eqb (previous m (next m (on a o f k))) (on a o f k)) (c.holds k l) (same-T _ _ (sym (ap (previous m) (on-more a o f k)) ∙ (link k l).0));
            apart = d;
          }

      all-linked : T (ring_linked m f)
      unfolding ring_linked
      all-linked =
          every-on m f n walked z e few (λ x. eqb (source m (next m x)) (dest m x)) (λ k l. same-T _ _ (sym (ap (source m) (on-more a o f k)) ∙ (link k l).1))

      closes : cond (leb 3 (n + 1)) (n + 1) 0 ≡ linked_length m f
      closes = length-is m f n walked z e few ∙ linked-whole all-linked

    -- the last arc compared with the first
    module _ (x : ℕ) (ex : x ≡ on a o f n) where
      abbrev met : Bool
      met = eqb x (cell a o 3) && eqb (cell a x 1) (cell a o 0)

      beyond : Full → n < length (ring m f)
      beyond h = longer m f (and_l (ring_whole m f) (ring_linked m f) h) n z

      not-met : met ≡ false → 0 ≡ linked_length m f
      not-met q =
          none-linked (λ h. let w = after_on h n (beyond h) in subst T q (and_i (eqb x (cell a o 3)) (eqb (cell a x 1) (cell a o 0)) (same-T _ _ (ex ∙ sym w.0 ∙ ap (previous m) e)) (same-T _ _ (ap (dest m) ex ∙ sym w.1 ∙ ap (source m) e))))

      met-closes : met ≡ true → Apart (n + 1) → cond (leb 3 (n + 1)) (n + 1) 0 ≡ linked_length m f
      met-closes q d =
          let p = eqb→eq x (cell a o 3) (and_l (eqb x (cell a o 3)) (eqb (cell a x 1) (cell a o 0)) (true-T q)) in
          let r = eqb→eq (cell a x 1) (cell a o 0) (and_r (eqb x (cell a o 3)) (eqb (cell a x 1) (cell a o 0)) (true-T q)) in
          closes (ap (previous m) e ∙ sym p ∙ ex, ap (source m) e ∙ sym r ∙ ap (dest m) ex) d

      -- a source for the second time: whatever tells that, where it would pass with none twice
      not-apart : (b : Bool) → (Apart (n + 1) → T b) → b ≡ false → 0 ≡ linked_length m f
      not-apart b g q =
          none-linked (λ h. let l = beyond h in let w = whole-walked m f (and_l (ring_whole m f) (ring_linked m f) h) in subst T q (g (λ j k u v r. w.apart j k (omega arith) (omega arith) r)))

  -- what a whole and linked ring has at the arc that is next
  module _ (sources : List ℕ) (n x before end : ℕ) (g : Going a o f sources n x before end) (h : Full) where
    long : n < length (ring m f)
    long = longer m f (and_l (ring_whole m f) (ring_linked m f) h) n g.away

    there-holds : T (there a x && eqb (cell a x 4) f)
    unfolding ring_arc
    there-holds =
        subst (λ (y : ℕ). T (there a y && eqb (cell a y 4) f)) (sym g.here) (and_l (there a (on a o f n) && eqb (face m (on a o f n)) f) _ ((whole-walked m f (and_l (ring_whole m f) (ring_linked m f) h)).passes n long))

    comes-after : (cell a x 3 ≡ before) × (cell a x 0 ≡ end)
    comes-after = go (ℕ_discrete n 0)
      where
        go : Dec (n ≡ 0) → (cell a x 3 ≡ before) × (cell a x 0 ≡ end)
        go (yes z) =
            let p : x ≡ o = g.here ∙ ap (on a o f) z ∙ on_none a o f in
            let s = g.start z in
            (ap (previous m) p ∙ sym s.0, ap (source m) p ∙ sym s.1)
        go (no z) =
            let k : ℕ = n - 1 in
            let e : k + 1 ≡ n = omega arith in
            let w = after_on h k (omega (arith, long)) in
            let s = g.last k e in
            let p : x ≡ on a o f (k + 1) = g.here ∙ ap (on a o f) (sym e) in
            (ap (previous m) p ∙ w.0 ∙ sym s.0, ap (source m) p ∙ w.1 ∙ sym s.1)

    row-passes : (row : List ℕ) → ((c : ℕ) → get_or row c 0 ≡ cell a x c) → T (ring_row row f before end)
    unfolding ring_row
    row-passes row r =
        let t = there-holds in
        let w = comes-after in
        and_i (used row) _ (subst (λ (y : ℕ). T (not (eqb y 0))) (sym (r 0)) (and_l (there a x) (eqb (cell a x 4) f) t))
        (and_i (eqb (get_or row 4 0) f) _ (same-T _ _ (r 4 ∙ eqb→eq (cell a x 4) f (and_r (there a x) (eqb (cell a x 4) f) t)))
        (and_i (eqb (get_or row 3 0) before) (eqb (get_or row 0 0) end) (same-T _ _ (r 3 ∙ w.0)) (same-T _ _ (r 0 ∙ w.1))))

    row_within : T (leb 1 x && leb x (length a))
    row_within =
        let b = in_table a x (and_l (there a x) (eqb (cell a x 4) f) there-holds) in
        and_i (leb 1 x) (leb x (length a)) (le→leb 1 x b.0) (le→leb x (length a) b.1)

-- ---- a row that is read as an option

module _ (arcs : Table) (x : ℕ) where
  pub row-none : None ≡ row_of arcs x → (leb 1 x && leb x (length arcs)) ≡ false
  row-none e = go (leb 1 x && leb x (length arcs)) refl e
    where
      go : (b : Bool) → (leb 1 x && leb x (length arcs)) ≡ b → None ≡ cond b (Some (get_or arcs (x - 1) [])) None → (leb 1 x && leb x (length arcs)) ≡ false
      go true q z = absurd (cc)
      go false q z = q

  pub row-some : (r : List ℕ) → Some r ≡ row_of arcs x → (c : ℕ) → get_or r c 0 ≡ cell arcs x c
  row-some r e c = go (leb 1 x && leb x (length arcs)) refl e
    where
      go : (b : Bool) → (leb 1 x && leb x (length arcs)) ≡ b → Some r ≡ cond b (Some (get_or arcs (x - 1) [])) None → get_or r c 0 ≡ cell arcs x c
      go true q z = let same : r ≡ get_or arcs (x - 1) [] = cc in ap (λ (l : List ℕ). get_or l c 0) same ∙ row-cell arcs x x refl q c
      go false q z = absurd (cc)

  pub row-or_zero : (o : Option (List ℕ)) → o ≡ row_of arcs x → (c : ℕ) → get_or (unwrap_or o (0 ∷ 0 ∷ 0 ∷ 0 ∷ 0 ∷ 0 ∷ [])) c 0 ≡ cell arcs x c
  row-or_zero None e c = no_row arcs x (row-none e) c
  row-or_zero (Some r) e c = row-some r e c

-- ---- the ways out, on the table that the code reads

module _ (arcs : Table) (first f : ℕ) where
  as_read : (m : Mesh) → m.arcs ≡ arcs → face_arc m f ≡ first → (P : Table → ℕ → Type 0) → P m.arcs (face_arc m f) → P arcs first
  as_read m ea ef P p = subst (λ (t : Table). P t first) ea (subst (λ (x : ℕ). P m.arcs x) ef p)

  -- what the length is of every such mesh
  abbrev pub Told : ℕ → Type 0
  Told r = (m : Mesh) → m.arcs ≡ arcs → face_arc m f ≡ first → r ≡ linked_length m f

  pub going_start : (sources : List ℕ) (before end : ℕ) → length sources ≡ 64 → before ≡ cell arcs first 3 → end ≡ cell arcs first 0 → Going arcs first f sources 0 first before end
  going_start sources before end s b e =
      record { size = s; here = sym (on_none arcs first f); chain = chain-none arcs first f; away = away-none arcs first f; kept = λ k l. let z : ⊥ = omega arith in absurd z; last = λ k l. let z : ⊥ = omega arith in absurd z; start = λ z. (b, e) }

  module _ (sources : List ℕ) (n x before end : ℕ) (g : Going arcs first f sources n x before end) where
    -- past the table
    pub past-out : (leb 1 x && leb x (length arcs)) ≡ false → Told 0
    past-out q m ea ef =
        as_read m ea ef (λ t y. Going t y f sources n x before end → (leb 1 x && leb x (length t)) ≡ false → 0 ≡ linked_length m f) (λ g q. none-linked m f (λ h. subst T q (row_within m f sources n x before end g h))) g q

    pub end-out : 64 ≤ n → Told 0
    end-out l m ea ef = not-whole m f (end-fails m f arcs first ea ef n g.away l)

    -- the row of x
    module _ (row : List ℕ) (er : (c : ℕ) → get_or row c 0 ≡ cell arcs x c) where
      pub row_out : ring_row row f before end ≡ false → Told 0
      row_out q m ea ef =
          as_read m ea ef (λ t y. Going t y f sources n x before end → ((c : ℕ) → get_or row c 0 ≡ cell t x c) → ring_row row f before end ≡ false → 0 ≡ linked_length m f) (λ g er q. none-linked m f (λ h. subst T q (row-passes m f sources n x before end g h row er))) g er q

      abbrev s : ℕ
      s = get_or row 0 0

      source_is : s ≡ cell arcs (on arcs first f n) 0
      source_is = er 0 ∙ ap (λ (z : ℕ). cell arcs z 0) g.here

      -- x passes
      module _ (few : n < 64) (p : ring_row row f before end ≡ true) where
        abbrev Passes : Type 0
        Passes = T (there arcs x && eqb (cell arcs x 4) f) × ((cell arcs x 3 ≡ before) × (cell arcs x 0 ≡ end))

        passes : Passes
        unfolding ring_row
        passes =
            let t = true-T p in
            let t₁ = and_r (used row) _ t in
            let t₂ = and_r (eqb (get_or row 4 0) f) _ t₁ in
            let i = and_i (there arcs x) (eqb (cell arcs x 4) f) (subst (λ (y : ℕ). T (not (eqb y 0))) (er 0) (and_l (used row) _ t)) (same-T _ _ (sym (er 4) ∙ eqb→eq (get_or row 4 0) f (and_l (eqb (get_or row 4 0) f) _ t₁))) in
            (i, (sym (er 3) ∙ eqb→eq (get_or row 3 0) before (and_l (eqb (get_or row 3 0) before) (eqb (get_or row 0 0) end) t₂), sym (er 0) ∙ eqb→eq (get_or row 0 0) end (and_r (eqb (get_or row 3 0) before) (eqb (get_or row 0 0) end) t₂)))

        one_further : Chain arcs first f (n + 1)
        one_further =
            chain_more arcs first f n g.chain (subst (λ (y : ℕ). T (there arcs y && eqb (cell arcs y 4) f)) g.here passes.0)
            (λ k e.
            let l = g.last k e in
            let y : on arcs first f (k + 1) ≡ x = ap (on arcs first f) e ∙ sym g.here in
            (ap (λ (z : ℕ). cell arcs z 3) y ∙ passes.1.0 ∙ l.0, ap (λ (z : ℕ). cell arcs z 0) y ∙ passes.1.1 ∙ l.1))

        next-is : get_or row 2 0 ≡ on arcs first f (n + 1)
        next-is = er 2 ∙ ap (λ (z : ℕ). cell arcs z 2) g.here ∙ sym (on-more arcs first f n)

        kept_on : (k : ℕ) → k < n + 1 → get_or (set sources n s) k 0 ≡ cell arcs (on arcs first f k) 0
        kept_on k l = go (ℕ_discrete k n)
          where
            go : Dec (k ≡ n) → get_or (set sources n s) k 0 ≡ cell arcs (on arcs first f k) 0
            go (yes z) = ap (λ (i : ℕ). get_or (set sources n s) i 0) z ∙ get_or-set_same sources n s 0 (omega (arith, g.size)) ∙ source_is ∙ ap (λ (i : ℕ). cell arcs (on arcs first f i) 0) (sym z)
            go (no z) = get_or-set_other sources n k s 0 z ∙ g.kept k (omega arith)

        -- back at the first
        module _ (back begin : ℕ) (eb : back ≡ cell arcs first 3) (es : begin ≡ cell arcs first 0) (e : get_or row 2 0 ≡ first) where
          met-is : (eqb x back && eqb (get_or row 1 0) begin) ≡ (eqb x (cell arcs first 3) && eqb (cell arcs x 1) (cell arcs first 0))
          met-is = rw (eb, es, er 1)

          pub met-out : (eqb x back && eqb (get_or row 1 0) begin) ≡ false → Told 0
          met-out q m ea ef =
              as_read m ea ef (λ t y. Chain t y f (n + 1) → Away t y f n → on t y f (n + 1) ≡ y → x ≡ on t y f n → (eqb x (cell t y 3) && eqb (cell t x 1) (cell t y 0)) ≡ false → 0 ≡ linked_length m f)
              (λ c z r i u. not-met m f n c z r few x i u) one_further g.away (sym next-is ∙ e) g.here (sym met-is ∙ q)

          pub apart_out : apart (set sources n s) (n + 1) ≡ false → Told 0
          apart_out q m ea ef =
              as_read m ea ef (λ t y. Chain t y f (n + 1) → Away t y f n → on t y f (n + 1) ≡ y → x ≡ on t y f n → ((k : ℕ) → k < n + 1 → get_or (set sources n s) k 0 ≡ cell t (on t y f k) 0) → 0 ≡ linked_length m f)
              (λ c z r i u. not-apart m f n c z r few x i (apart (set sources n s) (n + 1)) (λ d. apart_from (set sources n s) (n + 1) (λ j k a b v. d j k a b (sym (u j a) ∙ v ∙ u k b))) q) one_further g.away (sym next-is ∙ e) g.here kept_on

          pub back-out : (eqb x back && eqb (get_or row 1 0) begin) ≡ true → apart (set sources n s) (n + 1) ≡ true → Told (cond (leb 3 (n + 1)) (n + 1) 0)
          back-out q d m ea ef =
              as_read m ea ef (λ t y. Chain t y f (n + 1) → Away t y f n → on t y f (n + 1) ≡ y → x ≡ on t y f n → (eqb x (cell t y 3) && eqb (cell t x 1) (cell t y 0)) ≡ true → ((k : ℕ) → k < n + 1 → get_or (set sources n s) k 0 ≡ cell t (on t y f k) 0) → cond (leb 3 (n + 1)) (n + 1) 0 ≡ linked_length m f)
              (λ c z r i w u. met-closes m f n c z r few x i w (λ j k a b v. apart-at (set sources n s) (n + 1) (true-T d) j k a b (u j a ∙ v ∙ sym (u k b)))) one_further g.away (sym next-is ∙ e) g.here (sym met-is ∙ q) kept_on

        pub going_on : (get_or row 2 0 ≡ first → ⊥) → Going arcs first f (set sources n s) (n + 1) (get_or row 2 0) x (get_or row 1 0)
        going_on e =
            record {
              size = length-set sources n s ∙ g.size;
              here = next-is;
              chain = one_further;
              away = away-more arcs first f n g.away (λ z. e (next-is ∙ z));
              kept = kept_on;
              last = λ k l. let z : k ≡ n = omega arith in (g.here ∙ ap (on arcs first f) (sym z), er 1 ∙ ap (λ (y : ℕ). cell arcs y 1) (g.here ∙ ap (on arcs first f) (sym z)));
              start = λ z. let y : ⊥ = omega arith in absurd y;
            }
