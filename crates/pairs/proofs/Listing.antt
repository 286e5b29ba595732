-- One pass lists the arcs near an edit: what stands in the list after so many rows, row by row, and at its end.
use Prim.Native.Nat.{ℕ, ◌+◌, ◌-◌, ◌≤◌, ◌<◌}
use native.Mathlib.Nat.{le_refl, not-suc-le-zero}
use native.Mathlib.Omega.{arith}
use native.Mathlib.Decide.{ℕ_discrete}
use borrow.Author.Count.{below_none, below_more}
use borrow.Author.Tests.{eq-eqb, ne_eqb}
use mathlib.Core.Path.{◌≡◌, refl, ap, sym, ◌∙◌, subst}
use mathlib.Core.Bool.{Bool, true, false, cond}
use mathlib.Core.List.{List, [], ◌∷◌, ◌++◌}
use lib.Dec.{eqb}
use lib.ListN.{length, get_or, set, take, length-take, length-append, get_or-append}
use lib.Seq.{take-set-le}
use Rattle.rules.specs.Table.{Table, cell, has, unused, or_else}
use Rattle.tables.proofs.Runs.{over-run}
use Rattle.pairs.specs.Near.{is_marked, Rising, Listing, Near, Passable, Onward, ListedTo, Met, chained_at}
use Rattle.pairs.specs.declared.near.Nearby.{Nearby}
use Rattle.pairs.proofs.Filled.{some-link}
use Rattle.pairs.proofs.Has.{has_last, has_left, at_place, one_written}
use Rattle.pairs.proofs.Chains.{used-listed, used-chained, chained-put}

pub both : true ≡ false → ⊥
both e = let z : ◌≡◌ {A = ℕ} 0 1 = ap (λ (b : Bool). cond b 0 1) e in omega arith

-- ---- places from which on only unused rows are listed

module _ (list : List ℕ) (used : ℕ) where
  rising_none : (i : ℕ) → length list ≤ used → Rising list used i
  rising_none i l = record { named = λ k a b. absurd (omega arith); ordered = λ k j a b c. absurd (omega arith) }

  rising-later : (i r : ℕ) → i ≤ r → Rising list used i → Rising list used r
  rising-later i r l h = record { named = λ k a b. ((h.named k a b).0, omega (arith, (h.named k a b).1)); ordered = h.ordered }

  rising-more : (i : ℕ) → Rising list used i → Rising (list ++ ((i + 1) ∷ [])) used (i + 1)
  rising-more i h = record { named = is; ordered = λ k j a b c. at_place (λ (y : ℕ). get_or (list ++ ((i + 1) ∷ [])) k 0 ≤ y) list (i + 1) j c (λ q. rw (get_or-append list ((i + 1) ∷ []) 0 k (omega arith)) (h.ordered k j a b q)) (is k a (omega arith)).1 }
    where
      is : (k : ℕ) → used ≤ k → k < length (list ++ ((i + 1) ∷ [])) → (1 ≤ get_or (list ++ ((i + 1) ∷ [])) k 0) × (get_or (list ++ ((i + 1) ∷ [])) k 0 ≤ i + 1)
      is k a b = at_place (λ (y : ℕ). (1 ≤ y) × (y ≤ i + 1)) list (i + 1) k b (λ q. ((h.named k a q).0, omega (arith, (h.named k a q).1))) (omega arith, omega arith)

-- ---- one row

module _ (arcs : Table) (seen : List Bool) where
  -- the row that a link names
  named : (x : ℕ) → 1 ≤ x → cell arcs x 0 ≡ get_or (get_or arcs (x - 1) []) 0 0
  unfolding cell
  named x l = rw (ne_eqb x 0 (λ e. omega arith))

  pub row-source : (i : ℕ) → cell arcs (i + 1) 0 ≡ get_or (get_or arcs i []) 0 0
  row-source i = let w : i + 1 - 1 ≡ i = omega arith in named (i + 1) (omega arith) ∙ rw w

  pub listed_start : (left : ℕ) → ListedTo arcs seen [] 0 0 0 left 0
  listed_start left = record {
    leaving = below_none _;
    free = below_none _;
    reached = omega arith;
    before = λ j q. absurd (omega arith);
    none = λ z nz. below_none _;
    rising = rising_none [] 0 0 (omega arith);
    taken_none = λ k a b. absurd (not-suc-le-zero b);
  }

  module _ (list : List ℕ) (i spare first left used : ℕ) (h : ListedTo arcs seen list i spare first left used) where
    abbrev at : ℕ
    at = get_or (get_or arcs i []) 0 0

    pub listed-skip : Passable seen left at → ListedTo arcs seen list (i + 1) spare first left used
    listed-skip p = record {
      leaving = below_more _ i h.leaving (λ u m. absurd (both (sym m ∙ p.0 u)));
      free = below_more _ i h.free (λ q z. absurd (p.1 (λ l. omega (arith, q l, h.reached)) z));
      reached = omega (arith, h.reached);
      before = h.before;
      none = λ z nz. below_more _ i (h.none z nz) (ne_eqb at 0 (p.1 nz));
      rising = rising-later list used i (i + 1) (omega arith) h.rising;
      taken_none = h.taken_none;
    }

    pub listed-used : (at ≡ 0 → ⊥) → (n : ℕ) → length list ≤ n → ListedTo arcs seen (list ++ ((i + 1) ∷ [])) (i + 1) spare first left (n + 1)
    listed-used u n l = record {
      leaving = below_more _ i (λ j q v m. has_left list (i + 1) (j + 1) (h.leaving j q v m)) (λ v m. has_last list (i + 1));
      free = below_more _ i (λ j q b z. has_left list (i + 1) (j + 1) (h.free j q b z)) (λ b z. absurd (u z));
      reached = omega (arith, h.reached);
      before = h.before;
      none = λ z nz. below_more _ i (h.none z nz) (ne_eqb at 0 u);
      rising = rising_none (list ++ ((i + 1) ∷ [])) (n + 1) (i + 1) (omega (arith, length-append list ((i + 1) ∷ [])));
      taken_none = λ k a b. absurd (omega (arith, length-append list ((i + 1) ∷ [])));
    }

    pub listed-unused : at ≡ 0 → (left ≡ 0 → ⊥) → (x f : ℕ) → x ≡ i + 1 → f ≡ or_else first x → ListedTo arcs seen (list ++ (x ∷ [])) (i + 1) x f (left - 1) used
    listed-unused z nz x f ex ef = rw (ef, ex) (record {
      leaving = below_more _ i (λ j q v m. has_left list (i + 1) (j + 1) (h.leaving j q v m)) (λ v m. absurd (v z));
      free = below_more _ i (λ j q b y. has_left list (i + 1) (j + 1) (h.free j q (λ e. absurd (nz e)) y)) (λ b y. has_last list (i + 1));
      reached = omega arith;
      before = go (ℕ_discrete first 0);
      none = λ e. absurd (later e (ℕ_discrete first 0));
      rising = rising-more list used i h.rising;
      taken_none = λ k a b. at_place (λ (y : ℕ). cell arcs y 0 ≡ 0) list (i + 1) k b (h.taken_none k a) here;
    })
      where
        here : cell arcs (i + 1) 0 ≡ 0
        here = row-source i ∙ z

        go : Dec (first ≡ 0) → (j : ℕ) → j + 1 < or_else first (i + 1) → unused (get_or arcs j []) ≡ false
        go (yes e) = rw (eq-eqb first 0 e) (λ j q. h.none e nz j (omega arith))
        go (no ne) = rw (ne_eqb first 0 ne) h.before

        later : or_else first (i + 1) ≡ 0 → Dec (first ≡ 0) → ⊥
        later e (yes q) = let y : i + 1 ≡ 0 = rw (eq-eqb first 0 q) at e in omega arith
        later e (no q) = q (rw (ne_eqb first 0 q) at e)

  -- ---- many rows, and all

  pub listed-run : (list : List ℕ) (i r spare first left used : ℕ) → Onward arcs seen left i r → ListedTo arcs seen list i spare first left used → ListedTo arcs seen list r spare first left used
  listed-run list i r spare first left used o = over-run (λ (j : ℕ). ListedTo arcs seen list j spare first left used) i r o.0 (λ j a b h. listed-skip list j spare first left used h (o.1.1 j a b))

  listed-end : (list : List ℕ) (i spare first left used : ℕ) → i ≤ length arcs → length arcs ≤ i → ListedTo arcs seen list i spare first left used → Listing arcs seen list spare used
  listed-end list i spare first left used most all h = record { leaving = leaving; free = free; rising = rising-later list used i (length arcs) most h.rising; ends = λ k j a b c z. h.taken_none j (omega arith) c }
    where
      back : (x : ℕ) → 1 ≤ x → has list (x - 1 + 1) ≡ true → has list x ≡ true
      back x l q = let w : x - 1 + 1 ≡ x = omega arith in rw w at q

      leaving : (x : ℕ) → x ≤ length arcs → (cell arcs x 0 ≡ 0 → ⊥) → is_marked seen (cell arcs x 0) ≡ true → has list x ≡ true
      leaving x l u m =
          let s = some-link arcs x u in
          back x s (h.leaving (x - 1) (omega (arith, s)) (λ z. u (named x s ∙ z)) (subst (λ (v : ℕ). is_marked seen v ≡ true) (named x s) m))

      free : (x : ℕ) → 1 ≤ x → x ≤ spare → cell arcs x 0 ≡ 0 → has list x ≡ true
      free x s l z = back x s (h.free (x - 1) (omega (arith, h.reached)) (λ e. omega arith) (sym (named x s) ∙ z))

-- ---- what an edit knows, row by row

module _ (arcs : Table) (by : Nearby) (i left : ℕ) (h : Met arcs by i left) where
  abbrev s : ℕ
  s = get_or (get_or arcs i []) 0 0

  abbrev put : List ℕ
  put = set by.links by.len (i + 1)

  module _ (few : by.len < 1024) where
    pub met-used : length by.links ≡ 2176 → (s ≡ 0 → ⊥) → Met arcs (record {
      seen = by.seen;
      links = cond (eqb by.chained by.len) (chained_at put by.len s) put;
      len = by.len + 1;
      spare = by.spare;
      first = by.first;
      used = by.len + 1;
      chained = cond (eqb by.chained by.len) (by.len + 1) by.chained;
    }) (i + 1) left
    met-used size used =
        let kept = used-chained by.links by.len by.chained (i + 1) s few size arcs (row-source arcs by.seen i) used h.most h.chained in
        record {
          listed = rw (used-listed by.links by.len by.chained (i + 1) s few size) (listed-used arcs by.seen (take by.len by.links) i by.spare by.first left by.used h.listed used by.len (omega (arith, length-take by.len by.links)));
          most = kept.0;
          chained = kept.1;
        }

    pub met-skip : s ≡ 0 → left ≡ 0 → Met arcs (record { seen = by.seen; links = put; len = by.len; spare = by.spare; first = by.first; used = by.used; chained = by.chained }) (i + 1) 0
    met-skip z e = rw (sym e) (record {
      listed = rw (take-set-le by.len by.links by.len (i + 1) (le_refl by.len)) (listed-skip arcs by.seen (take by.len by.links) i by.spare by.first left by.used h.listed (λ u. absurd (u z), λ nz. absurd (nz e)));
      most = h.most;
      chained = chained-put arcs by.links by.len by.chained (i + 1) few h.most h.chained;
    })

    pub met-unused : length by.links ≡ 2176 → s ≡ 0 → (left ≡ 0 → ⊥) → (f : ℕ) → f ≡ or_else by.first (i + 1) → Met arcs (record { seen = by.seen; links = put; len = by.len + 1; spare = i + 1; first = f; used = by.used; chained = by.chained }) (i + 1) (left - 1)
    met-unused size z nz f ef = record {
      listed = rw (one_written by.links by.len (i + 1) (omega (arith, size))) (listed-unused arcs by.seen (take by.len by.links) i by.spare by.first left by.used h.listed z nz (i + 1) f refl ef);
      most = omega (arith, h.most);
      chained = chained-put arcs by.links by.len by.chained (i + 1) few h.most h.chained;
    }

  pub met-run : (r : ℕ) → Onward arcs by.seen left i r → Met arcs by r left
  met-run r o = record { listed = listed-run arcs by.seen (take by.len by.links) i r by.spare by.first left by.used o h.listed; most = h.most; chained = h.chained }

  pub met-end : i ≤ length arcs → length arcs ≤ i → Near arcs by
  met-end most all one on e = (listed-end arcs by.seen (take by.len by.links) i by.spare by.first left by.used most all h.listed, (h.most, h.chained))
