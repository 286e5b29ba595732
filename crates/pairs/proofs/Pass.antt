-- One pass over the arc table finds the arcs of all pairs: what it has told after so many rows, row by row, and at its end.
use Prim.Native.Nat.{ℕ, zero, suc, ◌+◌, ◌%◌, ◌≤◌, ◌<◌}
use native.Mathlib.Nat.{not-suc-le-zero}
use native.Mathlib.Omega.{arith}
use native.Mathlib.Decide.{ℕ_discrete, dec_lt}
use mathlib.Core.Path.{◌≡◌, refl, ap, sym, ◌∙◌}
use mathlib.Core.Bool.{Bool, true, false, cond, ◌&&◌}
use mathlib.Core.List.{List, []}
use lib.ListN.{length, get_or, set, replicate, length-set, length-replicate}
use lib.Seq.{get_or-set_same, get_or-set_other, ext_get_or}
use lib.Dec.{eqb}
use borrow.Author.Count.{below_none, below_more}
use borrow.Author.Tests.{eq-eqb, ne_eqb, eqb-true, eqb-false}
use Rattle.rules.specs.Table.{Table, up_to, after, or_else, first_row, link_into, row_limit}
use Rattle.rules.specs.Mesh.{joins, arc_between, places_of, links_of}
use Rattle.rules.proofs.Scan.{joins-no-source}
use Rattle.rules.proofs.Places.{place_is, places-length}
use Rattle.tables.proofs.Runs.{over-run}
use Rattle.tables.proofs.Scans.{Missed, into-found, into-none, into-large}
use Rattle.pairs.specs.Pairs.{pair_arc, arcs_of, mark_count, marked_at, marks_of, NoMarks, is_pair, note_at, noted}
use Rattle.pairs.proofs.Steps.{mark_at}
use Rattle.pairs.proofs.Listed.{arcs-length, arcs-at, arcs-past}

-- ---- marks

module _ (l : List ℕ) where
  marked : ℕ → List Bool
  marked k = up_to (mark_at l) k (replicate mark_count false)

  marked-length : (k : ℕ) → length (marked k) ≡ mark_count
  unfolding up_to marked
  marked-length zero = length-replicate {A = Bool} mark_count false
  marked-length (suc k) = length-set (marked k) (get_or l k 0 % mark_count) true ∙ marked-length k

  marked-at : (k i : ℕ) → i < k → get_or (marked k) (get_or l i 0 % mark_count) false ≡ true
  unfolding up_to marked
  marked-at zero i q = absurd (not-suc-le-zero q)
  marked-at (suc k) i q = go (marked-at k i) (ℕ_discrete (get_or l i 0 % mark_count) (get_or l k 0 % mark_count))
    where
      go : (i < k → get_or (marked k) (get_or l i 0 % mark_count) false ≡ true) → Dec (get_or l i 0 % mark_count ≡ get_or l k 0 % mark_count) → get_or (set (marked k) (get_or l k 0 % mark_count) true) (get_or l i 0 % mark_count) false ≡ true
      go ih (yes e) = ap (λ (p : ℕ). get_or (set (marked k) (get_or l k 0 % mark_count) true) p false) e ∙ get_or-set_same (marked k) (get_or l k 0 % mark_count) true false (omega (arith, marked-length k))
      go ih (no ne) =
          let before : i ≡ k → ⊥ = λ e. ne (ap (λ (j : ℕ). get_or l j 0 % mark_count) e) in
          get_or-set_other (marked k) (get_or l k 0 % mark_count) (get_or l i 0 % mark_count) true false ne ∙ ih (omega arith)

  -- a number with no mark at its remainder is not in the list
  pub unmarked : (x : ℕ) → get_or (marks_of l) (x % mark_count) false ≡ false → (i : ℕ) → i < length l → x ≡ get_or l i 0 → ⊥
  unfolding marks_of marked_at marked
  unmarked x h i q e =
      let is : get_or (marked (length l)) (x % mark_count) false ≡ true = ap (λ (y : ℕ). get_or (marked (length l)) (y % mark_count) false) e ∙ marked-at (length l) i q in
      let z : ◌≡◌ {A = ℕ} 0 1 = ap (λ (b : Bool). cond b 1 0) (sym h ∙ is) in
      omega arith

-- ---- an arc noted at its pairs

module _ (per : List ℕ) (s d x : ℕ) where
  -- what stands at a place then
  abbrev told : Bool → ℕ → ℕ
  told b y = cond b (or_else y x) y

  note-length : (at : List ℕ) (i : ℕ) → length (note_at per s d x i at) ≡ length at
  unfolding note_at
  note-length at i = go (is_pair per i s d)
    where
      go : (b : Bool) → length (cond b (set at i (or_else (get_or at i 0) x)) at) ≡ length at
      go true = length-set at i (or_else (get_or at i 0) x)
      go false = refl

  note-same : (at : List ℕ) (i : ℕ) → i < length at → get_or (note_at per s d x i at) i 0 ≡ told (is_pair per i s d) (get_or at i 0)
  unfolding note_at
  note-same at i q = go (is_pair per i s d)
    where
      go : (b : Bool) → get_or (cond b (set at i (or_else (get_or at i 0) x)) at) i 0 ≡ told b (get_or at i 0)
      go true = get_or-set_same at i (or_else (get_or at i 0) x) 0 q
      go false = refl

  note-other : (at : List ℕ) (j i : ℕ) → (i ≡ j → ⊥) → get_or (note_at per s d x j at) i 0 ≡ get_or at i 0
  unfolding note_at
  note-other at j i ne = go (is_pair per j s d)
    where
      go : (b : Bool) → get_or (cond b (set at j (or_else (get_or at j 0) x)) at) i 0 ≡ get_or at i 0
      go true = get_or-set_other at j i (or_else (get_or at j 0) x) 0 ne
      go false = refl

  all-length : (at : List ℕ) (m : ℕ) → length (up_to (note_at per s d x) m at) ≡ length at
  unfolding up_to
  all-length at zero = refl
  all-length at (suc m) = note-length (up_to (note_at per s d x) m at) m ∙ all-length at m

  all_past : (at : List ℕ) (m i : ℕ) → m ≤ i → get_or (up_to (note_at per s d x) m at) i 0 ≡ get_or at i 0
  unfolding up_to
  all_past at zero i q = refl
  all_past at (suc m) i q = note-other (up_to (note_at per s d x) m at) m i (λ e. omega arith) ∙ all_past at m i (omega arith)

  all-at : (at : List ℕ) (m i : ℕ) → i < m → i < length at → get_or (up_to (note_at per s d x) m at) i 0 ≡ told (is_pair per i s d) (get_or at i 0)
  unfolding up_to
  all-at at zero i q h = absurd (not-suc-le-zero q)
  all-at at (suc m) i q h = go (λ l. all-at at m i l h) (ℕ_discrete i m)
    where
      go : (i < m → get_or (up_to (note_at per s d x) m at) i 0 ≡ told (is_pair per i s d) (get_or at i 0)) → Dec (i ≡ m) → get_or (note_at per s d x m (up_to (note_at per s d x) m at)) i 0 ≡ told (is_pair per i s d) (get_or at i 0)
      go ih (yes e) =
          let before : List ℕ = up_to (note_at per s d x) m at in
          ap (λ (k : ℕ). get_or (note_at per s d x k before) i 0) (sym e) ∙ note-same before i (omega (arith, all-length at m)) ∙ ap (told (is_pair per i s d)) (all_past at m i (omega arith))
      go ih (no ne) = note-other (up_to (note_at per s d x) m at) m i ne ∙ ih (omega arith)

  noted-length : (at : List ℕ) → length (noted per s d x at) ≡ length at
  unfolding noted
  noted-length at = go (eqb s 0)
    where
      go : (b : Bool) → length (cond b at (up_to (note_at per s d x) (length per) at)) ≡ length at
      go true = refl
      go false = all-length at (length per)

  noted-past : (at : List ℕ) (i : ℕ) → length per ≤ i → get_or (noted per s d x at) i 0 ≡ get_or at i 0
  unfolding noted
  noted-past at i q = go (eqb s 0)
    where
      go : (b : Bool) → get_or (cond b at (up_to (note_at per s d x) (length per) at)) i 0 ≡ get_or at i 0
      go true = refl
      go false = all_past at (length per) i q

  noted-at : (at : List ℕ) (i : ℕ) → i < length per → i < length at → get_or (noted per s d x at) i 0 ≡ cond (eqb s 0) (get_or at i 0) (told (is_pair per i s d) (get_or at i 0))
  unfolding noted
  noted-at at i q h = go (eqb s 0)
    where
      go : (b : Bool) → get_or (cond b at (up_to (note_at per s d x) (length per) at)) i 0 ≡ cond b (get_or at i 0) (told (is_pair per i s d) (get_or at i 0))
      go true = refl
      go false = all-at at (length per) i q h

-- ---- one pair

pub joined : (a b : ℕ) (r : List ℕ) → joins a b r ≡ true → get_or r 0 0 ≡ a
joined a b r h = go (eqb (get_or r 0 0) a) refl h
  where
    go : (t : Bool) → eqb (get_or r 0 0) a ≡ t → (t && eqb (get_or r 1 0) b) ≡ true → get_or r 0 0 ≡ a
    go true e q = eqb-true (get_or r 0 0) a e
    go false e q =
        let z : ◌≡◌ {A = ℕ} 0 1 = ap (λ (b : Bool). cond b 1 0) q in
        absurd (omega arith)

-- after k rows its place holds its arc, or 0 where none of them joins its ends

module _ (arcs : Table) (a b : ℕ) where
  pub record Told (k x : ℕ) : Type 0 where
    pub none : x ≡ 0 → (a ≡ 0 → ⊥) → Missed (joins a b) arcs [] k
    pub some : (x ≡ 0 → ⊥) → x ≡ arc_between arcs a b

  pub from-none : a ≡ 0 → 0 ≡ arc_between arcs a b
  unfolding arc_between
  from-none z = rw (eq-eqb a 0 z)

  pub from_some : (a ≡ 0 → ⊥) → link_into arcs (first_row (joins a b) arcs) ≡ arc_between arcs a b
  unfolding arc_between
  from_some na = rw (ne_eqb a 0 na)

  told-start : Told 0 0
  told-start = record { none = λ z na. below_none _; some = λ nz. absurd (nz refl) }

  told-skip : (k x : ℕ) → ((a ≡ 0 → ⊥) → joins a b (get_or arcs k []) ≡ false) → Told k x → Told (k + 1) x
  told-skip k x h t = record { none = λ z na. below_more _ _ (t.none z na) (h na); some = t.some }

  told_here : (k x : ℕ) → length arcs ≤ row_limit → k < length arcs → (a ≡ 0 → ⊥) → joins a b (get_or arcs k []) ≡ true → Told k x → Told (k + 1) (or_else x (k + 1))
  told_here k x fits q na h t = go (ℕ_discrete x 0)
    where
      is : x ≡ 0 → k + 1 ≡ arc_between arcs a b
      is z = into-found (joins a b) arcs [] k fits q (t.none z na) h ∙ from_some na

      go : Dec (x ≡ 0) → Told (k + 1) (or_else x (k + 1))
      go (yes z) = rw (eq-eqb x 0 z) (record { none = λ e. absurd (omega arith); some = λ e. is z })
      go (no nz) = rw (ne_eqb x 0 nz) (record { none = λ e. absurd (nz e); some = t.some })

  told-row : (k x : ℕ) → length arcs ≤ row_limit → k < length arcs → Told k x → Told (k + 1) (cond (eqb (get_or (get_or arcs k []) 0 0) 0) x (cond (joins a b (get_or arcs k [])) (or_else x (k + 1)) x))
  told-row k x fits q t = go (eqb (get_or (get_or arcs k []) 0 0) 0) refl (joins a b (get_or arcs k [])) refl
    where
      go : (z : Bool) → eqb (get_or (get_or arcs k []) 0 0) 0 ≡ z → (j : Bool) → joins a b (get_or arcs k []) ≡ j → Told (k + 1) (cond z x (cond j (or_else x (k + 1)) x))
      go true ez j ej = told-skip k x (λ na. joins-no-source a b (get_or arcs k []) (λ e. na (sym e ∙ eqb-true _ _ ez))) t
      go false ez true ej = told_here k x fits q (λ z. eqb-false _ _ ez (joined a b (get_or arcs k []) ej ∙ z)) ej t
      go false ez false ej = told-skip k x (λ na. ej) t

  told-end : (k x : ℕ) → length arcs ≤ k → Told k x → x ≡ arc_between arcs a b
  told-end k x q t = go (ℕ_discrete x 0) (ℕ_discrete a 0)
    where
      go : Dec (x ≡ 0) → Dec (a ≡ 0) → x ≡ arc_between arcs a b
      go (yes z) (yes za) = z ∙ from-none za
      go (yes z) (no na) = z ∙ into-none (joins a b) arcs [] k q (t.none z na) ∙ from_some na
      go (no nz) d = t.some nz

-- ---- all pairs

abbrev pub from : List ℕ → ℕ → ℕ
from per i = get_or per i 0

abbrev pub to : List ℕ → ℕ → ℕ
to per i = get_or per (after (length per) i) 0

-- the places as the code holds them, pair by pair
pub places-told : (arcs : Table) (per at : List ℕ) (n : ℕ) → n ≡ length per → length per ≤ 64 → length at ≡ 64 → ((i : ℕ) → i < length per → get_or at i 0 ≡ arc_between arcs (from per i) (to per i)) → ((i : ℕ) → length per ≤ i → get_or at i 0 ≡ 0) → record { at = at; len = n } ≡ links_of (arcs_of arcs per)
unfolding links_of pair_arc
places-told arcs per at n e few size is clear =
    let many : n ≡ length (arcs_of arcs per) = e ∙ sym (arcs-length arcs per) in
    let same : at ≡ places_of (arcs_of arcs per) = ext_get_or 0 at (places_of (arcs_of arcs per)) (size ∙ sym (places-length (arcs_of arcs per))) (λ i q. here i (dec_lt i (length per)) ∙ sym (place_is (arcs_of arcs per) (omega (arith, arcs-length arcs per)) i)) in
    λ j. record { at = same j; len = many j }
  where
    here : (i : ℕ) → Dec (i < length per) → get_or at i 0 ≡ get_or (arcs_of arcs per) i 0
    here i (yes q) = is i q ∙ sym (arcs-at arcs per i q)
    here i (no nq) = clear i (omega arith) ∙ sym (arcs-past arcs per i (omega arith))

pub zeros : (i : ℕ) → ◌≡◌ {A = ℕ} (get_or (replicate 64 0) i 0) 0
unfolding places_of
zeros i = place_is [] (omega arith) i

module _ (arcs : Table) (per : List ℕ) where
  -- after k rows
  pub record Passed (k : ℕ) (at : List ℕ) : Type 0 where
    pub size : length at ≡ 64
    pub told : (i : ℕ) → i < length per → Told arcs (from per i) (to per i) k (get_or at i 0)
    pub clear : (i : ℕ) → length per ≤ i → get_or at i 0 ≡ 0

  pub pass-start : Passed 0 (replicate 64 0)
  pass-start = record { size = length-replicate {A = ℕ} 64 0; told = λ i q. rw (zeros i) (told-start arcs (from per i) (to per i)); clear = λ i q. zeros i }

  -- a row whose source has no mark joins no pair
  pass-skip : (k : ℕ) (at : List ℕ) → get_or (marks_of per) (get_or (get_or arcs k []) 0 0 % mark_count) false ≡ false → Passed k at → Passed (k + 1) at
  pass-skip k at absent p = record {
    size = p.size;
    told = λ i q. told-skip arcs (from per i) (to per i) k (get_or at i 0) (λ na. joins-no-source (from per i) (to per i) (get_or arcs k []) (unmarked per (get_or (get_or arcs k []) 0 0) absent i q)) (p.told i q);
    clear = p.clear;
  }

  pub pass-run : (k r : ℕ) (at : List ℕ) (seen : List Bool) → seen ≡ marks_of per → k ≤ r → NoMarks arcs seen k r → Passed k at → Passed r at
  pass-run k r at seen em l h = over-run (λ (j : ℕ). Passed j at) k r l (λ j a b. pass-skip j at (rw (← em) (h j a b)))

  pub pass-note : (k : ℕ) (at at₁ : List ℕ) → length per ≤ 64 → length arcs ≤ row_limit → k < length arcs → at₁ ≡ noted per (get_or (get_or arcs k []) 0 0) (get_or (get_or arcs k []) 1 0) (k + 1) at → Passed k at → Passed (k + 1) at₁
  unfolding is_pair
  pass-note k at at₁ few fits q e p =
      let s : ℕ = get_or (get_or arcs k []) 0 0 in
      let d : ℕ = get_or (get_or arcs k []) 1 0 in
      rw e (record {
        size = noted-length per s d (k + 1) at ∙ p.size;
        told = λ i l. rw (noted-at per s d (k + 1) at i l (omega (arith, p.size))) (told-row arcs (from per i) (to per i) k (get_or at i 0) fits q (p.told i l));
        clear = λ i l. noted-past per s d (k + 1) at i l ∙ p.clear i l;
      })

  pub pass-end : (k : ℕ) (at : List ℕ) (n : ℕ) → n ≡ length per → length per ≤ 64 → length arcs ≤ k → Passed k at → record { at = at; len = n } ≡ links_of (arcs_of arcs per)
  pass-end k at n e few q p = places-told arcs per at n e few p.size (λ i l. told-end arcs (from per i) (to per i) k (get_or at i 0) q (p.told i l)) p.clear

  -- a table over the limit has no arcs to give
  pub pass-large : (n : ℕ) → n ≡ length per → length per ≤ 64 → row_limit < length arcs → record { at = replicate 64 0; len = n } ≡ links_of (arcs_of arcs per)
  pass-large n e few large = places-told arcs per (replicate 64 0) n e few (length-replicate {A = ℕ} 64 0) (λ i l. zeros i ∙ none (from per i) (to per i) (ℕ_discrete (from per i) 0)) (λ i l. zeros i)
    where
      none : (a b : ℕ) → Dec (a ≡ 0) → 0 ≡ arc_between arcs a b
      none a b (yes z) = from-none arcs a b z
      none a b (no na) = into-large arcs (first_row (joins a b) arcs) large ∙ from_some arcs a b na
