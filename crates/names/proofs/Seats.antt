-- A row put into a free slot: its name finds it there, and every name that found its row before still does.
use Prim.Native.Nat.{ℕ, zero, suc, ◌+◌, ◌-◌, ◌<◌}
use native.Mathlib.Omega.{arith}
use native.Mathlib.Decide.{ℕ_discrete}
use mathlib.Core.Path.{◌≡◌, refl, ap, sym, ◌∙◌}
use mathlib.Core.Bool.{true}
use mathlib.Core.List.{List}
use lib.ListN.{length, get_or, set}
use lib.Seq.{get_or-set_same, get_or-set_other}
use lib.Dec.{eqb→eq}
use borrow.Author.Tests.{ne_eqb, le-ltb}
use Rattle.rules.proofs.Sums.{all-at, or_cases, or_l, or_r}
use Rattle.proved.proofs.Rows.{T_true, true-T, same-T, all_from}
use Rattle.std.specs.Prelude.{Some}
use Rattle.names.specs.Slots.{passed_by, slot_of, slot_after, name_of, probe, look_in, finds, Seat, EndsAt}
use Rattle.names.proofs.Loops.{Passed, one_more}
use Rattle.names.proofs.Probing.{probe-none, probe-here, probe-on, probe-end}

module _ (slots names : List ℕ) where
  -- a slot that is taken is not the free one
  taken : (s v slot : ℕ) → get_or slots s 0 ≡ 0 → (get_or slots slot 0 ≡ 0 → ⊥) → get_or (set slots s v) slot 0 ≡ get_or slots slot 0
  taken s v slot z n = get_or-set_other slots s slot v 0 (λ e. n (ap (λ (k : ℕ). get_or slots k 0) e ∙ z))

  -- ---- the search for the slot

  -- whatever is put into a free slot, the lookup of the name comes to this one
  abbrev pub Reach : ℕ → ℕ → ℕ → Type 0
  Reach name left slot = (s v : ℕ) → get_or slots s 0 ≡ 0 → look_in (set slots s v) names name ≡ probe (set slots s v) names name left slot

  pub reach-start : (name : ℕ) → Reach name 128 (slot_of name)
  unfolding look_in
  reach-start name s v z = refl

  module _ (name left k slot : ℕ) (more : left ≡ suc k) (h : Reach name left slot) where
    pub reach-on : (get_or slots slot 0 ≡ 0 → ⊥) → (name_of names (get_or slots slot 0) ≡ name → ⊥) → Reach name k (slot_after slot)
    reach-on n d s v z =
        let o = taken s v slot z n in
        h s v z ∙ probe-on (set slots s v) names name slot left k more (λ e. n (sym o ∙ e)) (λ e. d (ap (name_of names) (sym o) ∙ e))

    pub reach-seat : slot < length slots → get_or slots slot 0 ≡ 0 → Seat slots names name slot
    reach-seat l z =
        (z, λ v n e. let o = get_or-set_same slots slot v 0 l in h slot v z ∙ probe-here (set slots slot v) names name slot left k more (λ q. n (sym o ∙ q)) (ap (name_of names) o ∙ e) ∙ o)

  -- and so does the lookup in the slots as they are
  abbrev pub Search : ℕ → ℕ → ℕ → Type 0
  Search name left slot = (look_in slots names name ≡ probe slots names name left slot) × Reach name left slot

  pub search-start : (name : ℕ) → Search name 128 (slot_of name)
  unfolding look_in
  search-start name = (refl, reach-start name)

  pub search-end : (name left slot : ℕ) → left ≡ 0 → Search name left slot → look_in slots names name ≡ 0
  search-end name left slot z h = h.0 ∙ probe-end slots names name slot left z

  module _ (name left k slot : ℕ) (more : left ≡ suc k) (low : slot < 8192) (h : Search name left slot) where
    pub search-on : (get_or slots slot 0 ≡ 0 → ⊥) → (name_of names (get_or slots slot 0) ≡ name → ⊥) → Search name k (slot_after slot)
    search-on n d = (h.0 ∙ probe-on slots names name slot left k more n d, reach-on name left k slot more h.1 n d)

    pub search-free : length slots ≡ 8192 → get_or slots slot 0 ≡ 0 → EndsAt slots names name (Some slot)
    search-free l z = (low, (h.0 ∙ probe-none slots names name slot left k more z ∙ sym z, reach-seat name left k slot more h.1 (omega arith)))

    pub search-met : (get_or slots slot 0 ≡ 0 → ⊥) → name_of names (get_or slots slot 0) ≡ name → EndsAt slots names name (Some slot)
    search-met n e = (low, (h.0 ∙ probe-here slots names name slot left k more n e, λ z. absurd (n z)))

  -- ---- what was found is found

  module _ (s v : ℕ) (free : get_or slots s 0 ≡ 0) where
    probe-kept : (name left slot r : ℕ) → (r ≡ 0 → ⊥) → probe slots names name left slot ≡ r → probe (set slots s v) names name left slot ≡ r
    unfolding probe
    probe-kept name zero slot r n e = absurd (n (sym e))
    probe-kept name (suc k) slot r n e =
        go (ℕ_discrete (get_or slots slot 0) 0) (ℕ_discrete (name_of names (get_or slots slot 0)) name) (probe-kept name k (slot_after slot) r n)
      where
        go : Dec (get_or slots slot 0 ≡ 0) → Dec (name_of names (get_or slots slot 0) ≡ name) → (probe slots names name k (slot_after slot) ≡ r → probe (set slots s v) names name k (slot_after slot) ≡ r) → probe (set slots s v) names name (suc k) slot ≡ r
        go (yes z) d ih = absurd (n (sym e ∙ probe-none slots names name slot (suc k) k refl z))
        go (no z) (yes d) ih =
            let o = taken s v slot free z in
            probe-here (set slots s v) names name slot (suc k) k refl (λ q. z (sym o ∙ q)) (ap (name_of names) o ∙ d) ∙ o ∙ sym (probe-here slots names name slot (suc k) k refl z d) ∙ e
        go (no z) (no d) ih =
            let o = taken s v slot free z in
            probe-on (set slots s v) names name slot (suc k) k refl (λ q. z (sym o ∙ q)) (λ q. d (ap (name_of names) (sym o) ∙ q)) ∙ ih (sym (probe-on slots names name slot (suc k) k refl z d) ∙ e)

    module _ (part : ℕ) where
      finds-kept : (j : ℕ) → finds slots names part j ≡ true → finds (set slots s v) names part j ≡ true
      unfolding finds look_in
      finds-kept j h = T_true _ (or_cases (passed_by part (get_or names j 0)) _ (true-T h) (λ t. or_l (passed_by part (get_or names j 0)) _ t) (λ t. or_r (passed_by part (get_or names j 0)) _ (same-T _ _ (probe-kept (get_or names j 0) 128 (slot_of (get_or names j 0)) (j + 1) (λ z. omega arith) (eqb→eq _ _ t)))))

      all-kept : (i : ℕ) → Passed (finds slots names part) i → Passed (finds (set slots s v) names part) i
      all-kept i h = T_true _ (all_from (finds (set slots s v) names part) i (λ k l. true-T (finds-kept k (T_true _ (all-at (finds slots names part) i (true-T h) k l)))))

  -- ---- one row further

  module _ (part i : ℕ) (h : Passed (finds slots names part) i) where
    pub none-seated : passed_by part (get_or names i 0) ≡ true → Passed (finds slots names part) (i + 1)
    unfolding finds
    none-seated e = one_more (finds slots names part) i h (T_true _ (or_l (passed_by part (get_or names i 0)) _ (true-T e)))

    row-name : i < 8192 → name_of names (i + 1) ≡ get_or names i 0
    unfolding name_of
    row-name l = let k : i + 1 - 1 ≡ i = omega arith in rw (ne_eqb (i + 1) 0 (λ z. omega arith), le-ltb 8192 (i + 1) (omega arith), k)

    pub one-seated : (s : ℕ) → i < 8192 → Seat slots names (get_or names i 0) s → Passed (finds (set slots s (i + 1)) names part) (i + 1)
    unfolding finds
    one-seated s l t =
        one_more (finds (set slots s (i + 1)) names part) i (all-kept s (i + 1) t.0 part i h) (T_true _ (or_r (passed_by part (get_or names i 0)) _ (same-T _ _ (t.1 (i + 1) (λ z. omega arith) (row-name l)))))
