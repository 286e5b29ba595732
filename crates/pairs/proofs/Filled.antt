-- The list of arcs near an edit stays true as arcs are made, while its spare row is unused. Tables that were filled up one after the other.
use Prim.Native.Nat.{ℕ, ◌≤◌, ◌<◌}
use native.Mathlib.Nat.{le_refl}
use native.Mathlib.Omega.{arith}
use native.Mathlib.Decide.{ℕ_discrete, dec_lt}
use mathlib.Core.Path.{◌≡◌, sym, ◌∙◌, subst}
use mathlib.Core.Bool.{true}
use mathlib.Core.List.{List}
use lib.ListN.{length, get_or, take}
use Rattle.rules.specs.Table.{Table, cell, has}
use Rattle.pairs.specs.Near.{is_marked, Listing, Near, FilledUp, Chained}
use Rattle.pairs.specs.declared.near.Nearby.{Nearby}
use Rattle.pairs.proofs.Chains.{chained-stays}

-- ---- tables filled up

pub filled-same : (t n : Table) → length n ≡ length t → ((x : ℕ) → cell n x 0 ≡ cell t x 0) → FilledUp t n
filled-same t n size same = record { rows = size; stays = λ x u. same x; beyond = λ s x a b e l. same x }

pub filled_trans : (t n o : Table) → FilledUp t n → FilledUp n o → FilledUp t o
filled_trans t n o f g = record {
  rows = g.rows ∙ f.rows;
  stays = λ x u. g.stays x (λ e. u (sym (f.stays x u) ∙ e)) ∙ f.stays x u;
  beyond = λ s x a b e l. g.beyond s x a (omega (arith, f.rows)) e l ∙ f.beyond s x a b (sym (g.beyond s s a (omega (arith, f.rows)) e (le_refl s)) ∙ e) l;
}

-- ---- the list

-- a link of a used row is not 0
pub some-link : (t : Table) (x : ℕ) → (cell t x 0 ≡ 0 → ⊥) → 1 ≤ x
unfolding cell
some-link t x u = go (ℕ_discrete x 0)
  where
    go : Dec (x ≡ 0) → 1 ≤ x
    go (yes z) = absurd (u (rw z))
    go (no nz) = omega arith

pub near-stays : (t n : Table) (by : Nearby) → FilledUp t n → Near t by → Near n by
near-stays t n by f h one on e = (
  record {
    leaving = λ x l u m. from x u m (ℕ_discrete (cell t x 0) 0) (dec_lt x spare) l;
    free = λ x a l z. was.free x a l (sym (f.beyond x x a (omega (arith, f.rows)) z (le_refl x)) ∙ z);
    rising = record { named = λ k a l. subst (λ (i : ℕ). (1 ≤ get_or list k 0) × (get_or list k 0 ≤ i)) (sym f.rows) (was.rising.named k a l); ordered = was.rising.ordered };
    ends = λ k j a l b z.
        let x = get_or list k 0 in
        let is = was.rising.named k a (omega arith) in
        f.beyond x (get_or list j 0) is.0 is.1 z (was.rising.ordered k j a l b) ∙ was.ends k j a l b (sym (f.beyond x x is.0 is.1 z (le_refl x)) ∙ z);
  },
  (start.1.0, chained-stays t n by.links by.chained f start.1.1),
)
  where
    list : List ℕ
    list = take by.len by.links

    spare : ℕ
    spare = by.spare

    start : Listing t by.seen list spare by.used × ((by.chained ≤ by.len) × Chained t by.links by.chained)
    start = h one (omega (arith, f.rows)) (sym (f.beyond spare spare one (omega (arith, f.rows)) e (le_refl spare)) ∙ e)

    was : Listing t by.seen list spare by.used
    was = start.0

    from : (x : ℕ) → (cell n x 0 ≡ 0 → ⊥) → is_marked by.seen (cell n x 0) ≡ true → Dec (cell t x 0 ≡ 0) → Dec (x < spare) → x ≤ length n → has list x ≡ true
    from x u m (no v) d l = was.leaving x (omega (arith, f.rows)) v (subst (λ (s : ℕ). is_marked by.seen s ≡ true) (f.stays x v) m)
    from x u m (yes z) (yes q) l = was.free x (some-link n x u) (omega arith) z
    from x u m (yes z) (no q) l = absurd (u (f.beyond spare x one (omega (arith, f.rows)) e (omega arith) ∙ z))
