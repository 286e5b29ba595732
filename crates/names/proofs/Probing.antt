-- Slots lie in the table of slots, and one turn of a lookup.
use Prim.Native.Nat.{ℕ, suc, ◌<◌}
use native.Mathlib.Nat.{mod-lt, zero-lt-suc}
use mathlib.Core.Path.{◌≡◌}
use mathlib.Core.List.{List}
use lib.ListN.{get_or}
use borrow.Author.Tests.{eq-eqb, ne_eqb}
use Rattle.names.specs.Slots.{part_of, slot_of, slot_after, name_of, probe}

pub slot-of-below : (name : ℕ) → slot_of name < 8192
unfolding slot_of
slot-of-below name = mod-lt _ (zero-lt-suc 8191)

pub slot-after-below : (slot : ℕ) → slot_after slot < 8192
unfolding slot_after
slot-after-below slot = mod-lt _ (zero-lt-suc 8191)

module _ (slots names : List ℕ) (name slot : ℕ) where
  abbrev row : ℕ
  row = get_or slots slot 0

  -- some slots are left
  module _ (left k : ℕ) (more : left ≡ suc k) where
    pub probe-none : row ≡ 0 → probe slots names name left slot ≡ 0
    unfolding probe
    probe-none e = rw (more, eq-eqb _ _ e)

    pub probe-here : (row ≡ 0 → ⊥) → name_of names row ≡ name → probe slots names name left slot ≡ row
    unfolding probe
    probe-here n e = rw (more, ne_eqb _ _ n, eq-eqb _ _ e)

    pub probe-on : (row ≡ 0 → ⊥) → (name_of names row ≡ name → ⊥) → probe slots names name left slot ≡ probe slots names name k (slot_after slot)
    unfolding probe
    probe-on n e = rw (more, ne_eqb _ _ n, ne_eqb _ _ e)

  pub probe-end : (left : ℕ) → left ≡ 0 → probe slots names name left slot ≡ 0
  unfolding probe
  probe-end left e = rw e

-- there are two parts
pub two-parts : (name : ℕ) → part_of name < 2
unfolding part_of
two-parts name = mod-lt _ (zero-lt-suc 1)
