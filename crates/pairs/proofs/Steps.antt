-- One turn of each loop of the pass.
use Prim.Native.Nat.{ℕ, ◌+◌, ◌%◌, ◌<◌}
use native.Mathlib.Omega.{arith}
use mathlib.Core.Path.{◌≡◌, sym, ◌∙◌}
use mathlib.Core.Bool.{Bool, true, false}
use mathlib.Core.List.{List}
use lib.ListN.{length, get_or, set, length-take}
use lib.Dec.{eqb}
use borrow.Author.Tests.{eq-eqb, ne_eqb}
use Rattle.rules.specs.declared.Links.{Links}
use Rattle.rules.specs.Table.{up_to, after, or_else}
use Rattle.rules.specs.Mesh.{list_of}
use Rattle.lists.proofs.Laws.{item_in}
use Rattle.rules.proofs.Scan.{up_to-more}
use Rattle.pairs.specs.Pairs.{mark_count, is_pair, note_at, same_two, meets}

abbrev pub mark_at : List ℕ → ℕ → List Bool → List Bool
mark_at l i seen = set seen (get_or l i 0 % mark_count) true

pub marks-more : (l : List ℕ) (seen₀ seen : List Bool) (i x y : ℕ) → x ≡ get_or l i 0 → y ≡ x → seen ≡ up_to (mark_at l) i seen₀ → set seen (y % mark_count) true ≡ up_to (mark_at l) (i + 1) seen₀
marks-more l seen₀ seen i x y ex ey h = rw (up_to-more, ← h, ey, ex)

-- the array that holds a list, at a place of the list
pub item-is : (per : Links) (i : ℕ) → i < length (list_of per) → get_or per.at i 0 ≡ get_or (list_of per) i 0
unfolding list_of
item-is per i on = sym (item_in per i (omega (arith, length-take per.len per.at)))

-- whether pair i runs from s to d: by that array, and by the vertex after
module _ (per : Links) (i s d : ℕ) (on : i < length (list_of per)) where
  pub pair-starts : s ≡ get_or per.at i 0 → (r : Bool) → r ≡ eqb d (get_or (list_of per) (after (length (list_of per)) i) 0) → is_pair (list_of per) i s d ≡ r
  unfolding is_pair
  pair-starts e r h = rw (eq-eqb _ _ (e ∙ item-is per i on), ← h)

  pub pair-elsewhere : (s ≡ get_or per.at i 0 → ⊥) → is_pair (list_of per) i s d ≡ false
  unfolding is_pair
  pair-elsewhere ne = rw (ne_eqb _ _ (λ e. ne (e ∙ sym (item-is per i on))))

module _ (per : List ℕ) (s d x : ℕ) (at₀ at : List ℕ) (i : ℕ) (h : at ≡ up_to (note_at per s d x) i at₀) where
  pub note-here : (y : ℕ) → is_pair per i s d ≡ true → y ≡ or_else (get_or at i 0) x → set at i y ≡ up_to (note_at per s d x) (i + 1) at₀
  unfolding note_at
  note-here y t ey = rw (up_to-more, ← h, t, ey)

  pub note-next : is_pair per i s d ≡ false → at ≡ up_to (note_at per s d x) (i + 1) at₀
  unfolding note_at
  note-next t = rw (up_to-more, ← h, t)

-- whether pair j, before pair i, joins a and b: by that array
pub pair-two : (per : Links) (i j n k a b : ℕ) → i < length (list_of per) → j < i → n ≡ length (list_of per) → k ≡ after n i → a ≡ get_or (list_of per) i 0 → b ≡ get_or (list_of per) k 0 → meets (list_of per) (get_or (list_of per) i 0) (get_or (list_of per) (after (length (list_of per)) i) 0) j ≡ same_two (get_or per.at j 0) (get_or per.at (j + 1) 0) a b
unfolding meets
pair-two per i j n k a b on before en ek ea eb =
    let l = list_of per in
    let next : after (length l) j ≡ j + 1 = rw (ne_eqb (j + 1) (length l) (λ e. omega arith)) in
    let isb : b ≡ get_or l (after (length l) i) 0 = rw (← en, ← ek) eb in
    rw (next, ← ea, ← isb, item-is per j (omega arith), item-is per (j + 1) (omega arith))
