-- Rows that become those of another table: one row, the rows of a list, the arcs of new edges, and all of them.
use Prim.Native.Nat.{ℕ, ◌+◌, ◌-◌, ◌≤◌, ◌<◌}
use native.Mathlib.Numerals.{add-one}
use native.Mathlib.Omega.{arith}
use native.Mathlib.Decide.{ℕ_discrete}
use borrow.Author.Count.{below_none, below_more}
use mathlib.Core.Path.{◌≡◌, refl, ap, sym, ◌∙◌, subst}
use mathlib.Core.Bool.{true}
use mathlib.Core.List.{List, [], ◌∷◌, ◌++◌}
use mathlib.Core.Logic.{◌⊎◌, inl, inr}
use Rattle.std.proofs.Common.{Some}
use lib.ListN.{length, get_or, take}
use lib.Seq.{ext_get_or, take-suc}
use Rattle.rules.specs.Table.{Table, has}
use Rattle.pairs.proofs.Has.{has-before}
use Rattle.pairs.proofs.Listing.{both}
use Rattle.nearby.specs.Rows.{Right, Toward, CopiedRow, Copied, RightIfNew, NewCopiedTo, NewCopied, OfNewEdge, DifferNear}

-- ---- one row

-- nothing is changed
pub toward-same : (o t : Table) → Toward o t t
toward-same o t = record { size = refl; stays = λ x r. r }

-- one change after another
pub toward-then : (o t n p : Table) → Toward o t n → Toward o n p → Toward o t p
toward-then o t n p a b = record { size = b.size ∙ a.size; stays = λ x r. b.stays x (a.stays x r) }

-- a link of no row copies nothing
pub copied-out : (o t : Table) (x : ℕ) → (1 ≤ x → x ≤ length t → ⊥) → CopiedRow o t t x
copied-out o t x n = (toward-same o t, λ a b. absurd (n a b))

-- two rows, one after the other
pub copied-both : (o t n p : Table) (x y : ℕ) → CopiedRow o t n x → CopiedRow o n p y → Toward o t p × (Right o p x × Right o p y)
copied-both o t n p x y c d = (toward-then o t n p c.0 d.0, (d.0.stays x c.1, d.1))

-- ---- the rows of a list

-- no row of a list is copied yet
pub copied_none : (o t : Table) (list : List ℕ) → Copied (take 0 list) o t t
unfolding has
copied_none o t list = (toward-same o t, λ x h. absurd (both (sym h)))

module _ (o t n p : Table) where
  -- one row more
  copied_more : (list : List ℕ) (y : ℕ) → Copied list o t n → CopiedRow o n p y → Copied (list ++ (y ∷ [])) o t p
  copied_more list y c d = (toward-then o t n p c.0 d.0, λ x h. go x h (ℕ_discrete x y))
    where
      go : (x : ℕ) → has (list ++ (y ∷ [])) x ≡ true → Dec (x ≡ y) → Right o p x
      go x h (yes e) = subst (Right o p) (sym e) d.1
      go x h (no ne) = d.0.stays x (c.1 x (has-before list y x ne h))

  -- as the code reads the list
  pub copied-read : (list : List ℕ) (k : ℕ) → k < length list → Copied (take k list) o t n → CopiedRow o n p (get_or list k 0) → Copied (take (k + 1) list) o t p
  copied-read list k l c d =
      subst (λ (z : List ℕ). Copied z o t p) (sym (ap (λ (j : ℕ). take j list) (add-one k) ∙ take-suc list k 0 l)) (copied_more (take k list) (get_or list k 0) c d)

-- ---- the arcs of new edges

module _ (were edges o : Table) where
  -- none yet
  pub new_none : (t : Table) → NewCopiedTo were edges o t t 0
  new_none t = (toward-same o t, below_none _)

  -- one edge more
  pub new-more : (t n p : Table) (i : ℕ) → NewCopiedTo were edges o t n i → Toward o n p × RightIfNew were edges o p i → NewCopiedTo were edges o t p (i + 1)
  new-more t n p i h d =
      (toward-then o t n p h.0 d.0, below_more _ i (λ k q new. (d.0.stays _ (h.1 k q new).0, d.0.stays _ (h.1 k q new).1)) d.1)

-- ---- all rows

-- tables with the same rows are equal
all_right : (o n : Table) → length n ≡ length o → ((x : ℕ) → Right o n x) → n ≡ o
all_right o n e h = ext_get_or [] n o e (λ i l. let w : i + 1 - 1 ≡ i = omega arith in subst (λ (j : ℕ). get_or n j [] ≡ get_or o j []) w (h (i + 1) (omega arith) (omega arith)))

-- the rows listed copied, then the arcs of new edges
module _ (o t mid n : Table) (list : List ℕ) (edges were : Table) (listed : Copied list o t mid) (new : NewCopied were edges o mid n) where
  named : (x : ℕ) (e : OfNewEdge were edges x) → (x ≡ get_or (get_or edges e.row []) 1 0) ⊎ (x ≡ get_or (get_or edges e.row []) 2 0) → Right o n x
  named x e (inl w) = subst (Right o n) (sym w) (new.1 e.row e.within e.new).0
  named x e (inr w) = subst (Right o n) (sym w) (new.1 e.row e.within e.new).1

  each : (x : ℕ) → Right o t x ⊎ ((has list x ≡ true) ⊎ OfNewEdge were edges x) → Right o n x
  each x (inl r) = new.0.stays x (listed.0.stays x r)
  each x (inr (inl h)) = new.0.stays x (listed.1 x h)
  each x (inr (inr e)) = named x e e.named

  -- so the tables are equal
  pub over-all : length t ≡ length o → DifferNear o t (Some list) edges were → n ≡ o
  over-all size differ = all_right o n (new.0.size ∙ listed.0.size ∙ size) (λ x. each x (differ x))
