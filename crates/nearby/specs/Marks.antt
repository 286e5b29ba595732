-- Vertices with a mark.
use Rattle.std.specs.Prelude.{ℕ, ◌≡◌, Bool, true, List, T}
use Rattle.rules.specs.Table.{has}
use Rattle.pairs.specs.Near.{is_marked}

-- the marks `seen` come of those before: what had a mark has one, and so has each vertex of the list
pub record Marks (before seen : List Bool) (list : List ℕ) : Type 0 where
  pub stays : (v : ℕ) → is_marked before v ≡ true → is_marked seen v ≡ true
  pub marked : (v : ℕ) → T (has list v) → is_marked seen v ≡ true
