-- For the blocks of rows without a mark: the marks of a block put together.
use Prim.Native.Nat.{ℕ, ◌+◌, ◌%◌}
use mathlib.Core.Path.{◌≡◌}
use mathlib.Core.Bool.{Bool, false, ◌||◌}
use mathlib.Core.List.{List, []}
use lib.ListN.{get_or}
use Rattle.rules.specs.Table.{Table}
use Rattle.tables.proofs.Runs.{row-after}
use Rattle.pairs.specs.Pairs.{mark_count, NoMarks}
use Rattle.pairs.proofs.Below.{or_left, or_right}

-- t tells of the k rows gone through, the mark at s of the row that follows
pub one_more_lem : (arcs : Table) (seen : List Bool) (i k s : ℕ) (t : Bool) → s ≡ get_or (get_or arcs (i + k) []) 0 0 → (t ≡ false → NoMarks arcs seen i (i + k)) → (t || get_or seen (s % mark_count) false) ≡ false → NoMarks arcs seen i (i + (k + 1))
one_more_lem arcs seen i k s t es h e =
    let m : Bool = get_or seen (s % mark_count) false in
    row-after _ i k (h (or_left t m e)) (rw (← es) (or_right t m e))
