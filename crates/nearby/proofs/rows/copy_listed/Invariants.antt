-- `nearby::rows::copy_listed` meets its contract. The loop keeps which rows of the list are copied; laws of Right. Assumes nothing.
use mathlib.Core.Path.{◌≡◌}
use lib.ListN.{length, take}
use Rattle.nearby.specs.Rows.{Copied}
use Rattle.nearby.proofs.rows.copy_listed.Given as goal

abbrev pub invariant-loop-x : goal.invariant-loop-x
invariant-loop-x l = (length l.to ≡ length l.initial.to) × Copied (take l.x-index l.list) l.from l.initial.to l.to
