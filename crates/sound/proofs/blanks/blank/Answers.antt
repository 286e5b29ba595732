-- `sound::blanks::blank` meets its contract: a used row, and one whose cells are all zero. Assumes nothing.
use Rattle.std.proofs.Common.{rules}
use Rattle.std.proofs.lemmas.Iterator.{YieldsList-from_slice}
use Rattle.std.proofs.lemmas.Iterator.Search.{all_from_yields_List}
use mathlib.Core.Path.{◌∙◌}
use borrow.Author.Tests.{tests, eq-eqb, ne_eqb}
use lib.Dec.{eqb}
use Rattle.sound.specs.Tests.{blank_row}
use Rattle.sound.proofs.Rows.{zero-cells}
use Rattle.sound.proofs.blanks.blank.Goals as goal

pub returns-then-row-ne0 : goal.returns-then-row-ne0
unfolding blank_row
returns-then-row-ne0 g c = rw (ne_eqb _ _ c.if-row-ne0.true)

pub returns-else-row-ne0 : goal.returns-else-row-ne0
unfolding blank_row
returns-else-row-ne0 g c =
    rw (eq-eqb _ _ c.if-row-ne0.false) (all_from_yields_List (λ y. eqb y 0) _ _ _ c.all.ensures.ran (YieldsList-from_slice c.args.row.now cc) (λ x b q k. search (rules, tests)) ∙ zero-cells c.args.row.now)
