-- `lists::all_differ` meets its contract. The loop keeps that the list is distinct if what is left of it is. Assumes nothing.
use borrow.Author.Rules.{rules}
use mathlib.Core.Path.{◌≡◌, ap, sym, ◌∙◌}
use lib.ListN.{take}
use Rattle.rules.specs.Table.{distinct}
use Rattle.rules.specs.Mesh.{list_of}
use Rattle.lists.proofs.Laws.{list-min, twice-here, twice-next, twice-end}
use Rattle.lists.proofs.all_differ.Goals as goal

pub returns-then-stands_from : goal.returns-then-stands_from
returns-then-stands_from c =
    let a = c.args in
    let xs = take c.min-n.result a.list.at in
    let all : xs ≡ list_of a.list = list-min a.list c.min-n.result (search rules) c.min-n.ensures in
    sym (ap distinct (sym all) ∙ c.loop-i.invariant ∙ twice-here xs c.loop-i.i c.loop-i-test.true (sym c.stands_from.ensures ∙ c.if-stands_from.true))

pub loop-i-preserved : goal.loop-i-preserved
loop-i-preserved c =
    let a = c.args in
    let xs = take c.min-n.result a.list.at in
    c.loop-i.invariant ∙ twice-next xs c.loop-i.i c.loop-i-test.true (sym c.stands_from.ensures ∙ c.if-stands_from.false)

pub returns : goal.returns
returns c =
    let a = c.args in
    let xs = take c.min-n.result a.list.at in
    let all : xs ≡ list_of a.list = list-min a.list c.min-n.result (search rules) c.min-n.ensures in
    sym (ap distinct (sym all) ∙ c.loop-i.invariant ∙ twice-end xs c.loop-i.i c.loop-i-test.false)
