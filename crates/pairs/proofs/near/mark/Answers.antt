-- `pairs::near::mark` meets its contract. The loop keeps the marks of as many numbers as it passed. Assumes nothing.
use Prim.Native.Nat.{◌<◌}
use native.Mathlib.Omega.{arith}
use mathlib.Core.Path.{◌≡◌, refl}
use lib.ListN.{length, get_or}
use borrow.Author.Rules.{rules}
use Rattle.rules.specs.Table.{up_to}
use Rattle.rules.specs.Mesh.{list_of}
use Rattle.lists.proofs.Laws.{list-size}
use Rattle.pairs.specs.Pairs.{marked_at}
use Rattle.pairs.proofs.Steps.{marks-more, item-is}
use Rattle.pairs.proofs.near.mark.Goals as goal

pub loop-i-init : goal.loop-i-init
unfolding up_to
loop-i-init c = refl

pub loop-i-preserved : goal.loop-i-preserved
loop-i-preserved c =
    let a = c.args in
    let i = c.loop-i.i in
    let on : i < length (list_of a.list) = omega (arith, list-size a.list c.min-i-end.result (search rules) c.min-i-end.ensures, c.loop-i-test.true) in
    marks-more (list_of a.list) a.seen.now c.loop-i.seen i (get_or a.list.at i 0) c.wide.result (item-is a.list i on) c.wide.ensures c.loop-i.invariant

pub returns : goal.returns
unfolding marked_at
returns c =
    let a = c.args in
    let all : c.loop-i.i ≡ length (list_of a.list) = omega (arith, c.loop-i.auto.i-end, c.loop-i-test.false, list-size a.list c.min-i-end.result (search rules) c.min-i-end.ensures) in
    rw all at c.loop-i.invariant
