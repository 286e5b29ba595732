-- `walks::rings::ring` meets its contract: the loop keeps `Going`, and each way out is one of its ends. Assumes nothing.
use native.Mathlib.Omega.{arith}
use borrow.Author.Rules.{rules}
use mathlib.Core.Path.{◌≡◌}
use Rattle.rules.specs.Table.{cell}
use Rattle.walks.proofs.Storing.{going_start, going-none, going-cut, going-closed, going_on}
use Rattle.walks.proofs.rings.ring.Goals as goal

pub loop-len-init : goal.loop-len-init
loop-len-init c = going_start (λ y. cell c.args.arcs.now y 2) c.args.first

pub returns-then-x-eq0 : goal.returns-then-x-eq0
returns-then-x-eq0 c =
    let a = c.args in
    let l = c.loop-len in
    going-none (λ y. cell a.arcs.now y 2) a.first l.at l.len l.x l.invariant c.if-x-eq0.true

pub returns-then-x-first : goal.returns-then-x-first
returns-then-x-first c =
    let a = c.args in
    let l = c.loop-len in
    going-closed (λ y. cell a.arcs.now y 2) a.first l.at l.len l.x l.invariant (search rules) c.if-x-eq0.false c.cell-x.result c.cell-x.ensures c.if-x-first.true

pub loop-len-preserved : goal.loop-len-preserved
loop-len-preserved c =
    let a = c.args in
    let l = c.loop-len in
    going_on (λ y. cell a.arcs.now y 2) a.first l.at l.len l.x l.invariant (search rules) c.if-x-eq0.false c.cell-x.result c.cell-x.ensures c.if-x-first.false

pub returns-then-x-eq0-2 : goal.returns-then-x-eq0-2
returns-then-x-eq0-2 c =
    let a = c.args in
    let l = c.loop-len in
    let all : l.len ≡ 64 = omega (arith, l.auto.len-end, c.loop-len-test.false) in
    rw all at (going-none (λ y. cell a.arcs.now y 2) a.first l.at l.len l.x l.invariant c.if-x-eq0-2.true)

pub returns-else-x-eq0-2 : goal.returns-else-x-eq0-2
returns-else-x-eq0-2 c =
    let a = c.args in
    let l = c.loop-len in
    let all : l.len ≡ 64 = omega (arith, l.auto.len-end, c.loop-len-test.false) in
    rw all at (going-cut (λ y. cell a.arcs.now y 2) a.first l.at l.len l.x l.invariant c.loop-len-test.false c.if-x-eq0-2.false)
