-- `pairs::perimeter_arcs` meets its contract. The loop keeps what the rows passed by have told of each pair; laws of Pass. Assumes nothing.
use Prim.Native.Nat.{◌+◌}
use lib.ListN.{replicate}
use Rattle.rules.specs.Mesh.{list_of}
use Rattle.lists.proofs.Laws.{list-few}
use Rattle.pairs.proofs.Pass.{pass-start, pass-run, pass-note, pass-end, pass-large}
use borrow.Author.Rules.{rules}
use Rattle.pairs.proofs.perimeter_arcs.Goals as goal

pub returns-then-arcs-gt-ROW_LIMIT : goal.returns-then-arcs-gt-ROW_LIMIT
returns-then-arcs-gt-ROW_LIMIT c =
    let a = c.args in
    pass-large a.arcs.now (list_of a.per) c.size-len.result c.size-len.ensures (list-few c.args.per (search rules)) c.if-arcs-gt-ROW_LIMIT.true

pub loop-i-init : goal.loop-i-init
loop-i-init c =
    let a = c.args in
    let arcs = a.arcs.now in
    let per = list_of a.per in
    let m = c.marks-seen in
    (search rules, pass-run arcs per 0 c.skip-i.result (replicate 64 0) m.result m.ensures c.skip-i.ensures.0 c.skip-i.ensures.1.1 (pass-start arcs per))

pub loop-i-preserved : goal.loop-i-preserved
loop-i-preserved c =
    let n = c.note in
    let a = c.args in
    let arcs = a.arcs.now in
    let per = list_of a.per in
    let i = c.loop-i.i in
    let one = pass-note arcs per i c.loop-i.at n.new.at (list-few c.args.per (search rules)) c.if-arcs-gt-ROW_LIMIT.false (search rules) n.ensures c.loop-i.invariant.1 in
    let r = c.skip-i-in-loop-i in
    (r.ensures.1.0, pass-run arcs per (i + 1) r.result n.new.at c.marks-seen.result c.marks-seen.ensures r.ensures.0 r.ensures.1.1 one)

pub returns : goal.returns
returns c =
    let a = c.args in
    pass-end a.arcs.now (list_of a.per) c.loop-i.i c.loop-i.at c.size-len.result c.size-len.ensures (list-few c.args.per (search rules)) c.loop-i-test.false c.loop-i.invariant.1
