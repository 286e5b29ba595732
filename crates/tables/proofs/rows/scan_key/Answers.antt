-- `tables::rows::scan_key` meets its contract. The invariant: no row before i has the key. Assumes nothing.
use mathlib.Core.List.{[]}
use borrow.Author.Count.{below_none, below_more}
use borrow.Author.Rules.{rules}
use Rattle.rules.specs.Mesh.{keyed}
use Rattle.rules.specs.Table.{first_row}
use Rattle.tables.proofs.Scans.{reached, into-large, into-found, into-none}
use Rattle.tables.proofs.rows.scan_key.Goals as goal

pub returns-then-t-gt-ROW_LIMIT : goal.returns-then-t-gt-ROW_LIMIT
returns-then-t-gt-ROW_LIMIT g c =
    let a = c.args in
    into-large a.t.now (first_row (keyed a.key) a.t.now) c.if-t-gt-ROW_LIMIT.true

pub loop-i-init : goal.loop-i-init
loop-i-init g c = below_none _

pub returns-then-holds_key : goal.returns-then-holds_key
returns-then-holds_key g c =
    let a = c.args in
    let here = reached (keyed a.key) a.t.now [] c.loop-i.i c.index-t-i.result _ _ (search rules) c.index-t-i.is c.holds_key.ensures c.if-holds_key.true in
    into-found (keyed a.key) a.t.now [] c.loop-i.i c.if-t-gt-ROW_LIMIT.false (search rules) c.loop-i.invariant here

pub loop-i-preserved : goal.loop-i-preserved
loop-i-preserved g c =
    let a = c.args in
    below_more _ _ c.loop-i.invariant (reached (keyed a.key) a.t.now [] c.loop-i.i c.index-t-i.result _ _ (search rules) c.index-t-i.is c.holds_key.ensures c.if-holds_key.false)

pub returns : goal.returns
returns g c =
    let a = c.args in
    into-none (keyed a.key) a.t.now [] c.loop-i.i (search rules) c.loop-i.invariant
