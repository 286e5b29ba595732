-- A scan from the row where the blocks of used rows stop: laws of Searches and Scans.
use mathlib.Core.List.{[]}
use native.Mathlib.Omega.{arith}
use borrow.Author.Count.{below_more}
use borrow.Author.Tests.{eq-eqb, ne_eqb}
use Rattle.rules.specs.Table.{first_row, unused, free_row}
use Rattle.tables.proofs.Scans.{into-large, into-found, into-none}
use Rattle.edges.proofs.Searches.{used-within, used-missed}
use borrow.Author.Rules.{rules}
use Rattle.edges.proofs.free.free_row.Goals as goal

pub returns-then-rows-gt-ROW_LIMIT : goal.returns-then-rows-gt-ROW_LIMIT
unfolding free_row
returns-then-rows-gt-ROW_LIMIT g c =
    let t = c.args.rows.now in
    into-large t (first_row unused t) c.if-rows-gt-ROW_LIMIT.true

pub skip-i-requires : goal.skip-i-requires
skip-i-requires g c =
    let o = c.saturating_sub-start in
    (search rules, (search rules, used-within c.args.rows.now c.args.from o.result o.ensures c.requires.used_before))

pub loop-i-init : goal.loop-i-init
loop-i-init g c =
    let o = c.saturating_sub-start in
    used-missed c.args.rows.now c.args.from o.result c.skip-i.result o.ensures c.requires.used_before c.skip-i.ensures.1.1

pub returns-then-rows-i-eq0 : goal.returns-then-rows-i-eq0
unfolding free_row
returns-then-rows-i-eq0 g c =
    into-found unused c.args.rows.now [] c.loop-i.i c.if-rows-gt-ROW_LIMIT.false (omega arith) c.loop-i.invariant (eq-eqb _ _ c.if-rows-i-eq0.true)

pub loop-i-preserved : goal.loop-i-preserved
loop-i-preserved g c = below_more _ _ c.loop-i.invariant (ne_eqb _ _ c.if-rows-i-eq0.false)

pub returns : goal.returns
unfolding free_row
returns g c =
    into-none unused c.args.rows.now [] c.loop-i.i (omega arith) c.loop-i.invariant
