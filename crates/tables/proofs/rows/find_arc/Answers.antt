-- `tables::rows::find_arc` meets its contract. The invariant: no row before it joins a to b. Assumes nothing.
use mathlib.Core.List.{[]}
use mathlib.Core.Path.{sym, ◌∙◌}
use borrow.Author.Count.{below_none, below_more}
use borrow.Author.Rules.{rules}
use borrow.Author.Tests.{eq-eqb, ne_eqb}
use Rattle.rules.specs.Mesh.{joins, arc_between}
use Rattle.rules.specs.Table.{first_row}
use Rattle.tables.proofs.Scans.{into-large, into-found, into-none}
use Rattle.tables.proofs.rows.find_arc.Goals as goal

pub returns-then-a-eq0 : goal.returns-then-a-eq0
unfolding arc_between
returns-then-a-eq0 c = rw (eq-eqb _ _ c.if-a-eq0.true)

pub returns-then-arcs-gt-ROW_LIMIT : goal.returns-then-arcs-gt-ROW_LIMIT
unfolding arc_between
returns-then-arcs-gt-ROW_LIMIT c =
    let a = c.args in
    rw (ne_eqb _ _ c.if-a-eq0.false) (into-large a.arcs.now (first_row (joins a.a a.b) a.arcs.now) c.if-arcs-gt-ROW_LIMIT.true)

pub loop-arc-init : goal.loop-arc-init
loop-arc-init c = below_none _

pub returns-then-joins : goal.returns-then-joins
unfolding arc_between
returns-then-joins c =
    let a = c.args in
    rw (ne_eqb _ _ c.if-a-eq0.false) (into-found (joins a.a a.b) a.arcs.now [] c.loop-arc.arc c.if-arcs-gt-ROW_LIMIT.false (search rules) c.loop-arc.invariant (sym c.joins.ensures ∙ c.if-joins.true))

pub loop-arc-preserved : goal.loop-arc-preserved
loop-arc-preserved c = below_more _ _ c.loop-arc.invariant (sym c.joins.ensures ∙ c.if-joins.false)

pub returns : goal.returns
unfolding arc_between
returns c =
    let a = c.args in
    rw (ne_eqb _ _ c.if-a-eq0.false) (into-none (joins a.a a.b) a.arcs.now [] c.loop-arc.arc (search rules) c.loop-arc.invariant)
