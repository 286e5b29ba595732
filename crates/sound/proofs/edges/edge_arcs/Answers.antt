-- `sound::edges::edge_arcs` meets its contract: laws of Ends for each way out. Assumes nothing.
use mathlib.Core.Path.{sym, ◌∙◌}
use lib.ListN.{get_or}
use Rattle.sound.proofs.RingLinked.{row-none, row-some}
use Rattle.sound.proofs.Ends.{unused-passes, first_out, second-out, swaps-out, ends-tell}
use Rattle.sound.proofs.edges.edge_arcs.Goals as goal

pub returns-then-row-eq0 : goal.returns-then-row-eq0
returns-then-row-eq0 c = unused-passes _ _ _ _ c.if-row-eq0.true

pub returns-in_default : goal.returns-in_default
returns-in_default c = first_out _ _ _ _ c.if-row-eq0.false (row-none c.args.arcs.now (get_or c.args.row 1 0) c.in_default.ensures)

pub returns-in_default-row_of : goal.returns-in_default-row_of
returns-in_default-row_of c =
    second-out _ _ _ _ c.if-row-eq0.false (row-none c.args.arcs.now (get_or c.args.row 2 0) c.in_default-row_of.ensures)

pub returns-else-opposites : goal.returns-else-opposites
returns-else-opposites c =
    c.if-opposites.false ∙ swaps-out _ _ _ _ c.if-row-eq0.false c.in-Some.p c.in-Some-row_of.q (row-some c.args.arcs.now (get_or c.args.row 1 0) c.in-Some.p c.in-Some.ensures) (row-some c.args.arcs.now (get_or c.args.row 2 0) c.in-Some-row_of.q c.in-Some-row_of.ensures) (sym c.opposites.ensures ∙ c.if-opposites.false)

pub returns-then-opposites : goal.returns-then-opposites
returns-then-opposites c =
    let a = c.args in
    c.two_vertices.ensures ∙ ends-tell a.vertices.now a.arcs.now _ a.e c.if-row-eq0.false c.in-Some.p c.in-Some-row_of.q (row-some c.args.arcs.now (get_or c.args.row 1 0) c.in-Some.p c.in-Some.ensures) (row-some c.args.arcs.now (get_or c.args.row 2 0) c.in-Some-row_of.q c.in-Some-row_of.ensures) (sym c.opposites.ensures ∙ c.if-opposites.true)
