-- An edge is made where there is no arc from a to b, and else nothing is written.
use mathlib.Core.Path.{ap, sym, ◌∙◌}
use borrow.Author.Tests.{eq-eqb, ne_eqb}
use Rattle.rules.specs.Mesh.{Mesh, find_arc}
use Rattle.rules.specs.Link.{get_or_insert_edge}
use Rattle.edges.proofs.edge.get_or_insert_edge.Goals as goal

pub returns-then-find_arc-eq0-clause-edge : goal.returns-then-find_arc-eq0-clause-edge
unfolding get_or_insert_edge
returns-then-find_arc-eq0-clause-edge c =
    let there = c.find_arc.ensures ∙ ap (λ (m : Mesh). find_arc m c.args.a c.args.b) c.view.ensures in
    rw (eq-eqb _ _ (sym there ∙ c.if-find_arc-eq0.true)) c.new_edge.ensures.edge

pub returns-else-find_arc-eq0-clause-edge : goal.returns-else-find_arc-eq0-clause-edge
unfolding get_or_insert_edge
returns-else-find_arc-eq0-clause-edge c =
    let there = c.find_arc.ensures ∙ ap (λ (m : Mesh). find_arc m c.args.a c.args.b) c.view.ensures in
    rw (ne_eqb _ _ (λ q. c.if-find_arc-eq0.false (there ∙ q)))
