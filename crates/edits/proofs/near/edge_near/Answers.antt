-- The edge is there, or is made, and the list still tells.
use mathlib.Core.Path.{sym, subst, ap, ◌∙◌}
use Rattle.rules.specs.Mesh.{Mesh, arc_between}
use Rattle.rules.specs.Lent.{mesh_of}
use Rattle.rules.proofs.Lent.{same-itself}
use Rattle.pairs.specs.Near.{Near}
use Rattle.pairs.proofs.Filled.{near-stays}
use Rattle.insert.proofs.Filled.{Filled, filled-edge}
use Rattle.edits.proofs.Known.{edge-there, edge-made}
use Rattle.edits.proofs.near.edge_near.Goals as goal

pub arc_between-x-requires : goal.arc_between-x-requires
arc_between-x-requires c = subst (λ (m : Mesh). Near m.arcs c.args.around.now.near) (sym c.view.ensures) c.requires.near

pub returns-then-x-ne0 : goal.returns-then-x-ne0
returns-then-x-ne0 c =
    let a = c.args in
    let m = mesh_of a.mesh.now in
    let x = c.arc_between-x.ensures ∙ ap (λ (n : Mesh). arc_between n.arcs a.a a.b) c.view.ensures in
    record { edge = edge-there m m a.a a.b _ x c.if-x-ne0.true; arc = x; same = same-itself _ }

pub arc_between-requires : goal.arc_between-requires
arc_between-requires c =
    let a = c.args in
    let m = mesh_of a.mesh.now in
    let g = c.new_edge_from in
    let filled : Filled m (mesh_of g.new.mesh) = subst (Filled m) (sym g.ensures.edge) (filled-edge m a.a a.b) in
    let near = near-stays m.arcs g.new.mesh.arcs.now a.around.now.near filled.arcs c.requires.near in
    subst (λ (n : Mesh). Near n.arcs a.around.now.near) (sym c.view-2.ensures) near

pub returns : goal.returns
returns c =
    let a = c.args in
    let m = mesh_of a.mesh.now in
    let g = c.new_edge_from in
    let x = c.arc_between-x.ensures ∙ ap (λ (n : Mesh). arc_between n.arcs a.a a.b) c.view.ensures in
    record {
      edge = edge-made m (mesh_of g.new.mesh) a.a a.b _ x c.if-x-ne0.false g.ensures.edge;
      arc = c.arc_between.ensures ∙ ap (λ (n : Mesh). arc_between n.arcs a.a a.b) c.view-2.ensures;
      same = g.ensures.same;
    }
