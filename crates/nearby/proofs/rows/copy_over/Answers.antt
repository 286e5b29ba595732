-- `nearby::rows::copy_over` meets its contract: the listed rows and those of new edges, or all. Assumes nothing.
use mathlib.Core.Path.{ap, sym, ◌∙◌}
use Rattle.rules.specs.Lent.{mesh_of}
use Rattle.rules.specs.Mesh.{with_arcs}
use Rattle.tables.proofs.Lists.{over-same}
use Rattle.nearby.proofs.Right.{over-all}
use Rattle.nearby.proofs.rows.copy_over.Goals as goal

pub returns-in-Some-clause-value : goal.returns-in-Some-clause-value
returns-in-Some-clause-value c =
    let m = c.args.mesh.now in
    let r = c.args.room in
    let l = c.copy_listed in
    let z = c.copy_new in
    let all = over-all r.arcs.now m.arcs.now l.new.to z.new.mesh.arcs.now c.in-Some.list.now r.edges.now m.edges.now l.ensures z.ensures.copied c.requires.sizes.1 (rw c.in-Some.is at c.requires.differ_near) in
    z.ensures.arcs_alone ∙ ap (with_arcs (mesh_of m)) all

pub returns-in-None-clause-value : goal.returns-in-None-clause-value
returns-in-None-clause-value c =
    let m = c.args.mesh.now in
    let r = c.args.room in
    ap (with_arcs (mesh_of m)) (c.copy.ensures ∙ over-same r.arcs.now m.arcs.now (sym c.requires.sizes.1))
