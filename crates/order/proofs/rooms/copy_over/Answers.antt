-- `order::rooms::copy_over` meets its contract. The arcs, then the other tables. Assumes nothing.
use native.Mathlib.Omega.{arith}
use mathlib.Core.Path.{ap, sym, ◌∙◌}
use lib.ListN.{length}
use Rattle.rules.specs.Mesh.{Mesh, mesh}
use Rattle.tables.proofs.Lists.{over-same}
use Rattle.order.proofs.rooms.copy_over.Goals as goal

pub copy_over-requires : goal.copy_over-requires
copy_over-requires c =
    let z = c.requires.same_size in
    record {
      sizes = (sym z.edges, z.arcs);
      differ_near = c.requires.differ_near;
    }

pub returns-clause-value : goal.returns-clause-value
returns-clause-value c =
    let r = c.args.room in
    let m = c.copy_over.new.mesh in
    let z = c.requires.same_size in
    let w = c.copy_over.ensures.value in
    let vs = c.copy.ensures ∙ over-same r.vertices.now m.vertices.now (omega (arith, z.vertices, ap (λ (x : Mesh). length x.vertices) w)) in
    let ps = c.copy-2.ensures ∙ over-same r.positions.now m.positions.now (omega (arith, z.positions, ap (λ (x : Mesh). length x.positions) w)) in
    let es = c.copy-3.ensures ∙ over-same r.edges.now m.edges.now (omega (arith, z.edges, ap (λ (x : Mesh). length x.edges) w)) in
    let fs = c.copy-4.ensures ∙ over-same r.faces.now m.faces.now (omega (arith, z.faces, ap (λ (x : Mesh). length x.faces) w)) in
    λ i. mesh (vs i) (ps i) (w i).arcs (es i) (fs i) (w i).counters
