-- `nearby::rows::copy_new` meets its contract. The loop keeps which arcs of new edges are copied, and that nothing else is written. Assumes nothing.
use Rattle.std.proofs.Common.{rules}
use native.Mathlib.Omega.{arith}
use mathlib.Core.Path.{◌≡◌, refl, ap, sym, ◌∙◌}
use Rattle.rules.specs.Lent.{SameMesh}
use Rattle.rules.specs.Mesh.{Mesh, with_arcs}
use Rattle.nearby.proofs.Right.{new_none, new-more}
use Rattle.nearby.proofs.rows.copy_new.Goals as goal

pub loop-i-init : goal.loop-i-init
loop-i-init c =
    let m = c.args.mesh.now in
    let r = c.args.room in
    (search rules, (refl, new_none m.edges.now r.edges.now r.arcs.now m.arcs.now))

pub copy_arcs-requires : goal.copy_arcs-requires
copy_arcs-requires c =
    let same = c.loop-i.invariant.0 in
    (c.loop-i-test.true, (c.requires.0 ∙ sym same.long_edges, same.long_arcs ∙ c.requires.1))

pub loop-i-preserved : goal.loop-i-preserved
loop-i-preserved c =
    let m = c.args.mesh.now in
    let r = c.args.room in
    let v = c.loop-i.invariant in
    let z = c.copy_arcs in
    let edges : c.loop-i.mesh.edges.now ≡ m.edges.now = ap (λ (x : Mesh). x.edges) v.1.0 in
    let same : SameMesh m z.new.mesh = search rules in
    (same, (z.ensures.arcs_alone ∙ ap (λ (x : Mesh). with_arcs x z.new.mesh.arcs.now) v.1.0, new-more m.edges.now r.edges.now r.arcs.now m.arcs.now c.loop-i.mesh.arcs.now z.new.mesh.arcs.now c.loop-i.i v.1.1 (rw edges at z.ensures.copied)))

pub returns-clause-copied : goal.returns-clause-copied
returns-clause-copied c = let v = c.loop-i.invariant.1.1 in (v.0, λ k q. v.1 k (omega arith))
