-- Each body where the one before ends. Assumes nothing.
use native.Mathlib.Omega.{arith}
use Rattle.rules.specs.Lent.{mesh_in}
use Rattle.writes.proofs.Whole.{sizes, four-bodies}
use Rattle.writes.proofs.files.put_bodies.Goals as goal

pub put_body-arcs_at-requires-clause-kind_in_bounds : goal.put_body-arcs_at-requires-clause-kind_in_bounds
put_body-arcs_at-requires-clause-kind_in_bounds c = omega (arith, c.requires.faces_in_bounds, sizes (mesh_in c.args.mesh))

pub put_body-edges_at-requires-clause-kind_in_bounds : goal.put_body-edges_at-requires-clause-kind_in_bounds
put_body-edges_at-requires-clause-kind_in_bounds c = omega (arith, c.requires.faces_in_bounds, sizes (mesh_in c.args.mesh), c.put_body-arcs_at.ensures.next, c.put_body-arcs_at.auto.out)

pub put_body-faces_at-requires-clause-kind_in_bounds : goal.put_body-faces_at-requires-clause-kind_in_bounds
put_body-faces_at-requires-clause-kind_in_bounds c = omega (arith, c.requires.faces_in_bounds, sizes (mesh_in c.args.mesh), c.put_body-edges_at.ensures.next, c.put_body-edges_at.auto.out, c.put_body-arcs_at.ensures.next, c.put_body-arcs_at.auto.out)

pub put_body-requires-clause-kind_in_bounds : goal.put_body-requires-clause-kind_in_bounds
put_body-requires-clause-kind_in_bounds c = omega (arith, c.requires.faces_in_bounds, sizes (mesh_in c.args.mesh), c.put_body-faces_at.ensures.next, c.put_body-faces_at.auto.out, c.put_body-edges_at.ensures.next, c.put_body-edges_at.auto.out, c.put_body-arcs_at.ensures.next, c.put_body-arcs_at.auto.out)

pub returns : goal.returns
returns c =
    let one = c.put_body-arcs_at in
    let two = c.put_body-edges_at in
    let three = c.put_body-faces_at in
    let four = c.put_body in
    four-bodies (mesh_in c.args.mesh) c.args.out.now one.new.out two.new.out three.new.out four.new.out one.result two.result three.result
    one.ensures.out_after one.ensures.next two.ensures.out_after two.ensures.next three.ensures.out_after three.ensures.next four.ensures.out_after
