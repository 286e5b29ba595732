-- One copy more in each turn: laws of Whole.
use native.Mathlib.Omega.{arith}
use mathlib.Core.Path.{refl, ◌∙◌}
use mathlib.Core.List.{[]}
use Prim.Native.Nat.{◌<◌}
use lib.ListN.{length, length-set}
use Rattle.rules.specs.Mesh.{list_of}
use Rattle.rules.specs.Lent.{mesh_of}
use Rattle.rules.specs.Table.{up_to}
use Rattle.rules.proofs.Lent.{same-itself, same-then}
use Rattle.edges.proofs.Searches.{used-none, next-from}
use Rattle.edits.proofs.Whole.{copies-more, copies-all}
use Rattle.extrude.proofs.copies_in.Goals as goal

pub loop-i-init : goal.loop-i-init
unfolding up_to
loop-i-init c = (same-itself _, (refl, (used-none c.args.mesh.now.vertices.now, refl)))

pub copied-from-requires : goal.copied-from-requires
copied-from-requires c = c.loop-i.invariant.1.1.0

pub loop-i-preserved : goal.loop-i-preserved
loop-i-preserved c =
    let a = c.args in
    let l = c.loop-i in
    let g = c.copied-from in
    let v = l.invariant in
    let short : l.i < length l.at = omega (arith, c.size-n.ensures, c.known_few.ensures, v.1.0) in (
      same-then v.0 g.ensures.same,
      (
        length-set l.at l.i g.result ∙ v.1.0,
        (
          next-from (mesh_of l.mesh) (mesh_of g.new.mesh) _ g.result g.ensures.row g.ensures.vertex,
          copies-more a.by (list_of a.vs) (record { tables = mesh_of a.mesh.now; links = [] }) (mesh_of l.mesh) (mesh_of g.new.mesh) l.at l.i c.item.result g.result short v.1.1.1 c.item.ensures g.ensures.row g.ensures.vertex,
        ),
      ),
    )

pub returns : goal.returns
returns c =
    let a = c.args in
    let l = c.loop-i in
    record {
      copies = copies-all a.by (list_of a.vs) (mesh_of a.mesh.now) (mesh_of l.mesh) l.at l.i c.size-n.result (omega arith) c.size-n.ensures l.invariant.1.1.1;
      same = l.invariant.0;
    }
