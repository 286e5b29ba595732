-- `verdicts::decide::tables_hold` meets its contract. Assumes nothing.
use native.Mathlib.Omega.{arith}
use mathlib.Core.Path.{◌≡◌, sym, ◌∙◌}
use mathlib.Core.Bool.{◌&&◌}
use borrow.Author.Rules.{rules}
use borrow.Author.Tests.{le-leb, lt-leb}
use lib.Dec.{leb}
use lib.ListN.{length}
use Rattle.file.specs.File.{tables_hold}
use Rattle.bodies.specs.Bodies.{records_in}
use Rattle.fills.proofs.Ands.{four-hold, four-fail}
use Rattle.verdicts.proofs.decide.tables_hold.Goals as goal
use Rattle.verdicts.proofs.decide.tables_hold.Goals.{then-count-mesh, else-count-mesh, then-count-mesh-2, else-count-mesh-2}

pub returns-then-count-mesh-3 : goal.returns-then-count-mesh-3
unfolding tables_hold
returns-then-count-mesh-3 c =
    let t = c.args.file.text.now in
    let m = c.args.mesh in
    let v = leb (length (records_in t 0)) (length m.vertices.now) in
    let a = leb (length (records_in t 1)) (length m.arcs.now) in
    let e = leb (length (records_in t 2)) (length m.edges.now) in
    let f = leb (length (records_in t 3)) (length m.faces.now) in
    let two : c.if-count-mesh.value ≡ (v && a) =
    elim c.if-count-mesh.branch [
      | then-count-mesh w ↦
          rw (le-leb (length (records_in t 0)) (length m.vertices.now) (omega (arith, c.count.ensures.0, w.if-count-mesh.true)))
          (w.value-is ∙ rw w.count-then-count-mesh.ensures.0)
      | else-count-mesh w ↦
          rw (lt-leb (length (records_in t 0)) (length m.vertices.now) (omega (arith, c.count.ensures.0, w.if-count-mesh.false)))
          (w.value-is ∙ lt-leb c.count.result (length m.vertices.now) (search rules))
    ] in
    let three : c.if-count-mesh-2.value ≡ ((v && a) && e) =
    elim c.if-count-mesh-2.branch [
      | then-count-mesh-2 w ↦ rw (sym two ∙ w.if-count-mesh-2.true) (w.value-is ∙ rw w.count-then-count-mesh-2.ensures.0)
      | else-count-mesh-2 w ↦ rw (sym two ∙ w.if-count-mesh-2.false) (w.value-is ∙ w.if-count-mesh-2.false)
    ] in
    rw c.count-then-count-mesh-3.ensures.0 (four-hold v a e f c.if-count-mesh-2.value three c.if-count-mesh-3.true)

pub returns-else-count-mesh-3 : goal.returns-else-count-mesh-3
unfolding tables_hold
returns-else-count-mesh-3 c =
    let t = c.args.file.text.now in
    let m = c.args.mesh in
    let v = leb (length (records_in t 0)) (length m.vertices.now) in
    let a = leb (length (records_in t 1)) (length m.arcs.now) in
    let e = leb (length (records_in t 2)) (length m.edges.now) in
    let f = leb (length (records_in t 3)) (length m.faces.now) in
    let two : c.if-count-mesh.value ≡ (v && a) =
    elim c.if-count-mesh.branch [
      | then-count-mesh w ↦
          rw (le-leb (length (records_in t 0)) (length m.vertices.now) (omega (arith, c.count.ensures.0, w.if-count-mesh.true)))
          (w.value-is ∙ rw w.count-then-count-mesh.ensures.0)
      | else-count-mesh w ↦
          rw (lt-leb (length (records_in t 0)) (length m.vertices.now) (omega (arith, c.count.ensures.0, w.if-count-mesh.false)))
          (w.value-is ∙ lt-leb c.count.result (length m.vertices.now) (search rules))
    ] in
    let three : c.if-count-mesh-2.value ≡ ((v && a) && e) =
    elim c.if-count-mesh-2.branch [
      | then-count-mesh-2 w ↦ rw (sym two ∙ w.if-count-mesh-2.true) (w.value-is ∙ rw w.count-then-count-mesh-2.ensures.0)
      | else-count-mesh-2 w ↦ rw (sym two ∙ w.if-count-mesh-2.false) (w.value-is ∙ w.if-count-mesh-2.false)
    ] in
    four-fail v a e f c.if-count-mesh-2.value three c.if-count-mesh-3.false
