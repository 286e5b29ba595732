-- `fills::rows::arc_row` meets its contract. Assumes nothing.
use mathlib.Core.Path.{◌≡◌, ◌∙◌}
use mathlib.Core.List.{[]}
use lib.ListN.{get_or}
use Rattle.file.specs.File.{contents_in, by_key, by_ends, unless_none}
use Rattle.bodies.specs.Bodies.{records_in}
use Rattle.fills.proofs.Made.{arc-made, when-named, when-none}
use Rattle.fills.proofs.rows.arc_row.Goals as goal
use Rattle.fills.proofs.rows.arc_row.Goals.{in-Some, in-None, in-Some-name_in, in-None-name_in, in-Some-name_in-2, in-None-name_in-2}

pub returns : goal.returns
returns c =
    let f = contents_in c.args.file.whole.file.text.now in
    let r = get_or (records_in c.args.file.whole.file.text.now 1) c.args.i [] in
    let a = c.cell-a.result in
    let b = c.cell-b.result in
    let after = c.cell-after.result in
    let prior = c.cell-prior.result in
    let face = c.cell-face.result in
    let next : c.match-name_in.next ≡ unless_none after (by_ends f b after) =
    elim c.match-name_in.branch [
      | in-Some w ↦ when-named (by_ends f b) after w.in-Some.end _ c.name_in.result c.name_in.ensures w.in-Some.is (w.next-is ∙ w.arc_near-next.ensures)
      | in-None w ↦ when-none after _ _ c.name_in.result c.name_in.ensures w.in-None.is w.next-is
    ] in
    let previous : c.match-name_in-2.previous ≡ unless_none prior (by_ends f prior a) =
    elim c.match-name_in-2.branch [
      | in-Some-name_in w ↦
          when-named (λ start. by_ends f start a) prior w.in-Some-name_in.start _ c.name_in-2.result c.name_in-2.ensures w.in-Some-name_in.is
          (w.previous-is ∙ w.arc_near-previous.ensures)
      | in-None-name_in w ↦ when-none prior _ _ c.name_in-2.result c.name_in-2.ensures w.in-None-name_in.is w.previous-is
    ] in
    let bounds : c.match-name_in-3.bounds ≡ unless_none face (by_key f 3 face) =
    elim c.match-name_in-3.branch [
      | in-Some-name_in-2 w ↦
          when-named (by_key f 3) face w.in-Some-name_in-2.key _ c.name_in-3.result c.name_in-3.ensures w.in-Some-name_in-2.is (w.bounds-is ∙ w.by_key-bounds.ensures)
      | in-None-name_in-2 w ↦ when-none face _ _ c.name_in-3.result c.name_in-3.ensures w.in-None-name_in-2.is w.bounds-is
    ] in
    arc-made f r a b after prior face c.cell-edge.result
    c.by_key.result c.by_key-2.result c.match-name_in.next c.match-name_in-2.previous c.match-name_in-3.bounds c.by_key-3.result
    c.cell-a.ensures c.cell-b.ensures c.cell-after.ensures c.cell-prior.ensures c.cell-face.ensures c.cell-edge.ensures
    c.by_key.ensures c.by_key-2.ensures next previous bounds c.by_key-3.ensures
