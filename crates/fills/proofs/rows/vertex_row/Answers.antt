-- `fills::rows::vertex_row` meets its contract. Assumes nothing.
use native.Mathlib.Omega.{arith}
use mathlib.Core.Path.{◌≡◌, ◌∙◌}
use mathlib.Core.List.{[]}
use lib.ListN.{get_or}
use Rattle.file.specs.File.{contents_in, by_ends, unless_none}
use Rattle.bodies.specs.Bodies.{records_in}
use Rattle.fills.proofs.Made.{stored, vertex-held, vertex-made, when-named, when-none}
use Rattle.fills.proofs.rows.vertex_row.Goals as goal
use Rattle.fills.proofs.rows.vertex_row.Goals.{in-Some, in-None}

pub overflow_add-result : goal.overflow_add-result
overflow_add-result c = omega (arith, c.cell-key.ensures, vertex-held c.args.file.whole.file.text.now (stored c.args.file) c.args.i c.requires)

pub returns : goal.returns
returns c =
    let f = contents_in c.args.file.whole.file.text.now in
    let r = get_or (records_in c.args.file.whole.file.text.now 0) c.args.i [] in
    let key = c.cell-key.result in
    let end = c.cell-end.result in
    let leading : c.match-name_in.leading ≡ unless_none end (by_ends f key end) =
    elim c.match-name_in.branch [
      | in-Some w ↦ when-named (by_ends f key) end w.in-Some.end _ c.name_in.result c.name_in.ensures w.in-Some.is (w.leading-is ∙ w.by_ends-leading.ensures)
      | in-None w ↦ when-none end _ _ c.name_in.result c.name_in.ensures w.in-None.is w.leading-is
    ] in
    vertex-made f r key end c.match-name_in.leading c.cell-key.ensures c.cell-end.ensures leading
