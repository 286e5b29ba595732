-- `script::dumps::put_edge` meets its contract. The parts of the line, one text after the other. Assumes nothing.
use mathlib.Core.Path.{ap, ◌∙◌}
use mathlib.Core.List.{[], ◌∷◌, ◌++◌}
use native.Mathlib.Omega.{arith}
use Rattle.rules.specs.Script.{Text, spaced}
use Rattle.script.specs.Texts.{wrote}
use Rattle.script.specs.Dumps.{name_text}
use Rattle.script.proofs.Writes.{wrote_then}
use Rattle.script.proofs.RecordTexts.{edge-parts}
use Rattle.script.proofs.dumps.put_edge.Goals as goal

pub returns-clause-result_after : goal.returns-clause-result_after
returns-clause-result_after c =
    let o = c.args.out.now in
    let a = c.args in
    let x0 = c.put_byte-first in
    let t0 : Text = 69 ∷ [] in
    let x1 = c.put_spaced-second in
    let t1 : Text = spaced (a.key ∷ []) in
    let x2 = c.put_name-last in
    let t2 : Text = name_text 2 a.arc in
    let x3 = c.put_byte in
    let t3 : Text = 10 ∷ [] in
    let w1 = wrote_then o a.at x0.new.out x1.new.out x0.result x1.result (t0) t1 (omega (arith, c.requires, x0.ensures.next, x1.ensures.short)) x0.ensures.result_after x1.ensures.result_after in
    let w2 = wrote_then o a.at x1.new.out x2.new.out x1.result x2.result ((t0) ++ t1) t2 (omega (arith, c.requires, x0.ensures.next, x1.ensures.short, x2.ensures.short)) (w1) x2.ensures.result_after in
    let w3 = wrote_then o a.at x2.new.out x3.new.out x2.result x3.result (((t0) ++ t1) ++ t2) t3 (omega (arith, c.requires, x0.ensures.next, x1.ensures.short, x2.ensures.short, x3.ensures.next)) (w2) x3.ensures.result_after in
    w3 ∙ ap (wrote o a.at) (edge-parts a.key a.arc)
