-- `script::dumps::put_keys` meets its contract. Two names, one text after the other. Assumes nothing.
use mathlib.Core.Path.{ap, ◌∙◌}
use native.Mathlib.Omega.{arith}
use Rattle.rules.specs.Script.{Text}
use Rattle.script.specs.Texts.{wrote}
use Rattle.script.specs.Dumps.{name_text}
use Rattle.script.proofs.Writes.{wrote_then}
use Rattle.script.proofs.RecordTexts.{keys-parts}
use Rattle.script.proofs.dumps.put_keys.Goals as goal

pub returns-clause-result_after : goal.returns-clause-result_after
returns-clause-result_after c =
    let o = c.args.out.now in
    let a = c.args in
    let x0 = c.put_name-next in
    let t0 : Text = name_text 1 a.a in
    let x1 = c.put_name in
    let t1 : Text = name_text 1 a.b in
    let w1 = wrote_then o a.at x0.new.out x1.new.out x0.result x1.result (t0) t1 (omega (arith, c.requires, x0.ensures.short, x1.ensures.short)) x0.ensures.result_after x1.ensures.result_after in
    w1 ∙ ap (wrote o a.at) (keys-parts a.a a.b)
