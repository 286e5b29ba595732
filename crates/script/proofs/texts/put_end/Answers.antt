-- `script::texts::put_end` meets its contract. The word, the counts and the newline, one text after the other. Assumes nothing.
use mathlib.Core.Path.{ap, ◌∙◌}
use mathlib.Core.List.{[], ◌∷◌, ◌++◌}
use native.Mathlib.Omega.{arith}
use Rattle.rules.specs.Script.{spaced}
use Rattle.script.specs.Texts.{wrote}
use Rattle.script.proofs.Writes.{wrote_then, end-parts}
use Rattle.script.proofs.texts.put_end.Goals as goal

pub returns-clause-result_after : goal.returns-clause-result_after
returns-clause-result_after c =
    let o = c.args.out.now in
    let w = c.put_two-word in
    let x = c.put_byte-counts in
    let y = c.put_three-last in
    let z = c.put_byte in
    let counts = spaced (c.args.v ∷ c.args.e ∷ c.args.f ∷ []) in
    let two = wrote_then o c.args.at w.new.out x.new.out w.result x.result (101 ∷ 110 ∷ []) (100 ∷ []) (omega (arith, c.requires, w.ensures.next, x.ensures.next)) w.ensures.result_after x.ensures.result_after in
    let three = wrote_then o c.args.at x.new.out y.new.out x.result y.result ((101 ∷ 110 ∷ []) ++ (100 ∷ [])) counts (omega (arith, c.requires, w.ensures.next, x.ensures.next, y.ensures.short)) two y.ensures.result_after in
    wrote_then o c.args.at y.new.out z.new.out y.result z.result (((101 ∷ 110 ∷ []) ++ (100 ∷ [])) ++ counts) (10 ∷ []) (omega (arith, c.requires, w.ensures.next, x.ensures.next, y.ensures.short, z.ensures.next)) three z.ensures.result_after
    ∙ ap (wrote o c.args.at) (end-parts c.args.v c.args.e c.args.f)
