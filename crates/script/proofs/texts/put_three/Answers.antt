-- `script::texts::put_three` meets its contract. Three numbers, one text after the other. Assumes nothing.
use mathlib.Core.Path.{ap, ◌∙◌}
use mathlib.Core.List.{[], ◌∷◌, ◌++◌}
use native.Mathlib.Omega.{arith}
use Rattle.rules.specs.Script.{spaced}
use Rattle.script.specs.Texts.{wrote}
use Rattle.script.proofs.Writes.{wrote_then, spaced-three}
use Rattle.script.proofs.texts.put_three.Goals as goal

pub returns-clause-result_after : goal.returns-clause-result_after
returns-clause-result_after c =
    let o = c.args.out.now in
    let x = c.put_spaced-second in
    let y = c.put_spaced-third in
    let z = c.put_spaced in
    let two = wrote_then o c.args.at x.new.out y.new.out x.result y.result (spaced (c.args.a ∷ [])) (spaced (c.args.b ∷ [])) (omega (arith, c.requires, x.ensures.short, y.ensures.short)) x.ensures.result_after y.ensures.result_after in
    wrote_then o c.args.at y.new.out z.new.out y.result z.result (spaced (c.args.a ∷ []) ++ spaced (c.args.b ∷ [])) (spaced (c.args.c ∷ [])) (omega (arith, c.requires, x.ensures.short, y.ensures.short, z.ensures.short)) two z.ensures.result_after
    ∙ ap (wrote o c.args.at) (spaced-three c.args.a c.args.b c.args.c)
