-- `script::texts::put_spaced` meets its contract. A space, and then the digits, of which there are at most ten. Assumes nothing.
use mathlib.Core.Path.{ap, ◌∙◌}
use mathlib.Core.List.{[], ◌∷◌}
use native.Mathlib.Omega.{arith}
use Rattle.rules.specs.Script.{decimal}
use Rattle.script.specs.Texts.{wrote}
use Rattle.script.proofs.Writes.{next-at, wrote_then, decimal-short, spaced-one}
use Rattle.script.proofs.texts.put_spaced.Goals as goal

pub put_decimal-requires : goal.put_decimal-requires
put_decimal-requires c = omega (arith, decimal-short c.args.n c.ranges.n.fits, c.put_byte-next.auto.out)

pub returns-clause-result_after : goal.returns-clause-result_after
returns-clause-result_after c =
    let n = c.args.n in
    let w = c.put_byte-next in
    let l = c.put_decimal in
    let e = next-at w.new.out w.result l.new.out l.result (decimal n) l.ensures in
    let h = decimal-short n c.ranges.n.fits in
    wrote_then c.args.out.now c.args.at w.new.out l.new.out w.result l.result (32 ∷ []) (decimal n) (omega (arith, c.requires, w.ensures.next, e, h)) w.ensures.result_after l.ensures
    ∙ ap (wrote c.args.out.now c.args.at) (spaced-one n)

pub returns-clause-short : goal.returns-clause-short
returns-clause-short c =
    let l = c.put_decimal in
    let e = next-at c.put_byte-next.new.out c.put_byte-next.result l.new.out l.result (decimal c.args.n) l.ensures in
    omega (arith, c.put_byte-next.ensures.next, e, decimal-short c.args.n c.ranges.n.fits)
