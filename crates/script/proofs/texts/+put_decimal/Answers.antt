-- `script::texts::put_decimal` meets its contract. Its digits are those of its tenth, and the last one. Assumes nothing.
use mathlib.Core.Path.{◌≡◌, ap, sym, ◌∙◌}
use mathlib.Core.List.{[], ◌∷◌, ◌++◌}
use Prim.Native.Nat.{ℕ, ◌+◌, ◌/◌, ◌%◌}
use native.Mathlib.Omega.{arith}
use lib.ListN.{length, length-append}
use Rattle.rules.specs.Script.{decimal}
use Rattle.script.specs.Texts.{wrote}
use Rattle.script.proofs.Writes.{next-at, wrote_then, decimal-one, decimal-more}
use Rattle.script.proofs.texts.+put_decimal.Goals as goal

-- a number of two digits or more has one more than its tenth
longer : (n : ℕ) → decimal n ≡ decimal (n / 10) ++ ((48 + n % 10) ∷ []) → length (decimal n) ≡ length (decimal (n / 10)) + 1
longer n e = ap length e ∙ length-append (decimal (n / 10)) ((48 + n % 10) ∷ [])

pub put_byte-requires : goal.put_byte-requires
put_byte-requires t c = omega (arith, c.requires, ap length (decimal-one c.args.n c.if-n-lt10.true))

pub returns-then-n-lt10 : goal.returns-then-n-lt10
returns-then-n-lt10 t c =
    c.put_byte.ensures.result_after ∙ ap (wrote c.args.out.now c.args.at) (sym (decimal-one c.args.n c.if-n-lt10.true))

pub put_decimal-next-requires : goal.put_decimal-next-requires
put_decimal-next-requires t c =
    let n = c.args.n in
    let e = decimal-more n c.if-n-lt10.false c.ranges.n.fits in
    (omega arith, omega (arith, c.requires, longer n e))

pub put_byte-requires-2 : goal.put_byte-requires-2
put_byte-requires-2 t c =
    let n = c.args.n in
    let w = c.put_decimal-next in
    let e = decimal-more n c.if-n-lt10.false c.ranges.n.fits in
    omega (arith, c.requires, longer n e, w.auto.out, next-at c.args.out.now c.args.at w.new.out w.result (decimal (n / 10)) w.ensures)

pub returns : goal.returns
returns t c =
    let o = c.args.out.now in
    let n = c.args.n in
    let w = c.put_decimal-next in
    let l = c.put_byte-2 in
    let e = decimal-more n c.if-n-lt10.false c.ranges.n.fits in
    let first = next-at o c.args.at w.new.out w.result (decimal (n / 10)) w.ensures in
    wrote_then o c.args.at w.new.out l.new.out w.result l.result (decimal (n / 10)) ((48 + n % 10) ∷ []) (omega (arith, c.requires, longer n e, first, l.ensures.next)) w.ensures l.ensures.result_after
    ∙ ap (wrote o c.args.at) (sym e)
