-- `script::dumps::put_hex` meets its contract. The digits are those of the sixteenth, and the last one. Assumes nothing.
use mathlib.Core.Path.{ap, ◌∙◌}
use mathlib.Core.List.{[], ◌∷◌, ◌++◌}
use Prim.Native.Nat.{ℕ, ◌-◌, ◌/◌}
use native.Mathlib.Omega.{arith}
use Rattle.rules.specs.Dump.{hex_before}
use Rattle.script.specs.Texts.{wrote}
use Rattle.script.proofs.Writes.{wrote_none, wrote_then}
use Rattle.script.proofs.RecordTexts.{hex-none, hex-more}
use Rattle.script.proofs.dumps.+put_hex.Goals as goal

pub returns-then-places-eq0-clause-result_after : goal.returns-then-places-eq0-clause-result_after
returns-then-places-eq0-clause-result_after t c =
    let a = c.args in
    wrote_none a.out.now a.at (omega arith) ∙ ap (wrote a.out.now a.at) (hex-none a.places a.n c.if-places-eq0.true)

pub returns-clause-result_after : goal.returns-clause-result_after
returns-clause-result_after t c =
    let o = c.args.out.now in
    let a = c.args in
    let w = c.put_hex-next in
    let l = c.put_byte in
    wrote_then o a.at w.new.out l.new.out w.result l.result (hex_before (a.places - 1) (a.n / 16) []) (c.hex_digit.result ∷ []) (omega (arith, w.ensures.next, l.ensures.next)) w.ensures.result_after l.ensures.result_after
    ∙ ap (λ (x : ℕ). wrote o a.at (hex_before (a.places - 1) (a.n / 16) [] ++ (x ∷ []))) c.hex_digit.ensures
    ∙ ap (wrote o a.at) (hex-more a.places a.n c.if-places-eq0.false)
