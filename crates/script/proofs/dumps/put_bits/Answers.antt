-- `script::dumps::put_bits` meets its contract. The prefix, and then sixteen digits, one text after the other. Assumes nothing.
use mathlib.Core.Path.{ap, ◌∙◌}
use mathlib.Core.List.{[], ◌∷◌, ◌++◌}
use Prim.Native.Nat.{ℕ}
use native.Mathlib.Omega.{arith}
use Rattle.rules.specs.Script.{Text}
use Rattle.rules.specs.Dump.{hex_before}
use Rattle.script.specs.Texts.{wrote}
use Rattle.script.proofs.Writes.{wrote_then}
use Rattle.script.proofs.RecordTexts.{bits-parts}
use Rattle.script.proofs.dumps.put_bits.Goals as goal

pub returns-clause-result_after : goal.returns-clause-result_after
returns-clause-result_after c =
    let o = c.args.out.now in
    let a = c.args in
    let x0 = c.put_two-prefix in
    let t0 : Text = 32 ∷ 48 ∷ [] in
    let x1 = c.put_byte-digits in
    let t1 : Text = 120 ∷ [] in
    let x2 = c.put_hex in
    let t2 : Text = hex_before 16 c.bits_of.result [] in
    let w1 = wrote_then o a.at x0.new.out x1.new.out x0.result x1.result (t0) t1 (omega (arith, c.requires, x0.ensures.next, x1.ensures.next)) x0.ensures.result_after x1.ensures.result_after in
    let w2 = wrote_then o a.at x1.new.out x2.new.out x1.result x2.result ((t0) ++ t1) t2 (omega (arith, c.requires, x0.ensures.next, x1.ensures.next, x2.ensures.next)) (w1) x2.ensures.result_after in
    w2 ∙ ap (wrote o a.at) (ap (λ (b : ℕ). ((32 ∷ 48 ∷ []) ++ (120 ∷ [])) ++ hex_before 16 b []) c.bits_of.ensures ∙ bits-parts a.x)
