-- `script::texts::put_words` meets its contract. The word, and then each number, one text after the other. Assumes nothing.
use mathlib.Core.Path.{ap, sym, ◌∙◌}
use mathlib.Core.List.{[], ◌∷◌, ◌++◌}
use native.Mathlib.Omega.{arith}
use Rattle.rules.specs.Script.{Text, bytes, spaced}
use Rattle.script.specs.declared.Words.{Words}
use Rattle.script.specs.Texts.{wrote, words_text}
use Rattle.script.proofs.Writes.{wrote_then, spaced-two}
use Rattle.script.proofs.texts.put_words.Goals as goal

pub returns-in-No-clause-result_after : goal.returns-in-No-clause-result_after
unfolding words_text bytes
returns-in-No-clause-result_after c =
    let o = c.args.out.now in
    let w = c.put_two-next in
    let l = c.put_spaced in
    wrote_then o c.args.at w.new.out l.new.out w.result l.result (110 ∷ 111 ∷ []) (spaced (c.in-No.n ∷ [])) (omega (arith, c.requires, w.ensures.next, l.ensures.short)) w.ensures.result_after l.ensures.result_after
    ∙ sym (ap (λ (x : Words). wrote o c.args.at (words_text x)) c.in-No.is)

pub returns-in-Bare-clause-result_after : goal.returns-in-Bare-clause-result_after
unfolding words_text bytes
returns-in-Bare-clause-result_after c =
    let l = c.put_two in
    l.ensures.result_after ∙ sym (ap (λ (x : Words). wrote c.args.out.now c.args.at (words_text x)) c.in-Bare.is)

pub returns-in-One-clause-result_after : goal.returns-in-One-clause-result_after
unfolding words_text bytes
returns-in-One-clause-result_after c =
    let o = c.args.out.now in
    let w = c.put_two-next-in-One in
    let l = c.put_spaced-in-One in
    wrote_then o c.args.at w.new.out l.new.out w.result l.result (111 ∷ 107 ∷ []) (spaced (c.in-One.a ∷ [])) (omega (arith, c.requires, w.ensures.next, l.ensures.short)) w.ensures.result_after l.ensures.result_after
    ∙ sym (ap (λ (x : Words). wrote o c.args.at (words_text x)) c.in-One.is)

pub returns-in-Two-clause-result_after : goal.returns-in-Two-clause-result_after
unfolding words_text bytes
returns-in-Two-clause-result_after c =
    let o = c.args.out.now in
    let w = c.put_two-next-in-Two in
    let x = c.put_spaced-more in
    let y = c.put_spaced-in-Two in
    let a = c.in-Two.a in
    let b = c.in-Two.b in
    let one = wrote_then o c.args.at w.new.out x.new.out w.result x.result (111 ∷ 107 ∷ []) (spaced (a ∷ [])) (omega (arith, c.requires, w.ensures.next, x.ensures.short)) w.ensures.result_after x.ensures.result_after in
    wrote_then o c.args.at x.new.out y.new.out x.result y.result ((111 ∷ 107 ∷ []) ++ spaced (a ∷ [])) (spaced (b ∷ [])) (omega (arith, c.requires, w.ensures.next, x.ensures.short, y.ensures.short)) one y.ensures.result_after
    ∙ ap (λ (t : Text). wrote o c.args.at ((111 ∷ 107 ∷ []) ++ t)) (spaced-two a b)
    ∙ sym (ap (λ (x : Words). wrote o c.args.at (words_text x)) c.in-Two.is)
