-- `script::texts::put_answer` meets its contract. The words that are shown are the definition's text, and a newline ends the line. Assumes nothing.
use mathlib.Core.Path.{ap, ◌∙◌}
use mathlib.Core.List.{[], ◌∷◌, ◌++◌}
use native.Mathlib.Omega.{arith}
use Rattle.rules.specs.Lent.{answered}
use Rattle.script.specs.declared.Words.{Words}
use Rattle.script.specs.Texts.{wrote, words_text}
use Rattle.script.proofs.Writes.{wrote_then, words-answer}
use Rattle.script.proofs.texts.put_answer.Goals as goal

pub returns-clause-result_after : goal.returns-clause-result_after
returns-clause-result_after c =
    let o = c.args.out.now in
    let w = c.put_words-next in
    let l = c.put_byte in
    let e = c.shown_words in
    wrote_then o c.args.at w.new.out l.new.out w.result l.result (words_text e.result) (10 ∷ []) (omega (arith, c.requires, w.ensures.short, l.ensures.next)) w.ensures.result_after l.ensures.result_after
    ∙ ap (λ (x : Words). wrote o c.args.at (words_text x ++ (10 ∷ []))) e.ensures
    ∙ ap (wrote o c.args.at) (words-answer c.args.e (answered c.args.answer))
