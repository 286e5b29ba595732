-- `script::texts::put_unreadable` meets its contract. The words are those of the refusal 2, and a newline ends the line. Assumes nothing.
use mathlib.Core.Path.{ap, ◌∙◌}
use mathlib.Core.List.{[], ◌∷◌}
use native.Mathlib.Omega.{arith}
use Rattle.script.specs.declared.Words.TheVariants.{No}
use Rattle.script.specs.Texts.{wrote, words_text}
use Rattle.script.proofs.Writes.{wrote_then, words-unreadable}
use Rattle.script.proofs.texts.put_unreadable.Goals as goal

pub returns-clause-result_after : goal.returns-clause-result_after
returns-clause-result_after c =
    let o = c.args.out.now in
    let w = c.put_words-next in
    let l = c.put_byte in
    wrote_then o c.args.at w.new.out l.new.out w.result l.result (words_text (No 2)) (10 ∷ []) (omega (arith, c.requires, w.ensures.short, l.ensures.next)) w.ensures.result_after l.ensures.result_after
    ∙ ap (wrote o c.args.at) words-unreadable
