-- The numbers passed stand in their places, and the rest is what is left of the text. Assumes nothing.
use Prim.Native.Nat.{◌+◌, ◌*◌}
use native.Mathlib.Omega.{arith}
use mathlib.Core.Path.{◌≡◌, ◌∙◌}
use borrow.Author.Rules.{rules}
use Rattle.writes.specs.Writing.{put_text, words_text}
use Rattle.writes.proofs.Texts.{words-next, words-end}
use Rattle.writes.proofs.words.put_words.Goals as goal

pub loop-i-init : goal.loop-i-init
loop-i-init c = (search rules, let none : c.args.at + 0 ≡ c.args.at = omega arith in rw none)

pub loop-i-preserved : goal.loop-i-preserved
loop-i-preserved c =
    let a = c.args in
    let call = c.put_word in
    (call.auto.out ∙ c.loop-i.invariant.0, words-next (put_text a.out.now a.at (words_text a.words.now)) c.loop-i.out call.new.out a.at c.loop-i.i a.words.now c.loop-i-test.true c.loop-i.invariant.1 call.ensures)

pub returns : goal.returns
returns c =
    let a = c.args in
    words-end (put_text a.out.now a.at (words_text a.words.now)) c.loop-i.out (a.at + 4 * c.loop-i.i) c.loop-i.i a.words.now c.loop-i-test.false c.loop-i.invariant.1
