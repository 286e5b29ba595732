-- The numbers passed stand in their places, and the rest is what is left of the text. Assumes nothing.
use Prim.Native.Nat.{◌+◌, ◌*◌}
use mathlib.Core.Path.{◌≡◌}
use lib.ListN.{length, drop}
use Rattle.writes.specs.Writing.{put_text, words_text}
use Rattle.writes.proofs.words.put_words.Given as goal

abbrev pub invariant-loop-i : goal.invariant-loop-i
invariant-loop-i l =
    (length l.out ≡ length l.initial.out)
    × (put_text l.initial.out l.at (words_text l.words) ≡ put_text l.out (l.at + 4 * l.i) (words_text (drop l.i l.words)))
