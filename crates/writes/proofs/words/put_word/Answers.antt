use mathlib.Core.Path.{ap, ◌∙◌}
use Rattle.writes.specs.Writing.{put_text}
use Rattle.writes.proofs.Texts.{four-bytes}
use Rattle.writes.proofs.words.put_word.Goals as goal

pub returns : goal.returns
returns c = c.put_bytes.ensures ∙ ap (put_text c.args.out.now c.args.at) (c.to_le_bytes.ensures ∙ four-bytes c.args.n)
