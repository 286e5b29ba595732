-- `script::texts::shown_words` meets its contract. By whether the edit shows keys. Assumes nothing.
use mathlib.Core.Path.{sym, ◌∙◌}
use Rattle.script.specs.Texts.{shown_words}
use Rattle.script.proofs.texts.shown_words.Goals as goal

pub returns-then-shows_keys : goal.returns-then-shows_keys
unfolding shown_words
returns-then-shows_keys c = rw (sym c.shows_keys.ensures ∙ c.if-shows_keys.true) c.words_of-all.ensures

pub returns : goal.returns
unfolding shown_words
returns c = rw (sym c.shows_keys.ensures ∙ c.if-shows_keys.false, ← c.words_of-all.ensures) c.bare.ensures
