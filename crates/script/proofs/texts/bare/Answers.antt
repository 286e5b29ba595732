-- `script::texts::bare` meets its contract. The definition at each case. Assumes nothing.
use mathlib.Core.Path.{ap, sym}
use Rattle.script.specs.Texts.{bare_of}
use Rattle.script.proofs.texts.bare.Goals as goal

pub returns-in-No : goal.returns-in-No
unfolding bare_of
returns-in-No c = sym (ap bare_of c.in-No.is)

pub returns-in-Bare : goal.returns-in-Bare
unfolding bare_of
returns-in-Bare c = sym (ap bare_of c.in-Bare.is)

pub returns-in-One : goal.returns-in-One
unfolding bare_of
returns-in-One c = sym (ap bare_of c.in-One.is)

pub returns-in-Two : goal.returns-in-Two
unfolding bare_of
returns-in-Two c = sym (ap bare_of c.in-Two.is)
