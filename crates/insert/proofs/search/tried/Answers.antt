-- The last of the three cases: nothing was found before, and the arc is not held.
use mathlib.Core.Path.{refl, sym, ◌∙◌}
use mathlib.Core.Logic.{inr}
use Rattle.insert.proofs.search.tried.Goals as goal

pub returns : goal.returns
returns c = inr (inr (sym c.is_some.ensures ∙ c.if-is_some.false, c.if-held.false, refl, refl))
