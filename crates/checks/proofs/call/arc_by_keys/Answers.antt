-- `checks::call::arc_by_keys` meets its contract. The two vertices, then the arc between them. Assumes nothing.
use mathlib.Core.Path.{◌∙◌}
use Rattle.rules.specs.Call.{arc_by_keys}
use Rattle.checks.proofs.call.arc_by_keys.Goals as goal

pub returns : goal.returns
unfolding arc_by_keys
returns c = λ ps es fs ks. c.find_arc.ensures ∙ rw (c.find_key-a.ensures, c.find_key-b.ensures)
