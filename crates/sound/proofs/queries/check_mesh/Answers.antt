use mathlib.Core.Path.{sym, ◌∙◌}
use Rattle.rules.specs.Call.{finished, check_mesh}
use Rattle.sound.proofs.queries.check_mesh.Goals as goal

pub returns-then-not-is_sound : goal.returns-then-not-is_sound
unfolding check_mesh
returns-then-not-is_sound c = rw (sym c.is_sound.ensures ∙ c.if-not-is_sound.true)

pub returns-then-not-all_lead : goal.returns-then-not-all_lead
unfolding check_mesh finished
returns-then-not-all_lead c =
    rw (sym c.is_sound.ensures ∙ c.if-not-is_sound.false, sym c.all_lead.ensures ∙ c.if-not-all_lead.true)

pub returns : goal.returns
unfolding check_mesh finished
returns c =
    rw (sym c.is_sound.ensures ∙ c.if-not-is_sound.false, sym c.all_lead.ensures ∙ c.if-not-all_lead.false)
