-- The definition.
use Rattle.rules.specs.Script.{number_in}
use Rattle.script.proofs.fields.number.Goals as goal

pub returns : goal.returns
unfolding number_in
returns c = c.digits.ensures
