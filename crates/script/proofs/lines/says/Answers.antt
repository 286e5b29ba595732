-- The definition, at no keys.
use mathlib.Core.Path.{refl}
use Rattle.script.specs.Fields.{padded}
use Rattle.script.specs.Lines.{parsed_of}
use Rattle.script.proofs.lines.says.Goals as goal

pub returns : goal.returns
unfolding parsed_of padded
returns c = refl
