-- `pairs::same_two` meets its contract: the tests are those of the definition. Assumes nothing.
use mathlib.Core.Path.{refl}
use Rattle.pairs.specs.Pairs.{same_two}
use Rattle.pairs.proofs.same_two.Goals as goal

pub returns : goal.returns
unfolding same_two
returns c = refl
