-- `insert::search::none` meets its contract. Assumes nothing.
use mathlib.Core.Path.{refl}
use Rattle.rules.specs.Mesh.{list_of}
use Rattle.insert.proofs.search.none.Goals as goal

pub returns : goal.returns
unfolding list_of
returns c = refl
