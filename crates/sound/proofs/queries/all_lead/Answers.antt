use Rattle.std.proofs.Common.{rules}
use Rattle.std.proofs.lemmas.Iterator.{YieldsList-from_slice}
use Rattle.std.proofs.lemmas.Iterator.Search.{all_from_yields_List}
use mathlib.Core.Path.{◌∙◌}
use mathlib.Core.Bool.{not}
use Rattle.rules.specs.Call.{leadless}
use Rattle.names.proofs.Loops.{list-every}
use Rattle.sound.proofs.queries.all_lead.Goals as goal

pub returns : goal.returns
returns c =
    all_from_yields_List (λ x. not (leadless x)) _ _ _ c.all.ensures.ran (YieldsList-from_slice c.args.vertices.now cc) (λ x b q k. search rules) ∙ list-every (λ x. not (leadless x)) c.args.vertices.now
