-- The checks of a face insert before any arc is looked for: rule 5 of document 01 up to its lookups, and document 02's L6.
use Rattle.std.specs.Prelude.{cond, List, ℕ}
use Rattle.rules.specs.Answer.{Answer}
use Rattle.rules.specs.Answer.{Done, Refused}
use Rattle.rules.specs.declared.Refusal.TheVariants.{TopologyMalformed, TopologyNotFound, SamePlace}
use Rattle.rules.specs.Table.{has}
use Rattle.rules.specs.Mesh.{Mesh}
use Rattle.rules.specs.Insert.{malformed, has_hair}

unfoldable pub named_so : Mesh → List ℕ → List ℕ → Answer
named_so m names per =
    cond (malformed names) (Refused TopologyMalformed)
    (cond (has per 0) (Refused TopologyNotFound)
    (cond (has_hair m per) (Refused SamePlace) Done))
